-- Tokens as the fields of a card.
use Rattle.std.specs.Prelude.{ℕ, List, [], ◌∷◌, Option, Some, None, Result, Ok, Err}
use Rattle.lp_text.specs.declared.LineFault.{LineFault}
use Rattle.lp_text.specs.declared.LineFault.TheVariants as fault
use Rattle.mps_model.specs.CardFields.{without_set}
use Rattle.mps_reader.specs.declared.fields.Cut.{Cut}
use Rattle.mps_reader.specs.declared.fields.Cut.TheVariants.{Columns, Tokens}
use Rattle.mps_reader.specs.declared.fields.Layout.{Layout}
use Rattle.mps_reader.specs.declared.fields.Layout.TheVariants.{KindWithoutSet, Whole, WithoutKind, WithoutSet}

-- the fields that tokens are
abbrev pub laid_out : Layout → List (List ℕ) → List (List ℕ)
laid_out Whole tokens = tokens
laid_out WithoutKind tokens = [] ∷ tokens
laid_out WithoutSet tokens = [] ∷ [] ∷ tokens
laid_out KindWithoutSet tokens = without_set tokens

-- the fields, or the fault that the number of tokens is where there is no layout
abbrev pub laid : Option Layout → List (List ℕ) → Result (List (List ℕ)) LineFault
laid None tokens = Err fault.Token
laid (Some layout) tokens = Ok (laid_out layout tokens)

abbrev pub fields_of : Cut → List (List ℕ)
fields_of (Columns fields) = fields
fields_of (Tokens tokens layout) = laid_out layout tokens
