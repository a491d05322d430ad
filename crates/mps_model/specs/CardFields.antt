-- The fields of a card of data: those of its columns, or in free form those that its tokens are. A field that is not given is empty.
use Rattle.std.specs.Prelude.{ℕ, ◌%◌, List, [], ◌∷◌, length, Result, Ok, Err, Bool, true, false, ◌&&◌, ◌||◌, ◌==◌, not, if◌then◌else◌, codes}
use Rattle.lp_model.specs.Edit.{same_bytes}
use Rattle.lp_text.specs.Cards.{field_of}
use Rattle.lp_text.specs.declared.LineFault.{LineFault}
use Rattle.lp_text.specs.declared.LineFault.TheVariants as fault
use Rattle.mps_model.specs.declared.BoundKind.{BoundKind}
use Rattle.mps_model.specs.declared.Section.{Section}
use Rattle.mps_model.specs.declared.Section.TheVariants.{Bounds, Columns, Ranges, RightSides, Rows}
use Rattle.mps_model.specs.BoundCards.{has_number, kind_of}
use Rattle.mps_model.specs.DeckSoFar.{and_then}

-- the text that marks integer columns
abbrev pub is_marker : List ℕ → Bool
is_marker text = same_bytes text (codes "'MARKER'")

-- ── fixed columns ──

-- the fields of a card in the section that has begun last; a card that marks integer columns is refused
abbrev pub fixed_fields : List Section → List (List ℕ) → Result (List (List ℕ)) LineFault
fixed_fields (Columns ∷ begun) fields = if is_marker (field_of fields 3) || is_marker (field_of fields 4) then Err fault.Integer else Ok fields
fixed_fields begun fields = Ok fields

-- ── free form ──

-- tokens that are fields as they stand, where their number is right
abbrev pub counted_tokens : Bool → List (List ℕ) → Result (List (List ℕ)) LineFault
counted_tokens true fields = Ok fields
counted_tokens false fields = Err fault.Token

-- a name, and one or two pairs of a row and a number
abbrev pub named_pairs : List (List ℕ) → Result (List (List ℕ)) LineFault
named_pairs tokens = counted_tokens (length tokens == 3 || length tokens == 5) ([] ∷ tokens)

-- the same with the set's name first, which is not given where the number of tokens is even
abbrev pub pairs_of_set : List (List ℕ) → Result (List (List ℕ)) LineFault
pairs_of_set tokens = named_pairs (if length tokens % 2 == 0 then [] ∷ tokens else tokens)

-- a kind of bound without a set's name behind it
abbrev pub without_set : List (List ℕ) → List (List ℕ)
without_set [] = []
without_set (kind ∷ tokens) = kind ∷ [] ∷ tokens

-- a bound: its kind, the set's name if it is given, the column, and the number where the kind has one; where it has none, a set's name and one token more may stand, which is ignored
abbrev pub bound_tokens : BoundKind → List (List ℕ) → Result (List (List ℕ)) LineFault
bound_tokens kind tokens =
    if length tokens == (if has_number kind then 3 else 2) then Ok (without_set tokens)
    else counted_tokens (length tokens == 4 || (length tokens == 3 && not (has_number kind))) tokens

-- the fields of a card's tokens in the section that has begun last
abbrev pub free_fields : List Section → List (List ℕ) → Result (List (List ℕ)) LineFault
free_fields (Rows ∷ begun) tokens = counted_tokens (length tokens == 2) tokens
free_fields (Columns ∷ begun) tokens = if is_marker (field_of tokens 2) then Err fault.Integer else named_pairs tokens
free_fields (RightSides ∷ begun) tokens = pairs_of_set tokens
free_fields (Ranges ∷ begun) tokens = pairs_of_set tokens
free_fields (Bounds ∷ begun) tokens = and_then (kind_of (field_of tokens 1)) (λ kind. bound_tokens kind tokens)
-- no card of data is admitted here
free_fields begun tokens = Ok tokens
