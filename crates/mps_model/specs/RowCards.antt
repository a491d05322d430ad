-- Cards of the rows.
use Rattle.std.specs.Prelude.{ℕ, List, [], ◌∷◌, ◌++◌, length, Option, Some, None, Result, Ok, Err, is_some, nat_lt, if◌then◌else◌, codes}
use Rattle.lp_model.specs.declared.RowKind.TheVariants.{L, G, E}
use Rattle.lp_model.specs.Edit.{same_bytes, with_row}
use Rattle.lp_text.specs.Cards.{field_of}
use Rattle.lp_text.specs.Limits.{row_limit}
use Rattle.lp_text.specs.declared.Counted.TheVariants as counted
use Rattle.lp_text.specs.declared.LineFault.{LineFault}
use Rattle.lp_text.specs.declared.LineFault.TheVariants as fault
use Rattle.mps_model.specs.declared.RowType.{RowType}
use Rattle.mps_model.specs.declared.RowType.TheVariants.{Free, Kept}
use Rattle.mps_model.specs.DeckSoFar.{DeckSoFar, place_of}

-- the type of a word
abbrev pub row_type_of : List ℕ → Option RowType
row_type_of word =
    if same_bytes word (codes "N") then Some Free
    else if same_bytes word (codes "L") then Some (Kept L)
    else if same_bytes word (codes "G") then Some (Kept G)
    else if same_bytes word (codes "E") then Some (Kept E)
    else None

-- a free row's name; the first one is the objective's
abbrev pub with_free_row : DeckSoFar → List ℕ → DeckSoFar
with_free_row s name = record s {
  deck = elim s.free_rows [ [] ↦ record s.deck { objective = name } | first ∷ others ↦ s.deck ];
  free_rows = s.free_rows ++ name ∷ [];
}

-- the deck so far with a row; the limit counts the rows that the deck keeps
abbrev pub with_row_of : DeckSoFar → List ℕ → RowType → Result DeckSoFar LineFault
with_row_of s name Free = Ok (with_free_row s name)
with_row_of s name (Kept kind) = if nat_lt (length s.deck.rows) row_limit then Ok (record s { deck = with_row s.deck name kind }) else Err (fault.Limit counted.Rows)

-- a card with a row's type and its name: a type that is none, a name that was given before, then the limit of rows
abbrev pub judge_row : DeckSoFar → List (List ℕ) → Result DeckSoFar LineFault
judge_row s fields =
    let name = field_of fields 2 in
    elim (row_type_of (field_of fields 1)) [
      | None ↦ Err fault.RowType
      | Some kind ↦ if is_some (place_of s name) then Err fault.Repeated else with_row_of s name kind
    ]
