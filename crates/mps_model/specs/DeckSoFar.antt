-- The deck so far: what the cards before a line have come to.
use Rattle.std.specs.Prelude.{ℕ, List, [], ◌∷◌, Option, Some, None, Result, Ok, Err, Bool, false, if◌then◌else◌}
use Rattle.std.specs.List.{list_any}
use Rattle.lp_model.specs.Deck.{Deck}
use Rattle.lp_model.specs.Edit.{find_row, new_deck, same_bytes}
use Rattle.lp_text.specs.declared.LineFault.{LineFault}
use Rattle.mps_model.specs.declared.Section.{Section}

-- ── steps ──

-- a step that is taken where the first one has no fault
abbrev pub and_then : {T U : Type 0} → Result T LineFault → (T → Result U LineFault) → Result U LineFault
and_then (Ok x) step = step x
and_then (Err fault) step = Err fault

-- ── the deck so far ──

-- what the cards before a line have come to
pub record DeckSoFar : Type 0 where
  -- the sections that have begun, the last one first
  pub begun : List Section
  pub deck : Deck
  -- the next card is to hold the sense
  pub awaits_sense : Bool
  -- the names of the N rows; the first is the objective's, the others are dropped
  pub free_rows : List (List ℕ)
  -- the set that the section's first card of data names
  pub set : Option (List ℕ)
  -- the rows that the cards of the last column, or of the section, have named
  pub named : List (List ℕ)
  -- the columns whose lower end a bound has set
  pub lowered : List ℕ

-- before the first card
abbrev pub no_cards : DeckSoFar
no_cards = record { begun = []; deck = new_deck [] []; awaits_sense = false; free_rows = []; set = None; named = []; lowered = [] }

-- whether a name is among names
abbrev pub is_among : List ℕ → List (List ℕ) → Bool
is_among name names = list_any (same_bytes name) names

-- what a row's name stands for: the objective, the row of an index, or an N row that is dropped
pub data RowPlace : Type 0 where
  objective : RowPlace
  row : ℕ → RowPlace
  dropped : RowPlace

-- what a name stands for among the N rows, if it is one of theirs
abbrev pub free_place : List (List ℕ) → List ℕ → Option RowPlace
free_place [] name = None
free_place (first ∷ others) name = if same_bytes first name then Some objective else if is_among name others then Some dropped else None

-- what a name stands for among the rows, if it is one
abbrev pub place_of : DeckSoFar → List ℕ → Option RowPlace
place_of s name = elim (find_row s.deck name) [ None ↦ free_place s.free_rows name | Some i ↦ Some (row i) ]
