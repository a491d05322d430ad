-- A draft that stands for the deck so far.
use Rattle.std.specs.Prelude.{◌≡◌, ℕ, zero, suc, ◌+◌, ◌-◌, ◌<◌, List, [], ◌∷◌, length, position, slice_index_or, Option, Some, None, Bool, true, false, ◌==◌, is_some, Result, Ok, Err, codes}
use Rattle.std.specs.List.{list_any}
use Rattle.std.specs.Option.{option_map}
use Rattle.lp_model.specs.Deck.{Column, Deck, Interval, column}
use Rattle.lp_model.specs.Edit.{find_column, find_row, has_entry, same_bytes}
use Rattle.sparse_cols.specs.Work.{value_in}
use Rattle.mps_model.specs.declared.Section.{Section}
use Rattle.mps_model.specs.declared.Section.TheVariants.{Columns, Rows}
use Rattle.mps_model.specs.Sections.{has_begun, may_begin}
use Rattle.mps_model.specs.PairCards.{judge_pairs}
use Rattle.mps_model.specs.BoundCards.{judge_bound}
use Rattle.lp_text.specs.declared.LineFault.{LineFault}
use Rattle.mps_model.specs.DeckSoFar.{DeckSoFar, RowPlace, dropped, is_among, objective, row}
use Rattle.mps_reader.specs.declared.bounds.Ends.{Ends}
use Rattle.mps_reader.specs.declared.draft.Draft.{Draft}
use Rattle.mps_reader.specs.declared.draft.Place.{Place}
use Rattle.mps_reader.specs.declared.draft.Place.TheVariants.{Dropped, Objective, Row}
use Rattle.mps_reader.specs.declared.pairs.Use.{Use}
use Rattle.mps_reader.specs.declared.pairs.Use.TheVariants.{InColumn, AsRight, AsRange}
use Rattle.mps_reader.specs.declared.refusal.Refusal.{Refusal}
use Rattle.mps_reader.specs.Inner.Uses.{use_is}
use Rattle.mps_reader.specs.Inner.Refusals.{line_fault}

-- ── the deck of a draft ──

-- the bounds between two ends
abbrev pub interval_of : Ends → Interval
interval_of ends = record { lower = ends.lower; upper = ends.upper }

-- the columns with these bounds
abbrev pub with_ends : List Column → List Ends → List Column
with_ends [] ends = []
with_ends (c ∷ cs) [] = c ∷ cs
with_ends (c ∷ cs) (e ∷ ends) = record c { bounds = interval_of e } ∷ with_ends cs ends

-- the deck with the name of the first N row as its objective's, or none, and with these bounds
abbrev pub deck_with : Deck → List (List ℕ) → List Ends → Deck
deck_with d free_rows ends = record d { objective = slice_index_or free_rows 0 []; columns = with_ends d.columns ends }

-- the objective's name before the first N row; no card spells it, since in fixed columns it is too long, and in free form a blank parts tokens
abbrev pub no_objective_name : List ℕ
no_objective_name = codes "no objective"

-- a name that a card may spell
abbrev pub IsSpelled : List ℕ → Type 0
IsSpelled name = same_bytes no_objective_name name ≡ false

-- ── rows by their names ──

-- the place of a row's name, as the definitions have it
abbrev pub place_is : Place → RowPlace
place_is Objective = objective
place_is (Row i) = row i
place_is (Dropped k) = dropped

-- the number of a place, where the rows come first and the N rows after them
abbrev pub slot_is : ℕ → Place → ℕ
slot_is rows Objective = rows
slot_is rows (Row i) = i
slot_is rows (Dropped k) = k

-- the number of a name by its index among the rows, of which there are so many, or else among the N rows
abbrev pub slot_with : ℕ → Option ℕ → Option ℕ → Option ℕ
slot_with rows (Some i) k = Some i
slot_with rows None k = option_map (λ n. rows + n) k

-- the number of a row's name
abbrev pub slot_of : Deck → List (List ℕ) → List ℕ → Option ℕ
slot_of d free_rows name = slot_with (length d.rows) (find_row d name) (position (λ n. same_bytes n name) free_rows)

-- whether the row of a number is marked
abbrev pub is_marked : List (Option Bool) → Option ℕ → Bool
is_marked marks None = false
is_marked marks (Some k) = is_some (value_in marks k)

-- whether a bound has set the lower end of column j
abbrev pub is_lowered : List Ends → ℕ → Bool
is_lowered [] j = false
is_lowered (e ∷ ends) zero = e.is_lowered
is_lowered (e ∷ ends) (suc j) = is_lowered ends j

-- ── sections ──

-- each section might begin after those before it
abbrev pub IsOrdered : List Section → Type 0
IsOrdered [] = Unit {0}
IsOrdered (section ∷ begun) = (may_begin section begun ≡ true) × IsOrdered begun

-- ── the draft ──

-- the draft is what the cards have come to
pub record IsDraftOf (draft : Draft) (s : DeckSoFar) : Type 0 where
  pub begun : s.begun ≡ draft.begun.items
  pub deck : s.deck ≡ deck_with draft.deck draft.free_rows.keys draft.bounds.items
  pub awaits : s.awaits_sense ≡ draft.awaits_sense
  pub free_rows : s.free_rows ≡ draft.free_rows.keys
  pub set : s.set ≡ draft.set
  -- a row is named exactly where it is marked
  pub named : (name : List ℕ) → is_among name s.named ≡ is_marked draft.named (slot_of draft.deck draft.free_rows.keys name)
  pub lowered : (j : ℕ) → list_any (λ k. k == j) s.lowered ≡ is_lowered draft.bounds.items j
  -- each column has its ends, and the rows and N rows have a mark each once the columns have begun
  pub bounded : length draft.bounds.items ≡ length draft.deck.columns
  pub marks : has_begun Columns s.begun ≡ true → length draft.named ≡ length draft.deck.rows + length draft.free_rows.keys
  pub objective : draft.deck.objective ≡ slice_index_or draft.free_rows.keys 0 no_objective_name
  pub ordered : IsOrdered s.begun
  pub early : has_begun Columns s.begun ≡ false → draft.deck.columns ≡ []
  pub blank : has_begun Columns s.begun ≡ false → draft.named ≡ []
  -- in the section of the columns, the last one has entries in marked rows alone
  pub entered : (before : List Section) → s.begun ≡ Columns ∷ before → (i : ℕ) → has_entry (column draft.deck (length draft.deck.columns - 1)).entries i ≡ true → is_marked draft.named (Some i) ≡ true

-- ── where a draft stands ──

-- the section of the rows is the last that has begun
abbrev pub InRows : Draft → Type 0
InRows draft = (before : List Section) × (draft.begun.items ≡ Rows ∷ before)

-- the section of the columns is the last that has begun
abbrev pub InColumns : Draft → Type 0
InColumns draft = (before : List Section) × (draft.begun.items ≡ Columns ∷ before)

-- the last column has the name
abbrev pub IsLast : Deck → List ℕ → Type 0
IsLast d name = (0 < length d.columns) × (find_column d name ≡ Some (length d.columns - 1))

-- the section of the columns has begun
abbrev pub HasColumns : Draft → Type 0
HasColumns draft = has_begun Columns draft.begun.items ≡ true

-- a number of a pair may have this use
abbrev pub MayUse : Use → Draft → Type 0
MayUse InColumn draft = InColumns draft × (0 < length draft.deck.columns)
MayUse AsRight draft = HasColumns draft
MayUse AsRange draft = HasColumns draft

-- the judge of a card of a set: of its pairs for this use, or of a bound
abbrev pub set_judge : Option Use → DeckSoFar → List (List ℕ) → Result DeckSoFar LineFault
set_judge (Some how) = judge_pairs (use_is how)
set_judge None = judge_bound

-- ── judgements ──

-- this fault was found, if it is one; want of memory is none, and may come in place of any judgement
abbrev pub IsFound : {T : Type 0} → Result T LineFault → Option LineFault → Type 0
IsFound judged None = Unit {0}
IsFound judged (Some fault) = judged ≡ Err fault

-- the draft took what was judged, or the refusal is the fault that was found
abbrev pub Judged : Result DeckSoFar LineFault → Draft → Result (Unit {0}) Refusal → Type 0
Judged judged new (Ok u) = (after : DeckSoFar) × (judged ≡ Ok after) × IsDraftOf new after
Judged judged new (Err refusal) = IsFound judged (line_fault refusal)
