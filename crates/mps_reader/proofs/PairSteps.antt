-- A draft after a pair of a row's name and a number.
use Rattle.std.proofs.Common.{◌≡◌, ℕ, ◌+◌, ◌-◌, ◌<◌, List, ◌∷◌, length, get_or, set, position, cond, Option, Some, None, Result, Ok, Err, Bool, true, false, ◌||◌, nat_lt, refl, sym, ap, ap₂, ◌∙◌, subst, arith, inl, inr, ◌⊎◌}
use Rattle.std.specs.Result.{IsErrAnd}
use Rattle.std.proofs.lemmas.Bool.{cases_Bool, true≢false}
use Rattle.std.proofs.lemmas.List.{get_or-set_same, length-set}
use Rattle.rational.specs.Rational.{ℚ, eq_ℚ, zero_ℚ}
use Rattle.deck_model.proofs.Sparse.{entry-insert_entry}
use Rattle.lp_model.specs.Deck.{Column, Deck, Row, column, no_column, no_row, row as row_at}
use Rattle.lp_model.specs.Edit.{change_column, change_row, find_row, has_entry, insert_entry, same_bytes, with_cost, with_entry}
use Rattle.lp_text.specs.declared.LineFault.{LineFault}
use Rattle.lp_text.specs.declared.LineFault.TheVariants as fault
use Rattle.lp_text.specs.declared.Counted.TheVariants as counted
use Rattle.mps_model.specs.DeckSoFar.{DeckSoFar, RowPlace, and_then, is_among, place_of}
use Rattle.mps_model.specs.declared.FieldFault.{FieldFault}
use Rattle.mps_model.specs.NumberField.{field_value}
use Rattle.lp_text.specs.Limits.{entry_limit}
use Rattle.mps_model.specs.PairCards.{judge_pair, number_in, with_named}
use Rattle.mps_model.specs.declared.Section.TheVariants.{Columns}
use Rattle.mps_model.specs.Sections.{has_begun}
use Rattle.mps_reader.proofs.Positions.{position-set}
use Rattle.mps_reader.specs.declared.bounds.Ends.{Ends}
use Rattle.mps_reader.specs.declared.draft.Draft.{Draft}
use Rattle.mps_reader.specs.declared.draft.Place.{Place}
use Rattle.mps_reader.specs.declared.draft.Place.TheVariants.{Dropped, Objective, Row as At}
use Rattle.mps_reader.specs.declared.pairs.Use.{Use}
use Rattle.mps_reader.specs.declared.pairs.Use.TheVariants.{InColumn, AsRight, AsRange}
use Rattle.mps_reader.specs.Inner.Uses.{use_is}
use Rattle.mps_reader.specs.declared.refusal.Refusal.{Refusal}
use Rattle.mps_reader.specs.Inner.Refusals.{line_fault}
use Rattle.mps_reader.specs.Inner.Placed.{IsFull, IsVacant, IsVacantFor, deck_after, has_room_for, with_number}
use Rattle.mps_reader.specs.Inner.Standing.{InColumns, IsFound, Judged, MayUse, IsDraftOf, deck_with, is_marked, place_is, slot_is, slot_of, slot_with}
use Rattle.mps_reader.proofs.Columns.{begun-in}
use Rattle.mps_reader.proofs.Marks.{marked-own, marked-still, named-more, slot_own, slot_within}
use Rattle.mps_reader.proofs.WithEnds.{deck_with-columns, deck_with-entry_count, deck_with-with_cost, deck_with-with_entry}

-- ── a number's use, with the ends of the columns ──

module _ (d : Deck) (free_rows : List (List ℕ)) (ends : List Ends) where
  last : length (deck_with d free_rows ends).columns - 1 ≡ length d.columns - 1
  last = ap (λ n. n - 1) (deck_with-columns d free_rows ends)

  pub deck_after-ends : (how : Use) (place : Place) (v : ℚ) → deck_after how (deck_with d free_rows ends) place v ≡ deck_with (deck_after how d place v) free_rows ends
  deck_after-ends InColumn Objective v = ap (λ j. with_cost (deck_with d free_rows ends) j v) last ∙ deck_with-with_cost d free_rows ends (length d.columns - 1) v
  deck_after-ends InColumn (At i) v = ap (λ j. with_entry (deck_with d free_rows ends) j i v) last ∙ deck_with-with_entry d free_rows ends (length d.columns - 1) i v
  deck_after-ends InColumn (Dropped k) v = refl
  deck_after-ends AsRight Objective v = refl
  deck_after-ends AsRight (At i) v = refl
  deck_after-ends AsRight (Dropped k) v = refl
  deck_after-ends AsRange Objective v = refl
  deck_after-ends AsRange (At i) v = refl
  deck_after-ends AsRange (Dropped k) v = refl

  pub has_room-ends : (how : Use) (place : Place) (v : ℚ) → has_room_for how (deck_with d free_rows ends) place v ≡ has_room_for how d place v
  has_room-ends InColumn Objective v = ap (λ n. eq_ℚ v zero_ℚ || nat_lt n entry_limit) (deck_with-entry_count d free_rows ends)
  has_room-ends InColumn (At i) v = ap (λ n. eq_ℚ v zero_ℚ || nat_lt n entry_limit) (deck_with-entry_count d free_rows ends)
  has_room-ends InColumn (Dropped k) v = refl
  has_room-ends AsRight place v = refl
  has_room-ends AsRange place v = refl

-- ── what a number's use makes of the deck so far ──

module _ (s : DeckSoFar) (v : ℚ) where
  use-room : (how : Use) (place : Place) → has_room_for how s.deck place v ≡ true → use_is how s (place_is place) v ≡ Ok (record s { deck = deck_after how s.deck place v })
  use-room InColumn Objective room = ap (λ b. cond b (Ok (record s { deck = with_number s.deck Objective v })) (Err (fault.Limit counted.Entries))) room
  use-room InColumn (At i) room = ap (λ b. cond b (Ok (record s { deck = with_number s.deck (At i) v })) (Err (fault.Limit counted.Entries))) room
  use-room InColumn (Dropped k) room = refl
  use-room AsRight Objective room = refl
  use-room AsRight (At i) room = refl
  use-room AsRight (Dropped k) room = refl
  use-room AsRange Objective room = refl
  use-room AsRange (At i) room = refl
  use-room AsRange (Dropped k) room = refl

  use-full : (how : Use) (place : Place) → has_room_for how s.deck place v ≡ false → use_is how s (place_is place) v ≡ Err (fault.Limit counted.Entries)
  use-full InColumn Objective full = ap (λ b. cond b (Ok (record s { deck = with_number s.deck Objective v })) (Err (fault.Limit counted.Entries))) full
  use-full InColumn (At i) full = ap (λ b. cond b (Ok (record s { deck = with_number s.deck (At i) v })) (Err (fault.Limit counted.Entries))) full
  use-full InColumn (Dropped k) full = absurd (cc full)
  use-full AsRight place full = absurd (cc full)
  use-full AsRange place full = absurd (cc full)

-- ── what a number's use leaves ──

-- the rows' names and places and the columns' places are as they were, and the last column has new entries in this slot alone
record IsKept (d d' : Deck) (slot : ℕ) : Type 0 where
  rows : length d'.rows ≡ length d.rows
  objective : d'.objective ≡ d.objective
  places : (name : List ℕ) → find_row d' name ≡ find_row d name
  columns : length d'.columns ≡ length d.columns
  entered : (i : ℕ) → has_entry (column d' (length d'.columns - 1)).entries i ≡ true → (slot ≡ i) ⊎ (has_entry (column d (length d.columns - 1)).entries i ≡ true)

same_deck : (d : Deck) (slot : ℕ) → IsKept d d slot
same_deck d slot = record { rows = refl; objective = refl; places = λ name. refl; columns = refl; entered = λ i has. inr has }

row_changed : (d : Deck) (i slot : ℕ) (f : Row → Row) → ((r : Row) → (f r).name ≡ r.name) → IsKept d (change_row d i f) slot
row_changed d i slot f keeps = record {
  rows = length-set d.rows i (f (row_at d i));
  objective = refl;
  places = λ name. position-set (λ r. same_bytes r.name name) d.rows i (f (row_at d i)) no_row (ap (λ n. same_bytes n name) (keeps (row_at d i)));
  columns = refl;
  entered = λ i has. inr has;
}

column_changed : (d : Deck) (slot : ℕ) (f : Column → Column) → 0 < length d.columns
    → ((c : Column) (i : ℕ) → has_entry (f c).entries i ≡ true → (slot ≡ i) ⊎ (has_entry c.entries i ≡ true))
    → IsKept d (change_column d (length d.columns - 1) f) slot
column_changed d slot f some gains =
    let end = length d.columns - 1 in
    let same : length (set d.columns end (f (column d end))) ≡ length d.columns = length-set d.columns end (f (column d end)) in
    record {
      rows = refl;
      objective = refl;
      places = λ name. refl;
      columns = same;
      entered = λ i has. gains (column d end) i (
          sym (ap (λ (c : Column). has_entry c.entries i) (ap (λ n. get_or (set d.columns end (f (column d end))) (n - 1) no_column) same
          ∙ get_or-set_same d.columns end (f (column d end)) no_column (omega arith)))
          ∙ has
          );
    }

entry_put : (d : Deck) (i : ℕ) (v : ℚ) → 0 < length d.columns → IsKept d (with_entry d (length d.columns - 1) i v) i
entry_put d i v some = by_test (eq_ℚ v zero_ℚ)
  where
    by_test : (t : Bool) → IsKept d (cond t d (change_column d (length d.columns - 1) (λ c. record c { entries = insert_entry i v c.entries }))) i
    by_test true = same_deck d i
    by_test false = column_changed d i (λ c. record c { entries = insert_entry i v c.entries }) some (λ c m has. entry-insert_entry i v c.entries m has)

-- there is a column where the use is in one
abbrev HasLast : Use → Deck → Type 0
HasLast InColumn d = 0 < length d.columns
HasLast AsRight d = Unit {0}
HasLast AsRange d = Unit {0}

use_kept : (how : Use) (d : Deck) (place : Place) (v : ℚ) → HasLast how d → IsKept d (deck_after how d place v) (slot_is (length d.rows) place)
use_kept InColumn d Objective v some = column_changed d (length d.rows) (λ c. record c { cost = v }) some (λ c i has. inr has)
use_kept InColumn d (At i) v some = entry_put d i v some
use_kept InColumn d (Dropped k) v some = same_deck d k
use_kept AsRight d Objective v some = record { rows = refl; objective = refl; places = λ name. refl; columns = refl; entered = λ i has. inr has }
use_kept AsRight d (At i) v some = row_changed d i i (λ r. record r { right = v }) (λ r. refl)
use_kept AsRight d (Dropped k) v some = same_deck d k
use_kept AsRange d Objective v some = same_deck d (length d.rows)
use_kept AsRange d (At i) v some = row_changed d i i (λ r. record r { range = Some v }) (λ r. refl)
use_kept AsRange d (Dropped k) v some = same_deck d k

has_last : (how : Use) (draft : Draft) → MayUse how draft → HasLast how draft.deck
has_last InColumn draft may = may.1
has_last AsRight draft may = tt
has_last AsRange draft may = tt

-- ── the judgement of a pair ──

module _ (how : Use) (s : DeckSoFar) (name text : List ℕ) where
  judged : Option RowPlace → Bool → Result ℚ LineFault → Result DeckSoFar LineFault
  judged place again value = elim place [ None ↦ Err fault.UnknownRow | Some p ↦ cond again (Err fault.Repeated) (and_then value (λ v. use_is how (with_named s name) p v)) ]

  number_of : Result ℚ FieldFault → Result ℚ LineFault
  number_of value = elim value [ Err why ↦ Err fault.Number | Ok v ↦ Ok v ]

  module _ (p : RowPlace) (found : place_of s name ≡ Some p) where
    module _ (fresh : is_among name s.named ≡ false) where
      pub pair-value : (v : ℚ) → field_value text ≡ Ok v → judge_pair (use_is how) s name text ≡ use_is how (with_named s name) p v
      unfolding judged number_of
      pair-value v value = ap₂ (λ o b. judged o b (number_in text)) found fresh ∙ ap (λ r. judged (Some p) false (number_of r)) value

-- ── the draft after a pair ──

module _ (how : Use) (draft : Draft) (s : DeckSoFar) (h : IsDraftOf draft s) (may : MayUse how draft) where
  -- the columns have begun
  pub begun-may : has_begun Columns s.begun ≡ true
  begun-may = by how may
    where
      by : (how : Use) → MayUse how draft → has_begun Columns s.begun ≡ true
      by InColumn may = begun-in draft s h may.0
      by AsRight may = ap (has_begun Columns) h.begun ∙ may
      by AsRange may = ap (has_begun Columns) h.begun ∙ may

  module _ (name : List ℕ) (place : Place) (found : place_of s name ≡ Some (place_is place)) (slot : slot_of draft.deck draft.free_rows.keys name ≡ Some (slot_is (length draft.deck.rows) place)) where
    pub slot-marked : slot_is (length draft.deck.rows) place < length draft.named
    slot-marked = omega (arith, h.marks begun-may, slot_within draft.deck draft.free_rows.keys name (slot_is (length draft.deck.rows) place) slot)

    pub named-as : is_among name s.named ≡ is_marked draft.named (Some (slot_is (length draft.deck.rows) place))
    named-as = h.named name ∙ ap (is_marked draft.named) slot

    module _ (v : ℚ) where
      kept : IsKept draft.deck (deck_after how draft.deck place v) (slot_is (length draft.deck.rows) place)
      kept = use_kept how draft.deck place v (has_last how draft may)

      slots_kept : (n : List ℕ) → slot_of (deck_after how draft.deck place v) draft.free_rows.keys n ≡ slot_of draft.deck draft.free_rows.keys n
      slots_kept n = ap₂ (λ o r. slot_with r o (position (λ m. same_bytes m n) draft.free_rows.keys)) (kept.places n) kept.rows

      pub pair_stands : IsDraftOf (record draft {
        deck = deck_after how draft.deck place v;
        named =
            set draft.named (slot_is (length draft.deck.rows) place) (Some true);
      }) (record s { deck = deck_after how s.deck place v; named = name ∷ s.named })
      pair_stands = record {
        begun = h.begun;
        deck = ap (λ d. deck_after how d place v) h.deck ∙ deck_after-ends draft.deck draft.free_rows.keys draft.bounds.items how place v;
        awaits = h.awaits;
        free_rows = h.free_rows;
        set = h.set;
        named = λ n.
            named-more (slot_of draft.deck draft.free_rows.keys) (slot_own draft.deck draft.free_rows.keys) draft.named s.named name (slot_is (length draft.deck.rows) place) slot slot-marked h.named n
            ∙ ap (is_marked (set draft.named (slot_is (length draft.deck.rows) place) (Some true))) (sym (slots_kept n));
        lowered = h.lowered;
        bounded = h.bounded ∙ sym kept.columns;
        marks = λ begun. length-set draft.named (slot_is (length draft.deck.rows) place) (Some true) ∙ h.marks begun ∙ ap (λ r. r + length draft.free_rows.keys) (sym kept.rows);
        objective = kept.objective ∙ h.objective;
        ordered = h.ordered;
        early = λ none. absurd (true≢false (sym begun-may ∙ none));
        blank = λ none. absurd (true≢false (sym begun-may ∙ none));
        entered = λ before is i has. elim (kept.entered i has) [
          | inl own ↦ ap (λ k. is_marked (set draft.named (slot_is (length draft.deck.rows) place) (Some true)) (Some k)) (sym own)
              ∙ marked-own draft.named (slot_is (length draft.deck.rows) place) slot-marked
          | inr old ↦ marked-still draft.named (slot_is (length draft.deck.rows) place) i slot-marked (h.entered before is i old)
        ];
      }

    module _ (text : List ℕ) (v : ℚ) (value : field_value text ≡ Ok v) (fresh : is_marked draft.named (Some (slot_is (length draft.deck.rows) place)) ≡ false) where
      room_as : has_room_for how s.deck place v ≡ has_room_for how draft.deck place v
      room_as = ap (λ d. has_room_for how d place v) h.deck ∙ has_room-ends draft.deck draft.free_rows.keys draft.bounds.items how place v

      pub pair_judged : has_room_for how draft.deck place v ≡ true → judge_pair (use_is how) s name text ≡ Ok (record s { deck = deck_after how s.deck place v; named = name ∷ s.named })
      pair_judged room = pair-value how s name text (place_is place) found (named-as ∙ fresh) v value ∙ use-room (with_named s name) v how place (room_as ∙ room)

      pub pair_full : has_room_for how draft.deck place v ≡ false → judge_pair (use_is how) s name text ≡ Err (fault.Limit counted.Entries)
      pair_full full = pair-value how s name text (place_is place) found (named-as ∙ fresh) v value ∙ use-full (with_named s name) v how place (room_as ∙ full)

      pub pair_taken : (new : Draft) (k : ℕ) (marks : List (Option Bool)) → new ≡ record draft { deck = deck_after how draft.deck place v }
          → k ≡ slot_is (length draft.deck.rows) place → marks ≡ set new.named k (Some true)
          → has_room_for how draft.deck place v ≡ true → (after : DeckSoFar) × (judge_pair (use_is how) s name text ≡ Ok after) × IsDraftOf (record new { named = marks }) after
      pair_taken new k marks is slot_at marked room = (
        record s { deck = deck_after how s.deck place v; named = name ∷ s.named },
        pair_judged room,
        subst (λ (d : Draft). IsDraftOf d (record s { deck = deck_after how s.deck place v; named = name ∷ s.named }))
            (sym (ap₂ (λ (n : Draft) m. record n { named = m }) is (marked ∙ ap₂ (λ (n : Draft) j. set n.named j (Some true)) is slot_at))) (pair_stands v),
      )

  -- an unmarked row has no entry in the last column
  pub vacant : (place : Place) → is_marked draft.named (Some (slot_is (length draft.deck.rows) place)) ≡ false → IsVacantFor how draft.deck place
  vacant place fresh = by how may
    where
      by_place : InColumns draft → (place : Place) → is_marked draft.named (Some (slot_is (length draft.deck.rows) place)) ≡ false → IsVacant draft.deck place
      by_place at Objective fresh = tt
      by_place at (At i) fresh = elim (cases_Bool (has_entry (column draft.deck (length draft.deck.columns - 1)).entries i)) [
        | inl has ↦ absurd (true≢false (sym (h.entered at.0 (h.begun ∙ at.1) i has) ∙ fresh))
        | inr none ↦ none
      ]
      by_place at (Dropped k) fresh = tt

      by : (way : Use) → MayUse way draft → IsVacantFor way draft.deck place
      by InColumn may = by_place may.0 place fresh
      by AsRight may = tt
      by AsRange may = tt

-- ── refusals ──

-- a refusal that is handed on
pub refused : (judged : Result DeckSoFar LineFault) (new : Draft) (r : Result (Unit {0}) Refusal) (refusal : Refusal) → IsErrAnd r (λ e. e ≡ refusal)
    → IsFound judged (line_fault refusal) → Judged judged new r
refused judged new (Ok u) refusal same found = elim same [ ]
refused judged new (Err e) refusal same found = subst (λ (x : Refusal). IsFound judged (line_fault x)) (sym same) found

-- want of room, where the judgement says so
pub full_found : (judged : Result DeckSoFar LineFault) (room : Bool) (found : Option LineFault) → IsFull room found → (room ≡ false → judged ≡ Err (fault.Limit counted.Entries)) → IsFound judged found
full_found judged room None full so = tt
full_found judged room (Some found) full so = so full.0 ∙ ap (λ x. Err x) (sym full.1)
