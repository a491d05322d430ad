-- A pair of a row and a number, where the row is known and new.
use Rattle.std.proofs.Common.{◌≡◌, ℕ, zero, suc, ◌+◌, ◌<◌, Bool, false, List, [], ◌∷◌, ◌++◌, length, map, take, drop, get_or, position, Option, Some, None, Result, Ok, Err, refl}
use Rattle.std.proofs.Common.{sym, ap, ap₂, subst, ◌∙◌, arith}
use Rattle.std.specs.Prelude.{if◌then◌else◌, option_map}
use Rattle.std.specs.List.{AllByRecursion, IsDistinct}
use Rattle.std.proofs.lemmas.List.{drop_more, get_or-map, length-map, length-take-le, map-append, take-append-drop}
use Rattle.std.proofs.lemmas.Map.Keys.{apart_from_distinct}
use Rattle.rational.specs.Rational.{ℚ}
use Rattle.frac_text.specs.Card.{card_text}
use Rattle.lp_model.specs.Deck.{Column, Deck, Row, no_row, row as row_at}
use Rattle.lp_model.specs.Edit.{find_row, same_bytes}
use Rattle.lp_text.proofs.SameBytes.{same_bytes-own}
use Rattle.lp_text.specs.declared.LineFault.{LineFault}
use Rattle.lp_text.specs.declared.LineFault.TheVariants as fault
use Rattle.mps_model.specs.DeckSoFar.{DeckSoFar, RowPlace, and_then, free_place, is_among, objective, place_of, row}
use Rattle.mps_model.specs.PairCards.{UseOfNumber, judge_pair, judge_pairs, number_in, with_named}
use Rattle.deck_laws.specs.Spellable.{IsKept, IsNumber}
use Rattle.deck_laws.proofs.CardNumbers.{card_spelled}
use Rattle.deck_laws.proofs.FixedCards.{six}
use Rattle.deck_laws.proofs.Places.{AreDistinct, differ-turned, new-here, new-of-all, none-map, position-at, position-none}
use Rattle.deck_laws.proofs.RowsRead.{laid, name_of_row}
use Rattle.deck_laws.proofs.Taken.{IsNumeral, numeral_read}

-- ── a card with one pair ──

pub pairs_judged : (use_number : UseOfNumber) (s s' : DeckSoFar) (first name text : List ℕ) (place : RowPlace) (v : ℚ) → place_of s name ≡ Some place → is_among name s.named ≡ false
    → number_in text ≡ Ok v → use_number (with_named s name) place v ≡ Ok s' → judge_pairs use_number s (six [] first name text) ≡ Ok s'
pairs_judged use_number s s' first name text place v placed fresh value used =
    let one : judge_pair use_number s name text ≡ Ok s' =
    ap (λ (o : Option RowPlace). elim o [
      | None ↦ Err fault.UnknownRow
      | Some p ↦ if is_among name s.named then Err fault.Repeated else and_then (number_in text) (λ w. use_number (with_named s name) p w)
    ]) placed
    ∙ ap (λ b. if b then Err fault.Repeated else and_then (number_in text) (λ w. use_number (with_named s name) place w)) fresh
    ∙ ap (λ (r : Result ℚ LineFault). and_then r (λ w. use_number (with_named s name) place w)) value ∙ used in
    ap (λ (r : Result DeckSoFar LineFault). and_then r (λ after. Ok after)) one

-- ── what a name stands for ──

pub row_found : (s : DeckSoFar) (name : List ℕ) (i : ℕ) → find_row s.deck name ≡ Some i → place_of s name ≡ Some (row i)
row_found s name i found = ap (λ (o : Option ℕ). elim o [ None ↦ free_place s.free_rows name | Some k ↦ Some (row k) ]) found

pub objective_found : (s : DeckSoFar) (name : List ℕ) → find_row s.deck name ≡ None → s.free_rows ≡ name ∷ [] → place_of s name ≡ Some objective
objective_found s name none free =
    ap (λ (o : Option ℕ). elim o [ None ↦ free_place s.free_rows name | Some k ↦ Some (row k) ]) none
    ∙ ap (λ names. free_place names name) free ∙ ap (λ b. if b then Some objective else None) (same_bytes-own name)

-- ── the text of a number's card ──

pub number_line : (f : List ℕ → List ℕ) (o : Option (List ℕ)) (text : List ℕ) → option_map f o ≡ Some text → (t : List ℕ) × (o ≡ Some t) × (f t ≡ text)
number_line f None text e = absurd (cc e)
number_line f (Some t) text e = (t, refl, cc)

pub numeral_of : (v : ℚ) (text : List ℕ) → IsNumber v → card_text v ≡ Some text → IsNumeral text
numeral_of v text fits e = let spelled = card_spelled v text fits e in numeral_read v text spelled.0 spelled.1

-- ── the rows of a deck ──

split_at : (xs : List Row) (k : ℕ) (d : Row) → k < length xs → take k xs ++ get_or xs k d ∷ drop (k + 1) xs ≡ xs
split_at xs k d h = ap (λ t. take k xs ++ t) (sym (drop_more xs k d h)) ∙ take-append-drop k xs

module _ (d : Deck) (kept : IsKept d) (f : Row → Row) (same_name : (r : Row) → (f r).name ≡ r.name) (columns : List Column) (constant : ℚ) where
  abbrev shown : Deck
  shown = laid d (map f d.rows) columns constant

  -- a row is found by its name
  pub row_by_name : (k : ℕ) → k < length d.rows → find_row shown (row_at d k).name ≡ Some k
  unfolding IsDistinct
  row_by_name k h =
      let front = take k d.rows in
      let r = row_at d k in
      let behind = drop (k + 1) d.rows in
      let split : front ++ r ∷ behind ≡ d.rows = split_at d.rows k no_row h in
      let distinct : AreDistinct name_of_row (front ++ r ∷ behind) = subst (λ rs. AreDistinct name_of_row rs) (sym split) kept.row_names.1 in
      let p : Row → Bool = λ q. same_bytes q.name r.name in
      let new : AllByRecursion (λ (q : Row). same_bytes (f q).name r.name ≡ false) front = each front r.name (new-here name_of_row front r behind distinct) in
      ap (λ rs. position p (map f rs)) (sym split) ∙ ap (position p) (map-append f front (r ∷ behind))
      ∙ position-at p (map f front) (f r) (map f behind) (none-map p f front new) (ap (λ n. same_bytes n r.name) (same_name r) ∙ same_bytes-own r.name)
      ∙ ap Some (length-map front f ∙ length-take-le k d.rows (omega (arith, h)))
    where
      each : (xs : List Row) (n : List ℕ) → AllByRecursion (λ (q : Row). same_bytes q.name n ≡ false) xs → AllByRecursion (λ (q : Row). same_bytes (f q).name n ≡ false) xs
      each [] n h = tt
      each (x ∷ xs) n h = (ap (λ m. same_bytes m n) (same_name x) ∙ h.0, each xs n h.1)

  -- the objective is no row
  pub objective_no_row : find_row shown d.objective ≡ None
  unfolding IsDistinct
  objective_no_row =
      let p : Row → Bool = λ q. same_bytes q.name d.objective in
      position-none p (map f d.rows) (none-map p f d.rows (each d.rows (new-of-all name_of_row d.objective d.rows kept.row_names.0)))
    where
      each : (xs : List Row) → AllByRecursion (λ (q : Row). same_bytes q.name d.objective ≡ false) xs → AllByRecursion (λ (q : Row). same_bytes (f q).name d.objective ≡ false) xs
      each [] h = tt
      each (x ∷ xs) h = (ap (λ m. same_bytes m d.objective) (same_name x) ∙ h.0, each xs h.1)

module _ (d : Deck) (kept : IsKept d) where
  pub name_at : (i : ℕ) → i < length d.rows → get_or (map name_of_row d.rows) i [] ≡ (row_at d i).name
  name_at i h = get_or-map name_of_row d.rows i no_row [] h

  -- the names of two rows differ
  pub rows_differ : (i k : ℕ) → k < i → i < length d.rows → same_bytes (row_at d i).name (row_at d k).name ≡ false
  unfolding IsDistinct
  rows_differ i k below within =
      differ-turned (row_at d k).name (row_at d i).name
      (ap₂ same_bytes (sym (name_at k (omega arith))) (sym (name_at i within))
      ∙ apart_from_distinct same_bytes (map name_of_row d.rows) k i [] kept.row_names.1 below (omega (arith, length-map d.rows name_of_row, within)))

  -- a row's name is not the objective's
  pub objective_differs : (i : ℕ) → i < length d.rows → same_bytes (row_at d i).name d.objective ≡ false
  unfolding IsDistinct
  objective_differs i within =
      differ-turned d.objective (row_at d i).name
      (ap (λ n. same_bytes d.objective n) (sym (name_at i within)) ∙ each (map name_of_row d.rows) i kept.row_names.0 (omega (arith, length-map d.rows name_of_row, within)))
    where
      each : (ns : List (List ℕ)) (j : ℕ) → AllByRecursion (λ n. same_bytes d.objective n ≡ false) ns → j < length ns → same_bytes d.objective (get_or ns j []) ≡ false
      each [] j h l = absurd (omega arith)
      each (n ∷ ns) zero h l = h.0
      each (n ∷ ns) (suc j) h l = each ns j h.1 (omega arith)
