-- Rows by their names.
use Rattle.std.proofs.Common.{◌≡◌, ◌≢◌, ℕ, zero, suc, ◌+◌, Bool, true, false, cond, List, [], ◌∷◌, length, position, Option, Some, None, is_some, nat_eq, refl, sym, ap, ap₂, ◌∙◌}
use Rattle.std.proofs.Math.Numerals.{one-add}
use Rattle.std.specs.Option.{option_map}
use Rattle.std.specs.Cmp.Lexicographic.{pointwise}
use Rattle.deck_model.proofs.Lookups.{same_bytes-flip}
use Rattle.lp_model.specs.Deck.{Deck}
use Rattle.lp_model.specs.Edit.{find_row, same_bytes}
use Rattle.mps_model.specs.DeckSoFar.{DeckSoFar, RowPlace, dropped, free_place, is_among, objective, place_of, row}
use Rattle.mps_reader.proofs.Names.{same_bytes-flipped}
use Rattle.mps_reader.proofs.Positions.{is_some-position, list_any-same, position-next, position-same}
use Rattle.mps_reader.specs.declared.draft.Draft.{Draft}
use Rattle.mps_reader.specs.Inner.Standing.{IsDraftOf, slot_of, slot_with}

-- a name's place among names, sought by its bytes
pub position-name : (name : List ℕ) (names : List (List ℕ)) → position (pointwise nat_eq name) names ≡ position (λ n. same_bytes n name) names
position-name name names = position-same (pointwise nat_eq name) (λ n. same_bytes n name) (λ n. sym (same_bytes-flip n name)) names

-- ── places ──

-- what an index among the N rows stands for
abbrev pub place_by : Option ℕ → Option RowPlace
place_by None = None
place_by (Some zero) = Some objective
place_by (Some (suc k)) = Some dropped

place_by-next : (b : Bool) (o : Option ℕ) → place_by (cond b (Some 0) (option_map (λ k. 1 + k) o)) ≡ cond b (Some objective) (cond (is_some o) (Some dropped) None)
place_by-next true o = refl
place_by-next false None = refl
place_by-next false (Some k) = ap (λ n. place_by (Some n)) (one-add k)

pub free_place-by : (names : List (List ℕ)) (name : List ℕ) → free_place names name ≡ place_by (position (pointwise nat_eq name) names)
free_place-by names name = by names ∙ sym (ap place_by (position-name name names))
  where
    p : List ℕ → Bool
    p n = same_bytes n name

    found : (others : List (List ℕ)) → is_among name others ≡ is_some (position (λ n. same_bytes n name) others)
    found others = list_any-same (same_bytes name) (λ n. same_bytes n name) (λ n. same_bytes-flipped name n) others ∙ sym (is_some-position (λ n. same_bytes n name) others)

    by : (ns : List (List ℕ)) → free_place ns name ≡ place_by (position (λ n. same_bytes n name) ns)
    by [] = refl
    by (first ∷ others) =
        ap (λ t. cond (same_bytes first name) (Some objective) (cond t (Some dropped) None)) (found others)
        ∙ sym (place_by-next (same_bytes first name) (position (λ n. same_bytes n name) others))
        ∙ sym (ap place_by (position-next (λ n. same_bytes n name) first others))

-- what a name stands for, by its index among the rows
abbrev pub place_with : Option ℕ → Option RowPlace → Option RowPlace
place_with None free = free
place_with (Some i) free = Some (row i)

module _ (draft : Draft) (s : DeckSoFar) (stands : IsDraftOf draft s) (name : List ℕ) where
  place_of-with : place_of s name ≡ place_with (find_row s.deck name) (free_place s.free_rows name)
  place_of-with = by (find_row s.deck name)
    where
      by : (o : Option ℕ) → elim o [ None ↦ free_place s.free_rows name | Some i ↦ Some (row i) ] ≡ place_with o (free_place s.free_rows name)
      by None = refl
      by (Some i) = refl

  -- a name's place by those among the rows and among the N rows
  pub place_of-by : place_of s name ≡ place_with (find_row draft.deck name) (place_by (position (pointwise nat_eq name) draft.free_rows.keys))
  place_of-by =
      place_of-with
      ∙ ap₂ (λ o free. place_with o free) (ap (λ d. find_row d name) stands.deck) (ap (λ names. free_place names name) stands.free_rows ∙ free_place-by draft.free_rows.keys name)

  unplaced-by : (o k : Option ℕ) → place_with o (place_by k) ≡ None → (o ≡ None) × (k ≡ None)
  unplaced-by None None e = (refl, refl)
  unplaced-by None (Some zero) e = absurd (cc e)
  unplaced-by None (Some (suc k)) e = absurd (cc e)
  unplaced-by (Some i) k e = absurd (cc e)

  -- a name that stands for nothing is no row's and no N row's
  pub unplaced : place_of s name ≡ None → (find_row draft.deck name ≡ None) × (position (pointwise nat_eq name) draft.free_rows.keys ≡ None)
  unplaced none = unplaced-by (find_row draft.deck name) (position (pointwise nat_eq name) draft.free_rows.keys) (sym place_of-by ∙ none)

-- a name's number by its indices
pub slot_of-by : (d : Deck) (names : List (List ℕ)) (name : List ℕ) → slot_of d names name ≡ slot_with (length d.rows) (find_row d name) (position (pointwise nat_eq name) names)
slot_of-by d names name = sym (ap (λ k. slot_with (length d.rows) (find_row d name) k) (position-name name names))

place_by-later : (k : ℕ) → k ≢ 0 → place_by (Some k) ≡ Some dropped
place_by-later zero ne = absurd (ne refl)
place_by-later (suc k) ne = refl

module _ (draft : Draft) (s : DeckSoFar) (stands : IsDraftOf draft s) (name : List ℕ) where
  pub row_at : (i : ℕ) → find_row draft.deck name ≡ Some i → Some (row i) ≡ place_of s name
  row_at i found = sym (place_of-by draft s stands name ∙ ap (λ o. place_with o (place_by (position (pointwise nat_eq name) draft.free_rows.keys))) found)

  free_at : (k : Option ℕ) → find_row draft.deck name ≡ None → position (pointwise nat_eq name) draft.free_rows.keys ≡ k → place_by k ≡ place_of s name
  free_at k none found = sym (place_of-by draft s stands name ∙ ap₂ (λ o n. place_with o (place_by n)) none found)

  pub objective_at : find_row draft.deck name ≡ None → position (pointwise nat_eq name) draft.free_rows.keys ≡ Some 0 → Some objective ≡ place_of s name
  objective_at none found = free_at (Some 0) none found

  pub dropped_at : (k : ℕ) → find_row draft.deck name ≡ None → position (pointwise nat_eq name) draft.free_rows.keys ≡ Some k → k ≢ 0 → Some dropped ≡ place_of s name
  dropped_at k none found later = sym (place_by-later k later) ∙ free_at (Some k) none found

  pub nowhere : find_row draft.deck name ≡ None → position (pointwise nat_eq name) draft.free_rows.keys ≡ None → None ≡ place_of s name
  nowhere none found = free_at None none found

module _ (d : Deck) (names : List (List ℕ)) (name : List ℕ) where
  pub slot-free : (k n : ℕ) → find_row d name ≡ None → position (pointwise nat_eq name) names ≡ Some k → n ≡ length d.rows + k → Some n ≡ slot_of d names name
  slot-free k n none found is = ap Some is ∙ sym (slot_of-by d names name ∙ ap₂ (λ o m. slot_with (length d.rows) o m) none found)

  pub slot-none : find_row d name ≡ None → position (pointwise nat_eq name) names ≡ None → None ≡ slot_of d names name
  slot-none none found = sym (slot_of-by d names name ∙ ap₂ (λ o m. slot_with (length d.rows) o m) none found)
