-- Names of rows and their marks: a slot is marked for one name.
use Rattle.std.proofs.Common.{◌≡◌, ◌≢◌, ℕ, ◌+◌, ◌<◌, Bool, true, false, ◌||◌, List, [], ◌∷◌, length, get_or, position, set, Option, Some, None, is_some, option_map, refl, sym, ap, ◌∙◌, arith, inl, inr, ◌⊎◌}
use Rattle.std.proofs.lemmas.Bool.{cases_Bool, cases_eq, true≢false}
use Rattle.std.proofs.lemmas.List.{get_or-set_other, get_or-set_same}
use Rattle.std.proofs.lemmas.List.Quantifiers.{position-Some}
use Rattle.deck_model.proofs.Lookups.{same_bytes-pointwise}
use Rattle.lp_model.specs.Deck.{Deck, no_row}
use Rattle.lp_model.specs.Edit.{find_row, same_bytes}
use Rattle.lp_text.proofs.SameBytes.{same_bytes-equal, same_bytes-own}
use Rattle.mps_model.specs.DeckSoFar.{is_among}
use Rattle.mps_reader.specs.Inner.Standing.{is_marked, slot_of, slot_with}

pub ruleset same = (same_bytes-pointwise)

-- ── slots ──

-- a slot is the index of a row, or stands past the rows for an N row
slot_cases : (d : Deck) (keys : List (List ℕ)) (name : List ℕ) (k : ℕ) → slot_of d keys name ≡ Some k
    → (find_row d name ≡ Some k) ⊎ ((j : ℕ) × (position (λ n. same_bytes n name) keys ≡ Some j) × (length d.rows + j ≡ k))
slot_cases d keys name k is = by_row (find_row d name) refl is
  where
    by_place : (o : Option ℕ) → position (λ n. same_bytes n name) keys ≡ o → option_map (λ j. length d.rows + j) o ≡ Some k
        → (j : ℕ) × (position (λ n. same_bytes n name) keys ≡ Some j) × (length d.rows + j ≡ k)
    by_place None found e = absurd (cc e)
    by_place (Some j) found e = (j, found, cc e)

    by_row : (o : Option ℕ) → find_row d name ≡ o → slot_with (length d.rows) o (position (λ n. same_bytes n name) keys) ≡ Some k
        → (find_row d name ≡ Some k) ⊎ ((j : ℕ) × (position (λ n. same_bytes n name) keys ≡ Some j) × (length d.rows + j ≡ k))
    by_row (Some i) found e = inl (found ∙ e)
    by_row None found e = inr (by_place (position (λ n. same_bytes n name) keys) refl e)

pub find_row-within : (d : Deck) (name : List ℕ) (i : ℕ) → find_row d name ≡ Some i → i < length d.rows
find_row-within d name i found = (position-Some (λ r. same_bytes r.name name) d.rows i no_row found).0

pub slot_within : (d : Deck) (keys : List (List ℕ)) (name : List ℕ) (k : ℕ) → slot_of d keys name ≡ Some k → k < length d.rows + length keys
slot_within d keys name k is = elim (slot_cases d keys name k is) [
  | inl found ↦ omega (arith, find_row-within d name k found)
  | inr other ↦ omega (arith, (position-Some (λ n. same_bytes n name) keys other.0 [] other.1).0, other.2)
]

-- two names with one slot are one
pub slot_own : (d : Deck) (keys : List (List ℕ)) (n m : List ℕ) (k : ℕ) → slot_of d keys n ≡ Some k → slot_of d keys m ≡ Some k → n ≡ m
slot_own d keys n m k is also = elim (slot_cases d keys n k is) [
  | inl found ↦ elim (slot_cases d keys m k also) [
    | inl found' ↦
        sym (same_bytes-equal (get_or d.rows k no_row).name n (position-Some (λ r. same_bytes r.name n) d.rows k no_row found).1)
        ∙ same_bytes-equal (get_or d.rows k no_row).name m (position-Some (λ r. same_bytes r.name m) d.rows k no_row found').1
    | inr other ↦ absurd (omega (arith, find_row-within d n k found, other.2))
  ]
  | inr one ↦ elim (slot_cases d keys m k also) [
    | inl found ↦ absurd (omega (arith, find_row-within d m k found, one.2))
    | inr other ↦
        let place : one.0 ≡ other.0 = omega (arith, one.2, other.2) in
        sym (same_bytes-equal (get_or keys one.0 []) n (position-Some (λ x. same_bytes x n) keys one.0 [] one.1).1)
        ∙ ap (λ j. get_or keys j []) place
        ∙ same_bytes-equal (get_or keys other.0 []) m (position-Some (λ x. same_bytes x m) keys other.0 [] other.1).1
  ]
]

-- ── marks ──

-- a mark set at a slot leaves the other slots
marked-other : (marks : List (Option Bool)) (k : ℕ) (slot : Option ℕ) → slot ≢ Some k → is_marked (set marks k (Some true)) slot ≡ is_marked marks slot
marked-other marks k None other = refl
marked-other marks k (Some m) other = ap (λ (o : Option Bool). is_some o) (get_or-set_other marks k m (Some true) None (λ e. other (ap (λ x. Some x) e)))

pub marked-own : (marks : List (Option Bool)) (k : ℕ) → k < length marks → is_marked (set marks k (Some true)) (Some k) ≡ true
marked-own marks k within = ap (λ (o : Option Bool). is_some o) (get_or-set_same marks k (Some true) None within)

-- what is marked stays marked
pub marked-still : (marks : List (Option Bool)) (k m : ℕ) → k < length marks → is_marked marks (Some m) ≡ true → is_marked (set marks k (Some true)) (Some m) ≡ true
marked-still marks k m within marked = elim (cases_eq m k) [
  | inl same ↦ ap (λ j. is_marked (set marks k (Some true)) (Some j)) same ∙ marked-own marks k within
  | inr other ↦ ap (λ (o : Option Bool). is_some o) (get_or-set_other marks k m (Some true) None other) ∙ marked
]

module _ (slots : List ℕ → Option ℕ) (own : (n m : List ℕ) (k : ℕ) → slots n ≡ Some k → slots m ≡ Some k → n ≡ m) where
  -- the mark of a name's slot names that name besides
  pub named-more : (marks : List (Option Bool)) (named : List (List ℕ)) (name : List ℕ) (k : ℕ) → slots name ≡ Some k → k < length marks
      → ((n : List ℕ) → is_among n named ≡ is_marked marks (slots n)) → (n : List ℕ) → is_among n (name ∷ named) ≡ is_marked (set marks k (Some true)) (slots n)
  named-more marks named name k is within before n = elim (cases_Bool (same_bytes n name)) [
    | inl e ↦
        ap (λ b. b || is_among n named) e ∙ sym (marked-own marks k within)
        ∙ ap (is_marked (set marks k (Some true))) (sym is ∙ ap slots (sym (same_bytes-equal n name e)))
    | inr none ↦
        ap (λ b. b || is_among n named) none ∙ before n
        ∙ sym (marked-other marks k (slots n) (λ e. apart (own n name k e is) none))
  ]
    where
      apart : n ≡ name → same_bytes n name ≡ false → ⊥
      apart e none = true≢false (sym (ap (λ m. same_bytes m name) e ∙ same_bytes-own name) ∙ none)
