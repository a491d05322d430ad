-- The walk, one item after another.
use Rattle.std.proofs.Common.{◌≡◌, ℕ, zero, suc, ◌+◌, ◌-◌, ◌<◌, ◌≤◌, Bool, true, false, List, [], ◌∷◌, ◌++◌, map, Option, Some, None, Result, Ok, Err, IsErrAnd, refl, sym, ◌∙◌, ap, ap₂, subst, arith}
use Rattle.std.specs.List.{range_with_len}
use Rattle.std.proofs.lemmas.Result.{err_from_is_err_and}
use Rattle.rational.specs.Worked.{Worked, settle}
use Rattle.exact_frac.specs.declared.unfit.Unfit.{Unfit as Refusal}
use Rattle.exact_frac.specs.Count.{unfit_after}
use Rattle.exact_frac.specs.Settles.{Settles}
use Rattle.cert_check.specs.declared.verdict.Rule.{Rule}
use Rattle.cert_check.specs.declared.verdict.Stop.{Stop}
use Rattle.cert_check.specs.Walk.{Item, each, first_stop, or_later, stop_at, stop_by}
use Rattle.cert_check.specs.Inner.Groups.{FirstIs, stopped, unfit_by}
use Rattle.cert_check.proofs.Adding.{next_index, no_index}

-- ── one item ──

-- what an item says of its rule is how it stops the walk
pub judged : (w : ℕ) (rule : Rule) (c : Worked Bool) (r : Result Bool Refusal) → Settles w c r → FirstIs (stop_by rule (settle w c)) (stopped rule r)
judged w rule c (Ok true) h = ap (stop_by rule) h
judged w rule c (Ok false) h = ap (stop_by rule) h
judged w rule c (Err f) h = ap (stop_by rule) h

-- and the count of unfit results after it is that of its sums
pub counted : (n : ℕ) (rule : Rule) (r : Result Bool Refusal) → unfit_after n r ≡ unfit_by n (stopped rule r)
counted n rule (Ok true) = refl
counted n rule (Ok false) = refl
counted n rule (Err f) = refl

-- what stops the walk is handed on
pub handed_on : (first : Option Stop) (r : Result (Unit {0}) Stop) (s : Stop) → first ≡ Some s → IsErrAnd r (λ t. t ≡ s) → FirstIs first r
handed_on first r s e is = let at = err_from_is_err_and r is in subst (FirstIs first) (sym at.1) (e ∙ ap Some (sym at.2))

-- ── one after another ──

pub or_later-none : (o : Option Stop) → or_later o None ≡ o
or_later-none None = refl
or_later-none (Some s) = refl

or_later-assoc : (a b c : Option Stop) → or_later (or_later a b) c ≡ or_later a (or_later b c)
or_later-assoc None b c = refl
or_later-assoc (Some s) b c = refl

pub first-append : (w : ℕ) (xs ys : List Item) → first_stop w (xs ++ ys) ≡ or_later (first_stop w xs) (first_stop w ys)
first-append w [] ys = refl
first-append w (x ∷ xs) ys = ap (or_later (stop_at w x)) (first-append w xs ys) ∙ sym (or_later-assoc (stop_at w x) (first_stop w xs) (first_stop w ys))

module _ (w : ℕ) (xs ys : List Item) where
  -- where nothing stops the first items the later ones decide
  pub passes : first_stop w xs ≡ None → first_stop w (xs ++ ys) ≡ first_stop w ys
  passes e = first-append w xs ys ∙ ap (λ o. or_later o (first_stop w ys)) e

  pub stops : (s : Stop) → first_stop w xs ≡ Some s → first_stop w (xs ++ ys) ≡ Some s
  stops s e = first-append w xs ys ∙ ap (λ o. or_later o (first_stop w ys)) e

-- ── the items of one rule ──

module _ (item : ℕ → Item) (k to : ℕ) where
  abbrev pub left_items : List Item
  left_items = map item (range_with_len k (to - k))

  module _ (w : ℕ) (lt : k < to) (o : Option Stop) (left : first_stop w left_items ≡ o) where
    abbrev later : List Item
    later = map item (range_with_len (k + 1) (to - (k + 1)))

    parts : first_stop w left_items ≡ or_later (stop_at w (item k)) (first_stop w later)
    parts = ap (λ ks. first_stop w (map item ks)) (next_index k to lt)

    pub item-passes : stop_at w (item k) ≡ None → first_stop w (map item (range_with_len (k + 1) (to - (k + 1)))) ≡ o
    item-passes e = sym (ap (λ s. or_later s (first_stop w later)) e) ∙ sym parts ∙ left

    pub item-stops : (s : Stop) → stop_at w (item k) ≡ Some s → o ≡ Some s
    item-stops s e = sym left ∙ parts ∙ ap (λ s. or_later s (first_stop w later)) e

  pub items-end : (w : ℕ) → to ≤ k → first_stop w left_items ≡ None
  items-end w le = ap (λ ks. first_stop w (map item ks)) (no_index k to le)

-- ── one group after another ──

module _ (w u : ℕ) (xs ys : List Item) (same : u ≡ w) (first : first_stop w xs ≡ None) where
  -- where nothing stops the first items, the later ones answer, at a width that is the same
  pub walk-then : (r : Result (Unit {0}) Stop) → FirstIs (first_stop u ys) r → FirstIs (first_stop w (xs ++ ys)) r
  walk-then r later = subst (λ o. FirstIs o r) (ap (λ v. first_stop v ys) same ∙ sym (passes w xs ys first)) later

-- one item alone
pub judged-alone : (w : ℕ) (rule : Rule) (c : Worked Bool) (r : Result Bool Refusal) (s : Result (Unit {0}) Stop) → s ≡ stopped rule r → Settles w c r
    → FirstIs (first_stop w (record { rule = rule; sums = c } ∷ [])) s
judged-alone w rule c r s is settled = subst (λ o. FirstIs o s) (sym (or_later-none (stop_by rule (settle w c)))) (subst (FirstIs (stop_by rule (settle w c))) (sym is) (judged w rule c r settled))

-- items that are the same are judged alike
abbrev pub item_by : (ℕ → Rule) → (ℕ → Worked Bool) → ℕ → Item
item_by rule_of sums k = record { rule = rule_of k; sums = sums k }

module _ (rule_of : ℕ → Rule) (f g : ℕ → Worked Bool) where
  same-from : (j n : ℕ) → ((k : ℕ) → j ≤ k → k < j + n → f k ≡ g k) → map (item_by rule_of f) (range_with_len j n) ≡ map (item_by rule_of g) (range_with_len j n)
  same-from j zero same = refl
  same-from j (suc n) same =
      ap₂ (λ (x : Item) (xs : List Item). x ∷ xs) (ap (λ (c : Worked Bool). let it : Item = record { rule = rule_of j; sums = c } in it) (same j (omega arith) (omega arith)))
      (same-from (j + 1) n (λ k low high. same k (omega arith) (omega arith)))

  pub each-same : (count : ℕ) → ((k : ℕ) → k < count → f k ≡ g k) → each rule_of f count ≡ each rule_of g count
  each-same count same = same-from 0 count (λ k low high. same k (omega arith))
