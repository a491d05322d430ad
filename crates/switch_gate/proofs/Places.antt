-- Facts of places, by their cases.
use Rattle.std.proofs.Common.{◌≡◌, ◌≢◌, ℕ, ◌%◌, ◌^◌, ◌≤◌, List, eqb, cond, true, false, refl, sym, ap, ◌∙◌, arith, subst, ⊎_elim}
use Rattle.std.proofs.lemmas.Bool.{eq-eqb, ne_eqb, cases_eq, cond-true, cond-false}
use Rattle.counting.specs.Counting.{one_if}
use Rattle.counting.proofs.Times.{one_if-same}
use Rattle.switch_gate.specs.declared.view.Place.{Place}
use Rattle.switch_gate.specs.declared.view.Place.TheVariants.{Idle, Waits, Called, Holds}
use Rattle.atomic_table.specs.Table.{Me}
use Rattle.switch_gate.specs.declared.view.View.{View}
use Rattle.switch_gate.specs.Gates.{is_out, turn_at, has_slot, after_look, IsServed, placed, looked, Looks}

pub is_out-le : (p : Place) → is_out p ≤ 1
is_out-le Idle = omega arith
is_out-le (Waits t) = omega arith
is_out-le (Called t) = omega arith
is_out-le (Holds t) = omega arith

-- a look changes no sum
pub is_out-after_look : (found : ℕ) (p : Place) → is_out (after_look found p) ≡ is_out p
is_out-after_look found Idle = refl
is_out-after_look found (Waits t) = elim (eqb (t % 2 ^ 64) found) as (λ b. is_out (cond b (Called t) (Waits t)) ≡ 1) [ true ↦ refl | false ↦ refl ]
is_out-after_look found (Called t) = refl
is_out-after_look found (Holds t) = refl

pub turn_at-after_look : (x found : ℕ) (p : Place) → turn_at x (after_look found p) ≡ turn_at x p
turn_at-after_look x found Idle = refl
turn_at-after_look x found (Waits t) = elim (eqb (t % 2 ^ 64) found) as (λ b. turn_at x (cond b (Called t) (Waits t)) ≡ one_if x t) [ true ↦ refl | false ↦ refl ]
turn_at-after_look x found (Called t) = refl
turn_at-after_look x found (Holds t) = refl

pub has_slot-after_look : (found : ℕ) (p : Place) → has_slot (after_look found p) ≡ has_slot p
has_slot-after_look found Idle = refl
has_slot-after_look found (Waits t) = elim (eqb (t % 2 ^ 64) found) as (λ b. has_slot (cond b (Called t) (Waits t)) ≡ 0) [ true ↦ refl | false ↦ refl ]
has_slot-after_look found (Called t) = refl
has_slot-after_look found (Holds t) = refl

-- a look calls a turn only where it is the one that is served
pub IsServed-after_look : (base count seen found : ℕ) (p : Place) → ((t : ℕ) → p ≡ Waits t → t % 2 ^ 64 ≡ found → t ≡ base)
    → IsServed base count seen p → IsServed base count seen (after_look found p)
IsServed-after_look base count seen found Idle only was = tt
IsServed-after_look base count seen found (Waits t) only was =
    let P = λ (p : Place). IsServed base count seen p in
    ⊎_elim
    (λ (e : t % 2 ^ 64 ≡ found). subst P (sym (cond-true (eqb (t % 2 ^ 64) found) (Called t) (Waits t) (eq-eqb _ _ e))) (only t refl e))
    (λ (ne : t % 2 ^ 64 ≢ found). subst P (sym (cond-false (eqb (t % 2 ^ 64) found) (Called t) (Waits t) (ne_eqb _ _ ne))) tt)
    (cases_eq (t % 2 ^ 64) found)
IsServed-after_look base count seen found (Called t) only was = was
IsServed-after_look base count seen found (Holds t) only was = was

-- who has the value has the turn that is served
pub has_slot-le-turn_at : (base count seen : ℕ) (p : Place) → IsServed base count seen p → has_slot p ≤ turn_at base p
has_slot-le-turn_at base count seen Idle was = omega arith
has_slot-le-turn_at base count seen (Waits t) was = omega arith
has_slot-le-turn_at base count seen (Called t) was = omega arith
has_slot-le-turn_at base count seen (Holds t) was = omega (arith, one_if-same base t (sym was.0))

-- a place whose turn is not the one that is served waits, or is idle, so that it stays under the rule whatever is served and counted
pub IsServed-apart : (base base' count count' seen : ℕ) (p : Place) → turn_at base p ≡ 0 → IsServed base count seen p → IsServed base' count' seen p
IsServed-apart base base' count count' seen Idle apart was = tt
IsServed-apart base base' count count' seen (Waits t) apart was = tt
IsServed-apart base base' count count' seen (Called t) apart was = absurd (omega (arith, one_if-same base t (sym was)))
IsServed-apart base base' count count' seen (Holds t) apart was = absurd (omega (arith, one_if-same base t (sym was.0)))

pub held_turn : (p : Place) → has_slot p ≡ 1 → (t : ℕ) × (p ≡ Holds t)
held_turn Idle h = absurd (omega arith)
held_turn (Waits t) h = absurd (omega arith)
held_turn (Called t) h = absurd (omega arith)
held_turn (Holds t) h = (t, refl)

-- a look of a view that waits, where its turn is served
module _ {S L : Type 0} (v : View L) (c : List (ℕ × S)) (t turn found : ℕ)
    (m m' : Me S (View L)) (waits : m ≡ (placed v (Waits t), c)) (drawn : t % 2 ^ 64 ≡ turn) (looks : Looks m found m') where
  pub Looks-called : found ≡ turn → m' ≡ (placed v (Called t), c)
  Looks-called e =
      let at_view : m' ≡ (placed v (after_look found (Waits t)), c) = looks ∙ ap (λ (x : Me S (View L)). (looked found x.0, x.1)) waits in
      at_view ∙ ap (λ p. (placed v p, c)) (cond-true (eqb (t % 2 ^ 64) found) (Called t) (Waits t) (eq-eqb _ _ (drawn ∙ sym e)))
