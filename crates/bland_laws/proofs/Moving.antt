-- What a flip and a swap of a run are made of, and that they keep what holds of a state.
use Rattle.std.proofs.Common.{◌≡◌, ℕ, ◌<◌, inl, inr, List, Some, sym, ◌∙◌, subst}
use Rattle.lp_model.specs.declared.Entry.TheVariants.{Flip, Swap}
use Rattle.lp_model.specs.declared.Side.{Side}
use Rattle.rational.specs.Rational.{ℚ}
use Rattle.rational.specs.Sum.{at}
use Rattle.lp_run.specs.Instance.{Instance, bounds, row_count}
use Rattle.lp_run.specs.Solution.{reduced}
use Rattle.lp_run.specs.State.{State, after, basic}
use Rattle.lp_run.specs.Step.{IsLimit, IsNext, Leaves, Limit, Pivoting, StepsBy, direction, limit_at, own_limit}
use Rattle.bland_laws.specs.Kept.{IsBounded}
use Rattle.bland_laws.proofs.Holding.{Holds}
use Rattle.bland_laws.proofs.Limits.{Meets, direction_unit, limit_meets, own_spans}
use Rattle.bland_laws.proofs.Stepping.{flip_holds, swap_holds}

pub record FlipStep (inst : Instance) (s : State) (q : ℕ) : Type 0 where
  pub y : List ℚ
  pub β : List ℚ
  pub α : List ℚ
  pub limit : Limit
  pub pivoting : Pivoting inst s y β α q
  pub leaves : Leaves inst s q (direction (reduced inst s y q)) β α limit
  pub own : own_limit (bounds inst s.phase q) q ≡ Some limit

pub record SwapStep (inst : Instance) (s : State) (q p : ℕ) (r : Side) : Type 0 where
  pub y : List ℚ
  pub β : List ℚ
  pub α : List ℚ
  pub limit : Limit
  pub pivoting : Pivoting inst s y β α q
  pub leaves : Leaves inst s q (direction (reduced inst s y q)) β α limit
  pub position : p < row_count inst
  pub limits : limit_at inst s q (direction (reduced inst s y q)) β α p ≡ Some limit
  pub meets : Meets q p (basic s p) (direction (reduced inst s y q)) (at β p) (at α p) (bounds inst s.phase (basic s p)) limit r

pub flip_step : (inst : Instance) (s : State) (q : ℕ) → StepsBy inst s (Flip q) → FlipStep inst s q
flip_step inst s q (y, β, α, q', limit, pivoting, leaves, is) = by_limit leaves.is_limit
  where
    not_swap : (k p : ℕ) (r : Side) → Swap k p r ≡ Flip q → ⊥
    not_swap k p r e = cc e

    same_column : (k : ℕ) → Flip k ≡ Flip q → k ≡ q
    same_column k e = cc

    by_limit : IsLimit inst s q' (direction (reduced inst s y q')) β α limit → FlipStep inst s q
    by_limit (inl (p, b, e)) =
        let (r, m) = limit_meets q' p (basic s p) (direction (reduced inst s y q')) (at β p) (at α p) (bounds inst s.phase (basic s p))
        (direction_unit (reduced inst s y q')) limit e in
        absurd (not_swap q' p r (sym m.entry ∙ is))
    by_limit (inr e) =
        subst (FlipStep inst s) (same_column q' (sym (own_spans (bounds inst s.phase q') q' limit e).entry ∙ is))
        (record { y = y; β = β; α = α; limit = limit; pivoting = pivoting; leaves = leaves; own = e })

pub swap_step : (inst : Instance) (s : State) (q p : ℕ) (r : Side) → StepsBy inst s (Swap q p r) → SwapStep inst s q p r
swap_step inst s q p r (y, β, α, q', limit, pivoting, leaves, is) = by_limit leaves.is_limit
  where
    not_flip : (k : ℕ) → Flip k ≡ Swap q p r → ⊥
    not_flip k e = cc e

    same_parts : (k l : ℕ) (e : Side) → Swap k l e ≡ Swap q p r → (k ≡ q) × (l ≡ p) × (e ≡ r)
    same_parts k l e is = (cc, cc, cc)

    by_limit : IsLimit inst s q' (direction (reduced inst s y q')) β α limit → SwapStep inst s q p r
    by_limit (inl (p', b, e)) =
        let (r', m) = limit_meets q' p' (basic s p') (direction (reduced inst s y q')) (at β p') (at α p') (bounds inst s.phase (basic s p'))
        (direction_unit (reduced inst s y q')) limit e in
        let parts = same_parts q' p' r' (sym m.entry ∙ is) in
        subst (λ k. SwapStep inst s k p r) parts.0 (subst (λ l. SwapStep inst s q' l r) parts.1 (subst (SwapStep inst s q' p') parts.2
        (record { y = y; β = β; α = α; limit = limit; pivoting = pivoting; leaves = leaves; position = b; limits = e; meets = m })))
    by_limit (inr e) = absurd (not_flip q' (sym (own_spans (bounds inst s.phase q') q' limit e).entry ∙ is))

module _ (inst : Instance) (bounded : IsBounded inst) (s : State) (h : Holds inst s) where
  pub flip_keeps : (q : ℕ) → IsNext inst s (Flip q) → Holds inst (after s (Flip q))
  flip_keeps q next = let f = flip_step inst s q next in flip_holds inst bounded s h f.y f.β f.α q f.pivoting f.limit f.leaves f.own next

  pub swap_keeps : (q p : ℕ) (r : Side) → IsNext inst s (Swap q p r) → Holds inst (after s (Swap q p r))
  swap_keeps q p r next =
      let f = swap_step inst s q p r next in swap_holds inst bounded s h f.y f.β f.α q f.pivoting f.limit f.leaves p f.position r f.meets next
