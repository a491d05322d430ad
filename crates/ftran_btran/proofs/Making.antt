-- What factoring a matrix gives the factors that are made of it.
use Rattle.std.proofs.Common.{◌≡◌, ℕ, ◌+◌, ◌*◌, ◌-◌, ◌≤◌, List, length, Some, sym, ◌∙◌, subst, arith, mul_comm}
use Rattle.rational.specs.Rational.{ℚ}
use Rattle.rational.specs.Worked.{done, settle}
use Rattle.rational.proofs.Settling.{settle-answer, settle-bind, settle-done}
use Rattle.factor_model.specs.declared.Op.{Op}
use Rattle.factor_model.specs.Eta.{AreOps, stored}
use Rattle.factor_model.specs.Upper.{Triangle}
use Rattle.factor_model.specs.Represents.{Represents}
use Rattle.factor_model.specs.Factoring.{factored, whole, fresh, made_factors}
use Rattle.factor_model.proofs.FactoredLaws.{factored-represents, factored-few}
use Rattle.ftran_btran.specs.Kept.{AreFew}

module _ (w m base : ℕ) (b : ℕ → ℕ → ℚ) where
  module _ (ops : List Op) (u : Triangle) (settled : settle w (factored m b) ≡ Some (whole ops u)) where
    pub made-represents : Represents m ops u b
    made-represents = factored-represents m b ops u (settle-answer w (factored m b) (whole ops u) settled)

    pub made-rows : length u.rows ≡ m
    made-rows = made-represents.upper.row_count

    pub made-within : AreOps (length u.rows) ops
    made-within = subst (λ n. AreOps n ops) (sym made-rows) made-represents.within

    pub made-few : AreFew (record { etas = ops; upper = u; updates = 0; base = base })
    made-few =
        let few = factored-few m b ops u (settle-answer w (factored m b) (whole ops u) settled) in
        subst (λ n. 2 * stored ops ≤ (n - 1) * (n + 2 * 0)) (sym made-rows) (omega (arith, few, mul_comm m (m - 1)))

    pub made-settles : settle w (made_factors m b base) ≡ Some (Some (record { etas = ops; upper = u; updates = 0; base = base }))
    made-settles =
        settle-bind w (factored m b) (λ made. done (fresh base made)) (whole ops u) settled
        ∙ settle-done w (Some (record { etas = ops; upper = u; updates = 0; base = base }))
