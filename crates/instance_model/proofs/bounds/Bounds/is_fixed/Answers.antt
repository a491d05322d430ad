use Rattle.std.proofs.Common.{sym, ◌∙◌, ap, ap₂}
use Rattle.rational.specs.Rational.{eq_ℚ}
use Rattle.lp_run.specs.Step.{is_fixed}
use Rattle.instance_model.proofs.bounds.Bounds.is_fixed.Goals as goal

-- the two ends are the interval's, and equal by their parts
pub returns-in-Some-Some : goal.returns-in-Some-Some
unfolding eq_ℚ
returns-in-Some-Some c =
    c.eq.ensures ∙ sym (ap₂ (λ lower upper. is_fixed (record { lower = lower; upper = upper })) c.in-Some-Some.is-0 c.in-Some-Some.is-1) ∙ ap is_fixed c.self.view_is
