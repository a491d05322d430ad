use Rattle.std.proofs.Common.{Option, ◌∙◌, ap, sym}
use Rattle.lp_model.specs.Deck.{Interval}
use Rattle.rational.specs.Rational.{ℚ}
use Rattle.rational.proofs.OrderLaws.{is_lt-cmp_ℚ}
use Rattle.lp_run.specs.Instance.{is_below}
use Rattle.instance_model.proofs.bounds.Bounds.is_below.Goals as goal

pub returns-in-Some : goal.returns-in-Some
returns-in-Some c =
    c.lt.ensures ∙ is_lt-cmp_ℚ c.args.x c.in-Some.lower ∙ ap (λ (o : Option ℚ). is_below o c.args.x) (sym c.in-Some.is) ∙ ap (λ (i : Interval). is_below i.lower c.args.x) c.self.view_is

pub returns-in-None : goal.returns-in-None
returns-in-None c = ap (λ (o : Option ℚ). is_below o c.args.x) (sym c.in-None.is) ∙ ap (λ (i : Interval). is_below i.lower c.args.x) c.self.view_is
