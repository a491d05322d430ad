-- One item of a vector of 0 becomes 1.
use Rattle.std.proofs.Common.{List, set, ap, ◌∙◌}
use Rattle.rational.specs.Rational.{ℚ, one_ℚ}
use Rattle.exact_frac.specs.Constants.{ratio-one}
use Rattle.markowitz_lu.proofs.Vectors.{unit-is}
use Rattle.markowitz_lu.proofs.stage.unit.Goals as goal

pub returns : goal.returns
returns c =
    ap (λ (x : ℚ). set c.in_ok-y.y.items c.args.r x) ratio-one ∙ ap (λ (v : List ℚ). set v c.args.r one_ℚ) c.in_ok-y.ensures ∙ unit-is c.args.m c.args.r c.requires
