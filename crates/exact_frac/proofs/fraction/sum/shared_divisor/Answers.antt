use Rattle.std.proofs.Common.{◌≡◌, ◌+◌, ◌*◌, ◌∙◌, sym, ap}
use Rattle.rational.specs.Gcd.{gcd}
use Rattle.exact_frac.proofs.Scaled.{gcd-one, gcd-sum, gcd-sum_less}
use Rattle.exact_frac.proofs.fraction.sum.shared_divisor.Goals as goal
use Rattle.exact_frac.proofs.fraction.sum.shared_divisor.Goals.{then-sum-common, else-sum-common}

pub returns-then-common-eq1 : goal.returns-then-common-eq1
returns-then-common-eq1 c =
    let total = c.args.a * c.args.by_a + c.args.b * c.args.by_b in
    gcd-one total ∙ ap (gcd total) (sym c.if-common-eq1.true)

pub returns : goal.returns
returns c =
    let same : gcd c.if-sum-common.gcd c.args.common ≡ gcd (c.args.a * c.args.by_a + c.args.b * c.args.by_b) c.args.common =
    elim c.if-sum-common.branch [
      | then-sum-common w ↦ ap (λ n. gcd n c.args.common) w.gcd-is ∙ gcd-sum _ _ _ _ _ c.scaled_rest-left.ensures c.scaled_rest-right.ensures
      | else-sum-common w ↦ ap (λ n. gcd n c.args.common) w.gcd-is ∙ gcd-sum_less _ _ _ _ _ c.scaled_rest-left.ensures c.scaled_rest-right.ensures w.if-sum-common.false
    ] in
    c.gcd.ensures ∙ same
