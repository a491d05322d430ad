use Rattle.std.proofs.Common.{subst}
use Rattle.rational.specs.Rational.{◌/ℚ◌}
use Rattle.rational.specs.Width.{FitsWidth}
use Rattle.ranging.proofs.Ends.{change_wide, distance_wide, end_fits, refused}
use Rattle.ranging.proofs.value.end_over.Goals as goal

pub returns-in_err-distance-in-Some-clause-limit : goal.returns-in_err-distance-in-Some-clause-limit
returns-in_err-distance-in-Some-clause-limit g c =
    refused c.from_residual.result _ _ c.from_residual.ensures.1
    (distance_wide (g.A.Arith.width c.args.arith.now) c.args.end c.in-Some.end c.args.value c.args.rate c.in-Some.is c.in_err-distance-in-Some.ensures.answer)

pub returns-in_err-change-in-Some-clause-limit : goal.returns-in_err-change-in-Some-clause-limit
returns-in_err-change-in-Some-clause-limit g c =
    let distance = c.in_ok-distance-in-Some.ensures.answer in
    refused c.from_residual-in_err-change-in-Some.result _ _ c.from_residual-in_err-change-in-Some.ensures.1
    (change_wide (g.A.Arith.width c.args.arith.now) c.args.end c.in-Some.end c.args.value c.args.rate c.in-Some.is c.in_ok-distance-in-Some.distance distance.0 distance.1
    (subst (λ w. ¬ FitsWidth w (c.in_ok-distance-in-Some.distance /ℚ c.args.rate)) c.sub.ensures.same_width c.in_err-change-in-Some.ensures.answer))

pub returns-in_ok-change-in-Some-clause-limit : goal.returns-in_ok-change-in-Some-clause-limit
returns-in_ok-change-in-Some-clause-limit g c =
    let distance = c.in_ok-distance-in-Some.ensures.answer in
    let change = c.in_ok-change-in-Some.ensures.answer in
    end_fits (g.A.Arith.width c.args.arith.now) c.args.end c.in-Some.end c.args.value c.args.rate c.in-Some.is c.in_ok-distance-in-Some.distance c.in_ok-change-in-Some.change distance.0 distance.1
    change.0 (subst (λ w. FitsWidth w (c.in_ok-distance-in-Some.distance /ℚ c.args.rate)) c.sub.ensures.same_width change.1)
