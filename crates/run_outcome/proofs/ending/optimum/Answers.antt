use Rattle.std.proofs.Common.{List, length, ◌∙◌, ap}
use Rattle.rational.specs.Rational.{ℚ}
use Rattle.run_outcome.proofs.Closings.{point_length}
use Rattle.run_outcome.proofs.ending.optimum.Goals as goal

pub objective-requires-after_bounds : goal.objective-requires-after_bounds
objective-requires-after_bounds g c = λ κs bounds.
    ap (λ (xs : List ℚ). length xs) c.deref.ensures.value ∙ point_length c.args.inst.now c.args.ending.now.state.now c.args.ending.now.values.now c.in_ok-x.x.items c.in_ok-x.ensures
