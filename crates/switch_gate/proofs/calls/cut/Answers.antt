use Rattle.std.proofs.Common.{arith}
use Rattle.switch_gate.proofs.Allowed.{splits}
use Rattle.switch_gate.proofs.calls.cut.Goals as goal

pub split_seat-other-requires : goal.split_seat-other-requires
split_seat-other-requires g c =
    let pass = c.args.pass in
    (c.requires.gate.0, omega arith, splits g.T.Numbered.number g.T.Numbered.lineage _ g.J.Given.parts _ _ pass.idle (omega arith) (omega arith))
