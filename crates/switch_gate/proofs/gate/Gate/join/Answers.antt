use Rattle.std.proofs.Common.{arith}
use Rattle.switch_gate.proofs.Allowed.{joins}
use Rattle.switch_gate.proofs.gate.Gate.join.Goals as goal

pub join_seat-requires : goal.join_seat-requires
join_seat-requires g c =
    let first = c.args.first in
    let second = c.args.second in (
      c.requires.first.0,
      c.requires.second.0,
      second.empty,
      omega arith,
      joins g.T.Numbered.number g.T.Numbered.lineage _ _ _ _ _ first.idle second.idle first.some_parts,
    )
