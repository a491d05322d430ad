use Rattle.std.proofs.Common.{arith}
use Rattle.upper_form.proofs.Clearing.{all_cleared}
use Rattle.upper_form.proofs.clear_others.Goals as goal

pub returns : goal.returns
returns c =
    all_cleared c.args.columns.now.items c.args.p c.args.row c.loop-q.columns.items c.loop-q.q c.loop-q.invariant.length (omega arith) c.loop-q.invariant.cleared
