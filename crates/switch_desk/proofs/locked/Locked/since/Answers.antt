use Rattle.std.proofs.Common.{◌≤◌, IfOk, length, sym, subst}
use Rattle.switch_desk.specs.Answers.{AreEntriesFrom}
use Rattle.switch_desk.proofs.Sessions.{entries_on}
use Rattle.switch_desk.proofs.locked.Locked.since.Goals as goal

pub returns : goal.returns
returns g c =
    let within = subst (λ b. c.args.number ≤ length b.log) (sym c.self.view_is) c.requires in
    subst (λ b. IfOk c.since.result (AreEntriesFrom b.inst.value c.args.number (length b.log))) c.self.view_is
    (entries_on g.A.Arith.width c.self.inside.board c.self.invariant.0 c.args.number within c.since.result c.since.ensures)
