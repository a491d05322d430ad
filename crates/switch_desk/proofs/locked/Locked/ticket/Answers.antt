use Rattle.std.proofs.Common.{IfErr, length, subst}
use Rattle.switch_desk.specs.Answers.{IsTicketRefusal}
use Rattle.switch_desk.specs.Lineages.{lineage_of}
use Rattle.switch_desk.proofs.Sessions.{ticket_refused}
use Rattle.switch_desk.proofs.locked.Locked.ticket.Goals as goal

pub returns-clause-refused : goal.returns-clause-refused
returns-clause-refused g c =
    let width = g.A.Arith.width in
    subst (λ b. IfErr c.ticket.result (IsTicketRefusal (lineage_of width b) (length b.log))) c.self.view_is
    (ticket_refused width c.self.inside.board c.self.invariant.0 _ _ c.ticket.result c.ticket.ensures.fault)
