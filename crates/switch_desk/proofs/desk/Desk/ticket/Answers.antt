use Rattle.std.proofs.Common.{◌∙◌, ap, length}
use Rattle.switch_desk.proofs.Sessions.{unadded}
use Rattle.switch_desk.proofs.desk.Desk.ticket.Goals as goal

pub returns-clause-mine : goal.returns-clause-mine
returns-clause-mine g c =
    unadded _ _ _ _ _ c.give.ensures.mine c.take-held.ensures.pass.1
    (c.ticket-answer.ensures.number ∙ ap (λ b. length b.log) c.value_mut.ensures.value ∙ c.take-held.ensures.number)
