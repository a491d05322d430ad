-- The ticket is the board's, and so is its choice.
use Rattle.std.proofs.Common.{sym, ◌∙◌, ap}
use Rattle.std.specs.Arc.{arc_value}
use Rattle.crew.proofs.Rounds.{asked, chosen_for}
use Rattle.tests_widths.proofs.rounds.round.Goals as goal

pub choose-choice-requires-after_bounds : goal.choose-choice-requires-after_bounds
choose-choice-requires-after_bounds g c = λ κs bounds.
    asked (g.A.Arith.width c.args.board.now.arith) c.args.board.now c.ticket.new.self c.in_ok-ticket.ensures.stands c.in_ok-ticket.ensures.same c.in_ok-ticket.ensures.unmoved
    c.in_ok-ticket.ticket c.in_ok-ticket.ensures.asks c.deref.result.now (c.deref.ensures ∙ ap (λ a. arc_value a) c.instance.ensures)

pub record-requires-clause-exact : goal.record-requires-clause-exact
record-requires-clause-exact g c κs within =
    chosen_for (g.A.Arith.width c.args.board.now.arith) c.args.board.now c.ticket.new.self c.in_ok-ticket.ensures.stands c.in_ok-ticket.ensures.same c.in_ok-ticket.ensures.unmoved
    c.in_ok-ticket.ticket c.in_ok-ticket.ensures.asks c.deref.result.now (c.deref.ensures ∙ ap (λ a. arc_value a) c.instance.ensures)
    (g.A.Arith.width c.args.arith.now) (g.A.Arith.width c.ticket.new.self.arith) (sym c.requires.width) c.in_ok-ticket.ensures.width c.choose-choice.result c.choose-choice.ensures.choice
