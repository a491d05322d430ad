use Rattle.std.proofs.Common.{◌+◌, ◌*◌, ◌≤◌, refl, sym, ◌∙◌, ap, subst}
use Rattle.lp_run.specs.Instance.{row_count}
use Rattle.bland_ratio.specs.Entries.{stored_entries}
use Rattle.bland_ratio.specs.Pricing.{unfit_where}
use Rattle.two_phase.specs.Works.{ground_owed, move_work, recorded_work}
use Rattle.plain_table.proofs.Coming.{handed_on}
use Rattle.crew.specs.Inner.Works.{IsCalmFault}
use Rattle.two_phase.proofs.Tallies.{round_worked}
use Rattle.two_phase.proofs.Working.{owed-most}
use Rattle.crew.proofs.Calms.{asked_fits, asked_none, both_ok, calm_stays, no_cause}
use Rattle.std.specs.Arc.{arc_value}
use Rattle.crew.proofs.Rounds.{asked, chosen_for}
use Rattle.crew.proofs.solving.round.Goals as goal

pub choose-choice-requires-after_bounds : goal.choose-choice-requires-after_bounds
choose-choice-requires-after_bounds g c = λ κs bounds.
    asked (g.A.Arith.width c.args.board.now.arith) c.args.board.now c.ask.new.board c.in_ok-ticket.ensures.stands c.in_ok-ticket.ensures.same c.in_ok-ticket.ensures.unmoved
    c.in_ok-ticket.ticket c.in_ok-ticket.ensures.asks c.deref.result.now (c.deref.ensures ∙ ap (λ a. arc_value a) c.instance.ensures)

pub take-requires-clause-exact : goal.take-requires-clause-exact
take-requires-clause-exact g c κs running =
    chosen_for (g.A.Arith.width c.args.board.now.arith) c.args.board.now c.ask.new.board c.in_ok-ticket.ensures.stands c.in_ok-ticket.ensures.same c.in_ok-ticket.ensures.unmoved
    c.in_ok-ticket.ticket c.in_ok-ticket.ensures.asks c.deref.result.now (c.deref.ensures ∙ ap (λ a. arc_value a) c.instance.ensures)
    (g.A.Arith.width c.args.arith.now) (g.A.Arith.width c.ask.new.board.arith) (sym c.requires.width) c.in_ok-ticket.ensures.board_width c.choose-choice.result c.choose-choice.ensures.choice

pub returns-clause-calm : goal.returns-clause-calm
returns-clause-calm g c calm along factors =
    let old = c.args.board.now in
    let asked = c.ask.new.board in
    let w = g.A.Arith.width old.arith in
    let w' = g.A.Arith.width asked.arith in
    let choice = c.choose-choice.result in
    let e = c.in_ok-ticket.ensures in
    let none = no_cause w old c.requires.stands calm along factors in
    let along' = e.built along in
    let none' = asked_none w w' e.board_width old asked c.requires.stands calm along factors e.stands e.same along' e.rescued in
    let chosen = chosen_for w old asked e.stands e.same e.unmoved c.in_ok-ticket.ticket e.asks c.deref.result.now (c.deref.ensures ∙ ap (λ a. arc_value a) c.instance.ensures)
    (g.A.Arith.width c.args.arith.now) w' (sym c.requires.width) e.board_width choice c.choose-choice.ensures.choice in
    let fits = asked_fits w w' e.board_width old asked c.requires.stands calm along factors e.stands e.same along' e.rescued choice chosen in
    let after = c.take.ensures.calm fits none' in
    (after.0 ∙ (e.calm none).0, c.choose-choice.ensures.unfit ∙ ap (unfit_where (g.A.Arith.unfit_count c.args.arith.now)) fits, after.1)

pub returns-clause-work : goal.returns-clause-work
returns-clause-work g c before calm along factors worked =
    let old = c.args.board.now in
    let asked = c.ask.new.board in
    let new = c.take.new.board in
    let w = g.A.Arith.width old.arith in
    let w' = g.A.Arith.width asked.arith in
    let inst = old.inst.value in
    let choice = c.choose-choice.result in
    let e = c.in_ok-ticket.ensures in
    let none = no_cause w old c.requires.stands calm along factors in
    let along' = e.built along in
    let none' = asked_none w w' e.board_width old asked c.requires.stands calm along factors e.stands e.same along' e.rescued in
    let there = c.deref.ensures ∙ ap (λ a. arc_value a) c.instance.ensures in
    let chosen = chosen_for w old asked e.stands e.same e.unmoved c.in_ok-ticket.ticket e.asks c.deref.result.now there (g.A.Arith.width c.args.arith.now) w' (sym c.requires.width) e.board_width choice
    c.choose-choice.ensures.choice in
    let fits = asked_fits w w' e.board_width old asked c.requires.stands calm along factors e.stands e.same along' e.rescued choice chosen in
    let b₀ = g.A.Arith.work_count old.arith in
    let b₁ = g.A.Arith.work_count asked.arith in
    let b₂ = g.A.Arith.work_count new.arith in
    let a₀ = g.A.Arith.work_count c.args.arith.now in
    let a₁ = g.A.Arith.work_count c.choose-choice.new.arith in
    let few = subst (λ i. a₁ ≤ a₀ + (stored_entries i + 2 * row_count i)) (there ∙ ap (λ a. arc_value a) e.same.instance) c.choose-choice.ensures.work in
    both_ok c.take.result
    (λ r records spent. round_worked inst asked new choice fits (calm_stays w' asked none' new choice fits c.take.ensures.given_up) old.log old.updates e.unmoved.log e.unmoved.updates
    (ground_owed (row_count inst) old.ground) before b₀ b₁ b₂ a₀ a₁ (owed-most (row_count inst) old.ground) (e.unowed none) (e.owed none) few r records worked
    (subst (λ i. b₂ ≤ b₁ + (ground_owed (row_count (arc_value i)) asked.ground + (move_work (row_count (arc_value i)) + recorded_work (row_count (arc_value i)) asked.updates r))) e.same.instance spent))
    c.take.ensures.recorded (c.take.ensures.spent fits none')

pub returns-in_err-ticket-clause-calm : goal.returns-in_err-ticket-clause-calm
returns-in_err-ticket-clause-calm g c calm along factors =
    let none = no_cause (g.A.Arith.width c.args.board.now.arith) c.args.board.now c.requires.stands calm along factors in
    let refused = c.in_err-ticket.ensures.calm none in
    (refused.0, refl, handed_on _ IsCalmFault c.from_residual.ensures.1 refused.1)
