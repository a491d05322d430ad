use Rattle.std.proofs.Common.{refl, sym, ◌∙◌, ap, subst}
use Rattle.std.specs.Arc.{arc_value}
use Rattle.plain_table.proofs.Coming.{handed_on}
use Rattle.crew.specs.Inner.Works.{IsCalmFault}
use Rattle.crew.proofs.Calms.{calm_chosen, none_unfit, on_ok_all}
use Rattle.crew.proofs.CalmRounds.{asked_calm, none_now, none_there, none_there_unfit, refused_on, taken_calm}
use Rattle.crew.proofs.Rounds.{asked, chosen_for, exact_now}
use Rattle.crew.proofs.driving.round.Goals as goal

pub returns-in_err-ticket-clause-calm : goal.returns-in_err-ticket-clause-calm
returns-in_err-ticket-clause-calm g c on =
    let refused = c.in_err-ticket.ensures.calm (none_there (g.A.Arith.width c.args.board.now.arith) c.args.board.now c.requires.running.stands on) in
    (refused.0, refl, handed_on _ IsCalmFault c.from_residual.ensures.1 refused.1, refused_on _ _ c.from_residual.ensures.0)

pub price-requires-clause-ticket : goal.price-requires-clause-ticket
price-requires-clause-ticket g c κs within =
    let e = c.in_ok-ticket.ensures in
    asked (g.A.Arith.width c.args.board.now.arith) c.args.board.now c.ask.new.board e.stands e.same e.unmoved c.in_ok-ticket.ticket e.asks c.instance.result.now.value
    (ap (λ a. arc_value a) c.instance.ensures)

pub returns-in_err-choice-clause-calm : goal.returns-in_err-choice-clause-calm
returns-in_err-choice-clause-calm g c on =
    let w = g.A.Arith.width c.args.board.now.arith in
    let old = c.args.board.now in
    let new = c.ask.new.board in
    let e = c.in_ok-ticket.ensures in
    let ticket = c.in_ok-ticket.ticket in
    let there = ap (λ a. arc_value a) c.instance.ensures in
    let on' = asked_calm w old c.requires.running.stands on new e.same e.built e.rescued in
    let none = none_unfit w new e.stands on'.calm ticket (exact_now w old new e.stands e.same e.unmoved ticket e.asks c.instance.result.now.value there) in (
      (e.calm (none_there w old c.requires.running.stands on)).0,
      c.price.ensures.fit (none_there_unfit _ w (sym c.requires.width) _ _ there _ ticket refl none),
      handed_on _ IsCalmFault c.from_residual-in_err-choice.ensures.1 (subst IsCalmFault (sym c.in_err-choice.ensures.fault) tt),
      refused_on _ _ c.from_residual-in_err-choice.ensures.0,
    )

pub take-requires-clause-exact : goal.take-requires-clause-exact
take-requires-clause-exact g c κs within =
    let e = c.in_ok-ticket.ensures in
    chosen_for (g.A.Arith.width c.args.board.now.arith) c.args.board.now c.ask.new.board e.stands e.same e.unmoved c.in_ok-ticket.ticket e.asks c.instance.result.now.value
    (ap (λ a. arc_value a) c.instance.ensures) (g.A.Arith.width c.args.arith.now) (g.A.Arith.width c.ask.new.board.arith) (sym c.requires.width) e.board_width c.in_ok-choice.choice
    c.in_ok-choice.ensures.choice

pub returns-clause-calm : goal.returns-clause-calm
returns-clause-calm g c on =
    let w = g.A.Arith.width c.args.board.now.arith in
    let old = c.args.board.now in
    let new = c.ask.new.board in
    let e = c.in_ok-ticket.ensures in
    let ticket = c.in_ok-ticket.ticket in
    let choice = c.in_ok-choice.choice in
    let there = ap (λ a. arc_value a) c.instance.ensures in
    let on' = asked_calm w old c.requires.running.stands on new e.same e.built e.rescued in
    let none = none_unfit w new e.stands on'.calm ticket (exact_now w old new e.stands e.same e.unmoved ticket e.asks c.instance.result.now.value there) in
    let chosen = chosen_for w old new e.stands e.same e.unmoved ticket e.asks c.instance.result.now.value there (g.A.Arith.width c.args.arith.now) w (sym c.requires.width) refl choice
    c.in_ok-choice.ensures.choice in
    let fits = calm_chosen w new e.stands on'.calm choice chosen in
    let w' = g.A.Arith.width new.arith in
    let take = c.take.ensures in
    let after = take.calm fits (none_now w w' e.board_width new e.stands on') in (
      after.0 ∙ (e.calm (none_there w old c.requires.running.stands on)).0,
      c.price.ensures.fit (none_there_unfit _ w (sym c.requires.width) _ _ there _ ticket refl none),
      after.1,
      on_ok_all c.take.result (taken_calm w w' e.board_width new e.stands on' c.take.new.board choice fits take.same take.built take.given_up),
    )
