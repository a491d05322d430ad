use Rattle.std.proofs.Common.{◌∙◌, subst}
use Rattle.bland_ratio.specs.Pricing.{IsChoiceOf}
use Rattle.bland_ratio.proofs.Exact.{exact_choice_enters}
use Rattle.two_phase.specs.Inner.Grounds.{GroundReaches, GroundStands, ground_state}
use Rattle.two_phase.specs.Modes.{IsPaidBy}
use Rattle.two_phase.proofs.Grounds.{if_ok, on_err, one_state, plain_along, plain_mode, plain_still}
use Rattle.two_phase.proofs.Rounds.{costs_fit, exact_ticket}
use Rattle.two_phase.proofs.ground.Ground.settle_unfit.Goals as goal

pub choose-choice-requires-after_bounds : goal.choose-choice-requires-after_bounds
choose-choice-requires-after_bounds g c κs within =
    let a = c.args in
    exact_ticket (g.A.Arith.width a.arith.now) a.inst.now c.requires.well_formed a.log.now c.ask_plain.new.self c.in_ok-ticket.ensures.stands c.in_ok-ticket.ticket c.in_ok-ticket.ensures.asks.exact

pub over_plain-requires-clause-chosen : goal.over_plain-requires-clause-chosen
over_plain-requires-clause-chosen g c κs within =
    let inst = c.args.inst.now in
    let mid = c.ask_plain.new.self in
    let ticket = c.in_ok-ticket.ticket in
    let asks = c.in_ok-ticket.ensures.asks in
    let w = g.A.Arith.width c.ask_plain.new.arith in
    let choice = c.choose-choice.result in
    let is : IsChoiceOf w inst ticket choice = c.choose-choice.ensures.choice in
    exact_choice_enters w inst (ground_state mid) choice c.requires.well_formed (ticket, asks.exact, is)
    (costs_fit w inst ticket choice (subst (λ m. IsPaidBy m ticket.pay) (plain_mode mid c.in_ok-ticket.ensures.plain) asks.paid) is)

pub returns-clause-reached : goal.returns-clause-reached
returns-clause-reached g c =
    let a = c.args in
    let w = g.A.Arith.width a.arith.now in
    let mid = c.ask_plain.new.self in
    let log' = c.over_plain.new.log in
    let new = c.over_plain.new.self in
    if_ok c.over_plain.result (λ r h. (
      subst (λ s. GroundReaches w a.inst.now a.budget a.log.now s log' new r) (one_state w w a.inst.now a.log.now mid a.self.now c.in_ok-ticket.ensures.stands c.requires.stands)
          (subst (λ w. GroundReaches w a.inst.now a.budget a.log.now (ground_state mid) log' new r) (c.choose-choice.ensures.width ∙ c.in_ok-ticket.ensures.width) h.0),
      h.1,
    )) c.over_plain.ensures.reached

pub returns-clause-refused : goal.returns-clause-refused
returns-clause-refused g c =
    let a = c.args in
    let w = g.A.Arith.width a.arith.now in
    let mid = c.ask_plain.new.self in
    let new = c.over_plain.new.self in
    let same = c.choose-choice.ensures.width ∙ c.in_ok-ticket.ensures.width in
    on_err c.over_plain.result (λ h. (
      h.0,
      plain_still w a.inst.now a.log.now a.self.now new c.requires.stands (subst (λ w. GroundStands w a.inst.now a.log.now new) same h.1.stands) c.requires.plain
          (plain_along mid new h.1.mode c.in_ok-ticket.ensures.plain),
    )) c.over_plain.ensures.refused
