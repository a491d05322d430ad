use Rattle.std.proofs.Common.{refl, sym, subst}
use Rattle.two_phase.specs.Board.{IsTicketCause}
use Rattle.two_phase.specs.Inner.Grounds.{WantsTable}
use Rattle.two_phase.proofs.Grounds.{mode_plain, plain_mode, plain_wants}
use Rattle.two_phase.proofs.Boards.{built_still, refused_built, refused_stands, refused_unmoved, same_run, stands_still, ticket_cause, unmoved_after}
use Rattle.two_phase.proofs.board.Board.ticket.Goals as goal

pub returns-in-Ok-clause-same : goal.returns-in-Ok-clause-same
returns-in-Ok-clause-same g c =
    let old = c.args.self.now in
    let w = g.A.Arith.width old.arith in
    same_run w old c.requires.stands (c.is_running.ensures.0 c.if-not-is_running.false) c.ticket.new.self old.log c.ticket.new.arith (λ plain. c.in-Ok.ensures.rescued.1 (plain_wants w c.deref.result.now old.ground plain))

pub returns-in-Ok-clause-stands : goal.returns-in-Ok-clause-stands
returns-in-Ok-clause-stands g c =
    let old = c.args.self.now in
    let w = g.A.Arith.width old.arith in
    stands_still w old c.requires.stands (c.is_running.ensures.0 c.if-not-is_running.false) c.ticket.new.self old.log c.ticket.new.arith c.deref.result.now c.deref.ensures
    (λ plain. c.in-Ok.ensures.rescued.1 (plain_wants w c.deref.result.now old.ground plain)) refl c.in-Ok.ensures.stands c.in-Ok.ensures.keeps

pub returns-in-Ok-clause-built : goal.returns-in-Ok-clause-built
returns-in-Ok-clause-built g c =
    let old = c.args.self.now in
    let w = g.A.Arith.width old.arith in
    built_still w old c.requires.stands (c.is_running.ensures.0 c.if-not-is_running.false) c.ticket.new.self old.log c.ticket.new.arith c.deref.result.now c.deref.ensures
    (λ plain. c.in-Ok.ensures.rescued.1 (plain_wants w c.deref.result.now old.ground plain)) refl c.in-Ok.ensures.stands c.in-Ok.ensures.keeps

pub returns-in-Ok-clause-unmoved : goal.returns-in-Ok-clause-unmoved
returns-in-Ok-clause-unmoved g c =
    let old = c.args.self.now in
    let w = g.A.Arith.width old.arith in
    unmoved_after w old c.requires.stands (c.is_running.ensures.0 c.if-not-is_running.false) c.ticket.new.self old.log c.ticket.new.arith c.deref.result.now c.deref.ensures
    (λ plain. c.in-Ok.ensures.rescued.1 (plain_wants w c.deref.result.now old.ground plain)) refl c.in-Ok.ensures.stands c.in-Ok.ensures.keeps

pub returns-in-Ok-clause-rescued : goal.returns-in-Ok-clause-rescued
returns-in-Ok-clause-rescued g c =
    let old = c.args.self.now in
    let w = g.A.Arith.width old.arith in (
      (λ plain. subst (λ i. WantsTable w i old.ground) c.deref.ensures (c.in-Ok.ensures.rescued.0 (mode_plain c.ticket.new.self plain))),
      (λ wants. plain_mode c.ticket.new.self (c.in-Ok.ensures.rescued.1 (subst (λ i. WantsTable w i old.ground) (sym c.deref.ensures) wants))),
    )

pub returns-in-Err-clause-stands : goal.returns-in-Err-clause-stands
returns-in-Err-clause-stands g c =
    refused_stands (g.A.Arith.width c.args.self.now.arith) c.args.self.now c.requires.stands (c.is_running.ensures.0 c.if-not-is_running.false) c.ticket.new.self c.args.self.now.log c.ticket.new.arith
    c.deref.result.now c.deref.ensures refl c.in-Err.ensures.still

pub returns-in-Err-clause-built : goal.returns-in-Err-clause-built
returns-in-Err-clause-built g c =
    refused_built (g.A.Arith.width c.args.self.now.arith) c.args.self.now c.requires.stands (c.is_running.ensures.0 c.if-not-is_running.false) c.ticket.new.self c.args.self.now.log c.ticket.new.arith
    c.deref.result.now c.deref.ensures refl c.in-Err.ensures.still

pub returns-in-Err-clause-unmoved : goal.returns-in-Err-clause-unmoved
returns-in-Err-clause-unmoved g c =
    refused_unmoved (g.A.Arith.width c.args.self.now.arith) c.args.self.now c.requires.stands (c.is_running.ensures.0 c.if-not-is_running.false) c.ticket.new.self c.args.self.now.log c.ticket.new.arith
    c.deref.result.now c.deref.ensures refl c.in-Err.ensures.still

pub returns-in-Err-clause-fault : goal.returns-in-Err-clause-fault
returns-in-Err-clause-fault g c =
    let old = c.args.self.now in
    let w = g.A.Arith.width old.arith in
    subst (IsTicketCause w old (g.A.Arith.unfit_count old.arith) (g.A.Arith.unfit_count c.ticket.new.arith)) (sym c.board_fault.ensures)
    (ticket_cause w old (g.A.Arith.unfit_count old.arith) (g.A.Arith.unfit_count c.ticket.new.arith) c.deref.result.now c.deref.ensures c.in-Err.fault
    c.in-Err.ensures.fault c.in-Err.ensures.rose c.in-Err.ensures.cause)
