use Rattle.std.proofs.Common.{◌+◌, ◌≤◌, IfSome, sym, subst}
use Rattle.lp_run.specs.Instance.{row_count}
use Rattle.two_phase.specs.Board.{AreBuilt, BoardStands}
use Rattle.two_phase.specs.Inner.Recording.{IsTakingCause}
use Rattle.two_phase.proofs.Boards.{built_after, records_after, refused_built, refused_stands, refused_unmoved, stands_after, taking_cause}
use Rattle.two_phase.specs.Inner.Grounds.{GroundRescues, HasCause}
use Rattle.two_phase.specs.Works.{ground_owed, move_work, recorded_work}
use Rattle.two_phase.specs.Inner.Works.{ground_updates, reached_work}
use Rattle.two_phase.proofs.Spending.{recorded_spent, updates_there}
use Rattle.two_phase.proofs.board.Board.take.Goals as goal

pub returns-in-Ok-clause-stands : goal.returns-in-Ok-clause-stands
returns-in-Ok-clause-stands g c =
    let w = g.A.Arith.width c.args.self.now.arith in
    subst (BoardStands w) (sym c.note.ensures)
    (stands_after w c.args.self.now c.requires.stands c.requires.running c.record.new.self c.record.new.log c.record.new.arith
    c.deref.result.now c.deref.ensures c.in-Ok.ensures.plain_stays c.args.choice.now c.in-Ok.gone (c.in-Ok.ensures.reached, c.in-Ok.ensures.goes, c.in-Ok.ensures.rescued))

pub returns-in-Ok-clause-built : goal.returns-in-Ok-clause-built
returns-in-Ok-clause-built g c along =
    let w = g.A.Arith.width c.args.self.now.arith in
    subst (AreBuilt w) (sym c.note.ensures)
    (built_after w c.args.self.now c.requires.stands c.requires.running c.record.new.self c.record.new.log c.record.new.arith
    c.deref.result.now c.deref.ensures c.in-Ok.ensures.plain_stays c.args.choice.now c.in-Ok.gone (c.in-Ok.ensures.reached, c.in-Ok.ensures.goes, c.in-Ok.ensures.rescued) along)

pub returns-in-Ok-clause-recorded : goal.returns-in-Ok-clause-recorded
returns-in-Ok-clause-recorded g c =
    records_after (g.A.Arith.width c.args.self.now.arith) c.args.self.now c.requires.stands c.requires.running c.record.new.self c.record.new.log c.record.new.arith
    c.deref.result.now c.deref.ensures c.in-Ok.ensures.plain_stays c.args.choice.now c.in-Ok.gone c.note.new.self c.answer_of.result c.note.ensures c.answer_of.ensures
    (c.in-Ok.ensures.reached, c.in-Ok.ensures.goes, c.in-Ok.ensures.rescued)

pub returns-in-Err-clause-stands : goal.returns-in-Err-clause-stands
returns-in-Err-clause-stands g c =
    refused_stands (g.A.Arith.width c.args.self.now.arith) c.args.self.now c.requires.stands c.requires.running c.record.new.self c.record.new.log c.record.new.arith
    c.deref.result.now c.deref.ensures c.in-Err.ensures.log_kept c.in-Err.ensures.still

pub returns-in-Err-clause-unmoved : goal.returns-in-Err-clause-unmoved
returns-in-Err-clause-unmoved g c =
    refused_unmoved (g.A.Arith.width c.args.self.now.arith) c.args.self.now c.requires.stands c.requires.running c.record.new.self c.record.new.log c.record.new.arith
    c.deref.result.now c.deref.ensures c.in-Err.ensures.log_kept c.in-Err.ensures.still

pub returns-in-Err-clause-built : goal.returns-in-Err-clause-built
returns-in-Err-clause-built g c =
    refused_built (g.A.Arith.width c.args.self.now.arith) c.args.self.now c.requires.stands c.requires.running c.record.new.self c.record.new.log c.record.new.arith
    c.deref.result.now c.deref.ensures c.in-Err.ensures.log_kept c.in-Err.ensures.still

pub returns-in-Err-clause-fault : goal.returns-in-Err-clause-fault
returns-in-Err-clause-fault g c =
    let old = c.args.self.now in
    let w = g.A.Arith.width old.arith in
    subst (IsTakingCause w old c.args.choice.now (g.A.Arith.unfit_count old.arith) (g.A.Arith.unfit_count c.record.new.arith)) (sym c.board_fault.ensures)
    (taking_cause w old (g.A.Arith.unfit_count old.arith) (g.A.Arith.unfit_count c.record.new.arith) c.deref.result.now c.deref.ensures c.args.choice.now c.in-Err.fault
    c.in-Err.ensures.fault c.in-Err.ensures.rose c.in-Err.ensures.cause)

pub returns-in-Ok-clause-spent : goal.returns-in-Ok-clause-spent
returns-in-Ok-clause-spent g c fits none =
    let old = c.args.self.now in
    let w = g.A.Arith.width old.arith in
    let m = row_count old.inst.value in
    let counts = updates_there w old.inst.value old.log old.ground old.updates old.epoch c.requires.stands.counts none in
    let there = subst
    (λ i. (HasCause w i old.log old.ground → ⊥) → IfSome c.in-Ok.gone (λ r. g.A.Arith.work_count c.record.new.arith ≤ g.A.Arith.work_count old.arith
    + (ground_owed (row_count i) old.ground + (move_work (row_count i) + reached_work (row_count i) (ground_updates old.ground) r)))) c.deref.ensures (c.in-Ok.ensures.spent fits) none in
    subst (λ b. g.A.Arith.work_count b.arith ≤ g.A.Arith.work_count old.arith + (ground_owed m old.ground + (move_work m + recorded_work m old.updates c.answer_of.result))) (sym c.note.ensures)
    (subst (λ r. g.A.Arith.work_count c.record.new.arith ≤ g.A.Arith.work_count old.arith + (ground_owed m old.ground + (move_work m + recorded_work m old.updates r))) (sym c.answer_of.ensures)
    (recorded_spent m (ground_updates old.ground) old.updates (g.A.Arith.work_count old.arith) (g.A.Arith.work_count c.record.new.arith) (ground_owed m old.ground) (move_work m)
    c.args.choice.now.unfit c.in-Ok.gone counts fits (λ is. (subst (GroundRescues c.args.choice.now.unfit w c.deref.result.now old.log old.ground c.record.new.log c.record.new.self) is c.in-Ok.ensures.rescued).0) there))
