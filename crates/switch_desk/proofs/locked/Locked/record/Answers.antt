use Rattle.std.proofs.Common.{◌≡◌, IfErr, IfOk, length, sym, subst}
use Rattle.counting.specs.Counting.{numbers_between}
use Rattle.two_phase.specs.Board.{BoardStands, IsChoiceFor}
use Rattle.switch_desk.specs.Answers.{IsRecordRefusal, IsRecordedAt, added}
use Rattle.switch_desk.specs.Lineages.{lineage_of}
use Rattle.switch_desk.proofs.Sessions.{one_lineage, record_added, record_comes, record_refused}
use Rattle.switch_desk.proofs.locked.Locked.record.Goals as goal

pub returns-clause-added : goal.returns-clause-added
returns-clause-added g c =
    let width = g.A.Arith.width in
    let b = c.self.inside.board in
    let exact = subst (λ b. IsChoiceFor (width b.arith) b.inst.value (length b.log) c.args.choice) (sym c.self.view_is) c.requires in
    let e = c.record-answer.ensures in
    subst (λ b. numbers_between (length b.log) (length c.record-answer.new.self.log) ≡ added c.record-answer.result c.args.choice.number) c.self.view_is
    (record_added width b c.record-answer.new.self c.args.choice exact.0 c.record-answer.result e.recorded e.unmoved e.ended e.stale)

pub returns-clause-recorded : goal.returns-clause-recorded
returns-clause-recorded g c =
    let width = g.A.Arith.width in
    let b = c.self.inside.board in
    let new = c.record-answer.new.self in
    let exact = subst (λ b. IsChoiceFor (width b.arith) b.inst.value (length b.log) c.args.choice) (sym c.self.view_is) c.requires in
    let e = c.record-answer.ensures in
    let stands = subst (λ w. BoardStands w new) (sym e.width) e.stands in
    subst (λ b. IfOk c.record-answer.result (IsRecordedAt (lineage_of width b) (length new.log) c.args.choice)) c.self.view_is
    (record_comes width b new c.args.choice exact.0 c.self.invariant.0 stands (one_lineage width b new e.same e.width) c.record-answer.result e.recorded e.ended e.stale)

pub returns-clause-refused : goal.returns-clause-refused
returns-clause-refused g c =
    let width = g.A.Arith.width in
    let b = c.self.inside.board in
    subst (λ b. IfErr c.record-answer.result (IsRecordRefusal (lineage_of width b) (length c.record-answer.new.self.log) c.args.choice)) c.self.view_is
    (record_refused width b c.self.invariant.0 c.record-answer.new.self c.args.choice _ _ c.record-answer.result c.record-answer.ensures.unmoved c.record-answer.ensures.fault)
