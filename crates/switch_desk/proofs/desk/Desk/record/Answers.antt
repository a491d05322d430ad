use Rattle.std.proofs.Common.{◌≤◌, IfOk, length, sym, ◌∙◌, ap, subst, arith}
use Rattle.switch_gate.specs.Passes.{seen_of}
use Rattle.switch_desk.specs.Answers.{IsRecordedAt}
use Rattle.switch_desk.specs.Desks.{run_of}
use Rattle.switch_desk.specs.Lineages.{lineage_of}
use Rattle.switch_desk.proofs.Sessions.{later_choice}
use Rattle.switch_desk.proofs.desk.Desk.record.Goals as goal

pub record-answer-requires-after_bounds : goal.record-answer-requires-after_bounds
record-answer-requires-after_bounds g c κs within =
    let width = g.A.Arith.width in
    let b = c.value_mut.result.now in
    let later : seen_of c.args.pass ≤ length b.log = subst (λ b. seen_of c.args.pass ≤ length b.log) (sym c.value_mut.ensures.value) (omega (arith, c.take-held.ensures.seen, c.take-held.ensures.number)) in
    later_choice (run_of width c.args.self.now) (lineage_of width b) (seen_of c.args.pass) (length b.log) c.args.choice
    (ap (lineage_of width) c.value_mut.ensures.value ∙ c.take-held.ensures.lineage) later c.requires.exact

pub returns-clause-recorded : goal.returns-clause-recorded
returns-clause-recorded g c =
    let width = g.A.Arith.width in
    let r = c.record-answer.result in
    subst (λ t. IfOk r (IsRecordedAt (run_of width c.args.self.now) t c.args.choice)) (sym c.give.ensures.seen)
    (subst (λ l. IfOk r (IsRecordedAt l (length c.record-answer.new.self.log) c.args.choice)) (ap (lineage_of width) c.value_mut.ensures.value ∙ c.take-held.ensures.lineage) c.record-answer.ensures.recorded)
