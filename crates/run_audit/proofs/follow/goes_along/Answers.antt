-- The entry is the run's, or it is not.
use Rattle.std.proofs.Common.{List, inl}
use Rattle.lp_model.specs.declared.Entry.{Entry}
use Rattle.plain_table.proofs.Coming.{handed_on}
use Rattle.run_audit.specs.Inner.Parts.{EntryOverflows, Follows}
use Rattle.run_audit.proofs.Along.{departs, entry_taken, entry_unfit, fails}
use Rattle.run_audit.proofs.follow.goes_along.Goals as goal

pub returns-in_err-next-clause-overflow : goal.returns-in_err-next-clause-overflow
returns-in_err-next-clause-overflow g c =
    let w = g.A.Arith.width c.args.arith.now in
    let inst = c.args.inst.now in
    let t = c.args.table.now in
    handed_on _ (λ here. (log : List Entry) → Follows w inst log t → EntryOverflows w inst log t c.args.entry here) c.from_residual.ensures.1
    (λ log follows. inl (c.in_err-next.ensures.tested, c.in_err-next.ensures.overflow))

pub returns-then-not-is_entry-clause-goes : goal.returns-then-not-is_entry-clause-goes
returns-then-not-is_entry-clause-goes g c = λ log follows. (
  c.next.ensures.kept,
  (
    departs c.args.inst.now c.args.table.now c.args.entry c.in_ok-next.next c.in_ok-next.ensures.next (λ is. fails c.is_entry.result c.if-not-is_entry.true (c.is_entry.ensures.1 is)),
    c.in_ok-next.ensures.tested,
  ),
)

pub returns-in_err-step-clause-overflow : goal.returns-in_err-step-clause-overflow
returns-in_err-step-clause-overflow g c =
    let w = g.A.Arith.width c.args.arith.now in
    let inst = c.args.inst.now in
    let t = c.args.table.now in
    handed_on _ (λ here. (log : List Entry) → Follows w inst log t → EntryOverflows w inst log t c.args.entry here) c.from_residual-in_err-step.ensures.1
    (λ log follows. entry_unfit w (g.A.Arith.width c.next.new.arith) inst log t c.next.new.self c.args.entry c.next.ensures.width c.next.ensures.kept c.in_err-step.field-0.0 c.in_ok-next.next
    (c.is_entry.ensures.0 c.if-not-is_entry.false) c.in_ok-next.ensures.next follows c.in_err-step.ensures.listed)

pub returns-clause-goes : goal.returns-clause-goes
returns-clause-goes g c = λ log follows.
    entry_taken (g.A.Arith.width c.args.arith.now) (g.A.Arith.width c.next.new.arith) c.args.inst.now log c.args.table.now c.next.new.self c.args.entry c.next.ensures.width c.next.ensures.kept
    c.step.new.self c.in_ok-step.field-0 follows c.in_ok-step.ensures.stands c.in_ok-step.ensures.listed
