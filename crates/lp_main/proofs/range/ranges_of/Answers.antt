-- The ranges are those of the deck, and each refusal has its cause there.
use Rattle.std.proofs.Common.{sym, subst}
use Rattle.instance_model.specs.Making.{Refuses}
use Rattle.lp_run.specs.Run.{IsRun}
use Rattle.lp_run.specs.State.{State}
use Rattle.ranging.specs.declared.fault.RangeFault.TheVariants.{Overflow, Unfit}
use Rattle.ranging.specs.Causes.{IsRangeCause}
use Rattle.ranging.specs.Ranges.{AreRanges}
use Rattle.lp_main.specs.declared.refusal.Refusal.TheVariants as refusal
use Rattle.lp_main.specs.Inner.Ranging.{IsUnrangedCause}
use Rattle.lp_main.proofs.Ranging.{overflow_unranged, start_unranged, unfit_unranged}
use Rattle.lp_main.proofs.range.ranges_of.Goals as goal

pub returns-in-Err-Overflow-clause-cause : goal.returns-in-Err-Overflow-clause-cause
returns-in-Err-Overflow-clause-cause g c =
    let w = g.A.Arith.width c.args.arith.now in
    let d = c.args.deck.now in
    subst (λ here. IsUnrangedCause w d (refusal.Overflow here)) (sym c.in-Err-Overflow.place-is)
    (start_unranged w d c.in-Err-Overflow.place c.requires.deck (subst (Refuses w d) c.in-Err-Overflow.field-0-is c.in-Err-Overflow.ensures.made))

pub returns-in-Ok-ranges-clause-ranges : goal.returns-in-Ok-ranges-clause-ranges
returns-in-Ok-ranges-clause-ranges g c =
    subst (λ inst. (s : State) → IsRun inst c.args.log.now s → AreRanges inst s c.in-Ok-ranges.found) c.in-Ok.ensures.made.0 c.in-Ok-ranges.ensures.ranges

pub returns-in-Err-Overflow-ranges-clause-cause : goal.returns-in-Err-Overflow-ranges-clause-cause
returns-in-Err-Overflow-ranges-clause-cause g c =
    let n = g.A.Arith.unfit_count c.of.new.arith in
    let n' = g.A.Arith.unfit_count c.ranges-2.new.arith in
    let log = c.args.log.now in
    let inst = c.in-Ok.inst in
    overflow_unranged (g.A.Arith.width c.args.arith.now) c.args.deck.now inst c.in-Ok.ensures.made.0 log c.requires.optimum n n' c.in-Err-Overflow-ranges.place
    (subst (λ w. IsRangeCause w inst log n n' (Overflow c.in-Err-Overflow-ranges.place)) c.of.ensures.width
    (subst (IsRangeCause (g.A.Arith.width c.of.new.arith) inst log n n') c.in-Err-Overflow-ranges.field-0-is c.in-Err-Overflow-ranges.ensures.cause))

pub returns-in-Ok-range_name-clause-cause : goal.returns-in-Ok-range_name-clause-cause
returns-in-Ok-range_name-clause-cause g c =
    let n = g.A.Arith.unfit_count c.of.new.arith in
    let n' = g.A.Arith.unfit_count c.ranges-2.new.arith in
    let log = c.args.log.now in
    let inst = c.in-Ok.inst in
    unfit_unranged (g.A.Arith.width c.args.arith.now) c.args.deck.now inst c.in-Ok.ensures.made.0 log c.requires.optimum n n' c.in-Err-Unfit.place
    (subst (λ w. IsRangeCause w inst log n n' (Unfit c.in-Err-Unfit.place)) c.of.ensures.width
    (subst (IsRangeCause (g.A.Arith.width c.of.new.arith) inst log n n') c.in-Err-Unfit.field-0-is c.in-Err-Unfit.ensures.cause)) c.in-Ok-range_name.name c.in-Ok-range_name.ensures
