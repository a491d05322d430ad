-- The table follows the log, as long as the entries are the run's.
use Rattle.std.proofs.Common.{◌≡◌, ◌<◌, get_or, length, take, ◌∙◌, refl, arith}
use Rattle.std.proofs.lemmas.List.{length-take-le}
use Rattle.lp_model.specs.declared.Entry.TheVariants.{Flip}
use Rattle.plain_table.proofs.Coming.{handed_on}
use Rattle.run_audit.specs.Inner.Parts.{LogOverflows}
use Rattle.run_audit.proofs.Along.{asked, ended, gone_along, parted, parted_behind, unfit_along, unfit_behind}
use Rattle.run_audit.proofs.follow.follow.Goals as goal

pub loop-k-init : goal.loop-k-init
loop-k-init g c = record { width = refl; unfit = refl; follows = c.requires.start }

pub goes_along-requires-clause-follows : goal.goes_along-requires-clause-follows
goes_along-requires-clause-follows g c κs within =
    let log = c.args.entries.now in
    let k = c.loop-k.k in (
      take k log,
      asked (g.A.Arith.width c.args.arith.now) (g.A.Arith.width c.loop-k.arith) c.args.inst.now log k c.loop-k.table c.loop-k.table (Flip 0) (get_or log k (Flip 0)) c.loop-k-test.true refl
          c.loop-k.invariant.width c.loop-k.invariant.follows,
    )

pub goes_along-requires-clause-room : goal.goes_along-requires-clause-room
goes_along-requires-clause-room g c κs within =
    let log = c.args.entries.now in
    let k = c.loop-k.k in
    let less : k < length log = c.loop-k-test.true in
    let number : c.loop-k.table.number ≡ k = c.loop-k.invariant.follows.0.number ∙ length-take-le k log (omega (arith, less)) in
    omega (arith, less, number)

pub returns-in_err-goes_along-clause-overflow : goal.returns-in_err-goes_along-clause-overflow
returns-in_err-goes_along-clause-overflow g c =
    let w = g.A.Arith.width c.args.arith.now in
    let inst = c.args.inst.now in
    let log = c.args.entries.now in
    let k = c.loop-k.k in
    handed_on _ (LogOverflows w inst log) c.from_residual.ensures.1
    (unfit_along w (g.A.Arith.width c.loop-k.arith) inst log k c.loop-k.table c.loop-k.table (Flip 0) (get_or log k (Flip 0)) c.loop-k-test.true refl c.loop-k.invariant.width
    c.loop-k.invariant.follows c.requires.well_formed c.in_err-goes_along.field-0.0 c.in_err-goes_along.ensures.overflow)

pub returns-then-not-branch-clause-met : goal.returns-then-not-branch-clause-met
returns-then-not-branch-clause-met g c =
    let log = c.args.entries.now in
    let k = c.loop-k.k in
    parted (g.A.Arith.width c.args.arith.now) (g.A.Arith.width c.loop-k.arith) c.args.inst.now log k c.loop-k.table c.goes_along.new.table (Flip 0) (get_or log k (Flip 0)) c.loop-k-test.true refl
    c.loop-k.invariant.width c.loop-k.invariant.follows c.in_ok-goes_along.field-0 c.if-not-branch.true c.in_ok-goes_along.ensures.goes

pub loop-k-preserved : goal.loop-k-preserved
loop-k-preserved g c =
    let log = c.args.entries.now in
    let k = c.loop-k.k in
    record {
      width = c.goes_along.ensures.width ∙ c.loop-k.invariant.width;
      unfit = c.in_ok-goes_along.ensures.unfit ∙ c.loop-k.invariant.unfit;
      follows = gone_along (g.A.Arith.width c.args.arith.now) (g.A.Arith.width c.loop-k.arith) c.args.inst.now log k c.loop-k.table c.goes_along.new.table (Flip 0) (get_or log k (Flip 0))
          c.loop-k-test.true refl c.loop-k.invariant.width c.loop-k.invariant.follows c.in_ok-goes_along.field-0 c.if-not-branch.false c.in_ok-goes_along.ensures.goes;
    }

pub returns-in_err-next-clause-overflow : goal.returns-in_err-next-clause-overflow
returns-in_err-next-clause-overflow g c =
    let w = g.A.Arith.width c.args.arith.now in
    let inst = c.args.inst.now in
    let log = c.args.entries.now in
    handed_on _ (LogOverflows w inst log) c.from_residual-in_err-next.ensures.1
    (unfit_behind w (g.A.Arith.width c.loop-k.arith) inst log c.loop-k.k c.loop-k.table c.next.new.self (omega (arith, c.loop-k-test.false)) c.loop-k.invariant.width c.next.ensures.kept
    c.loop-k.invariant.follows c.in_err-next.field-0.0 (c.in_err-next.ensures.tested, c.in_err-next.ensures.overflow))

pub returns-in-Entry-clause-met : goal.returns-in-Entry-clause-met
returns-in-Entry-clause-met g c =
    parted_behind (g.A.Arith.width c.args.arith.now) (g.A.Arith.width c.loop-k.arith) c.args.inst.now c.args.entries.now c.loop-k.k c.loop-k.table c.next.new.self
    (omega (arith, c.loop-k-test.false)) c.loop-k.invariant.width c.next.ensures.kept c.loop-k.invariant.follows c.in_ok-next.field-0 c.in-Entry.field-0 c.in-Entry.is c.in_ok-next.ensures.next
    c.in_ok-next.ensures.tested

pub returns-in-End-clause-met : goal.returns-in-End-clause-met
returns-in-End-clause-met g c =
    ended (g.A.Arith.width c.args.arith.now) (g.A.Arith.width c.loop-k.arith) c.args.inst.now c.args.entries.now c.loop-k.k c.loop-k.table c.next.new.self
    (omega (arith, c.loop-k-test.false)) c.loop-k.invariant.width c.next.ensures.kept c.loop-k.invariant.follows c.in_ok-next.field-0 c.in-End.end c.in-End.is c.in_ok-next.ensures.next
    c.in_ok-next.ensures.tested
