-- The table stands after each entry, as long as all fits.
use Rattle.std.proofs.Common.{◌≡◌, ◌<◌, get_or, length, take, subst, sym, ◌∙◌, ap, Err, Ok, arith}
use Rattle.lp_model.specs.declared.Entry.TheVariants.{Flip}
use Rattle.plain_table.specs.Answers.{JudgesStep}
use Rattle.plain_table.specs.Plain.{Stands}
use Rattle.plain_table.proofs.Replays.{fitted_next, front_more, next_is, overflown_next, refused_on}
use Rattle.plain_table.proofs.table.Table.replay.Goals as goal

pub returns-in_err-table-clause-made : goal.returns-in_err-table-clause-made
returns-in_err-table-clause-made g c =
    refused_on (g.A.Arith.width c.args.arith.now) c.args.inst.now c.args.log.now _ _ c.requires.run c.in_err-table.ensures.made c.from_residual.ensures.1

pub loop-k-init : goal.loop-k-init
loop-k-init g c = record {
  width = c.in_ok-table.ensures.width;
  unfit = c.in_ok-table.ensures.unfit;
  stands = c.in_ok-table.ensures.made.0;
  fitted = c.in_ok-table.ensures.made.1;
}

pub step-requires-clause-next : goal.step-requires-clause-next
step-requires-clause-next g c κs within =
    let log = c.args.log.now in
    let k = c.loop-k.k in
    let e = get_or c.entries-entries.result.now k (Flip 0) in
    let lt : k < length log = omega (arith, ap (λ es. length es) c.entries-entries.ensures) in
    let read : e ≡ get_or log k (Flip 0) = ap (λ es. get_or es k (Flip 0)) c.entries-entries.ensures in
    next_is log k (Flip 0) e lt read c.args.inst.now c.loop-k.table c.requires.run c.loop-k.invariant.stands

pub loop-k-preserved : goal.loop-k-preserved
loop-k-preserved g c =
    let inst = c.args.inst.now in
    let log = c.args.log.now in
    let k = c.loop-k.k in
    let w = g.A.Arith.width c.args.arith.now in
    let e = get_or c.entries-entries.result.now k (Flip 0) in
    let lt : k < length log = omega (arith, ap (λ es. length es) c.entries-entries.ensures) in
    let read : e ≡ get_or log k (Flip 0) = ap (λ es. get_or es k (Flip 0)) c.entries-entries.ensures in
    record {
      width = c.step.ensures.width ∙ c.loop-k.invariant.width;
      unfit = c.in-Ok.ensures.unfit ∙ c.loop-k.invariant.unfit;
      stands = subst (λ l. Stands inst l c.step.new.self) (sym (front_more log k (Flip 0) e lt read)) (c.in-Ok.ensures.stands (take k log) c.loop-k.invariant.stands);
      fitted = fitted_next log k (Flip 0) e lt read inst c.loop-k.table c.requires.run c.loop-k.invariant.stands w c.in-Ok.field-0 c.loop-k.invariant.fitted
          (subst (λ w. JudgesStep w inst c.loop-k.table (Ok c.in-Ok.field-0)) c.loop-k.invariant.width c.in-Ok.ensures.listed);
    }

pub returns-in-Err-clause-made : goal.returns-in-Err-clause-made
returns-in-Err-clause-made g c =
    let inst = c.args.inst.now in
    let log = c.args.log.now in
    let k = c.loop-k.k in
    let w = g.A.Arith.width c.args.arith.now in
    let e = get_or c.entries-entries.result.now k (Flip 0) in
    let lt : k < length log = omega (arith, ap (λ es. length es) c.entries-entries.ensures) in
    let read : e ≡ get_or log k (Flip 0) = ap (λ es. get_or es k (Flip 0)) c.entries-entries.ensures in
    overflown_next log k (Flip 0) e lt read inst c.loop-k.table c.requires.run c.loop-k.invariant.stands w c.in-Err.place c.loop-k.invariant.fitted
    (subst (λ w. JudgesStep {A = Unit {0}} w inst c.loop-k.table (Err c.in-Err.place)) c.loop-k.invariant.width c.in-Err.ensures.listed)
