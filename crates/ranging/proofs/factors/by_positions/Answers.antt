use Rattle.std.proofs.Common.{◌≡◌, ◌<◌, length, refl, ◌∙◌, ap, subst, sym, arith}
use Rattle.rational.specs.Sum.{at}
use Rattle.sparse_steps.proofs.Steps.{item_read}
use Rattle.lp_run.specs.Instance.{row_count}
use Rattle.ranging.specs.Inner.Found.{AreBegun}
use Rattle.ranging.specs.Inner.Solves.{AreKnown}
use Rattle.ranging.proofs.Known.{taken_as}
use Rattle.ranging.proofs.Positions.{known_begun, known_more, known_worked}
use Rattle.ranging.proofs.Reached.{reached_kept}
use Rattle.ranging.proofs.Rising.{none_missing, risen_later, risen_more}
use Rattle.ranging.proofs.factors.by_positions.Goals as goal

pub begin-requires-clause-statuses : goal.begin-requires-clause-statuses
begin-requires-clause-statuses g c = (reached_kept c.args.inst.now c.args.state.now c.requires.reached).valid.columns

pub loop-p-init : goal.loop-p-init
loop-p-init g c =
    let inst = c.args.inst.now in
    let s = c.args.state.now in
    let solved = c.args.solved.now in
    let limits = c.in_ok-limits.limits in
    let begun = subst (λ xs. AreBegun inst s xs limits) c.deref.ensures.value c.in_ok-limits.ensures in
    record {
      width = refl;
      unfit = omega arith;
      vectors = c.in_ok-vectors.ensures;
      limits = known_begun (g.A.Arith.width c.args.arith.now) inst s c.requires.reached solved.costs.items c.requires.solved.costs solved.values.items limits begun;
      each_cost = begun.each_cost;
      each_right = begun.each_right;
      rose = none_missing inst s solved.costs.items limits _ _ begun;
    }

pub take_position-requires-clause-sized : goal.take_position-requires-clause-sized
take_position-requires-clause-sized g c κs within =
    let keeps = reached_kept c.args.inst.now c.args.state.now c.requires.reached in
    let vectors = c.in_ok-read.ensures.read.vectors in
    record {
      statuses = keeps.valid.columns;
      positions = keeps.valid.positions;
      costs_each = ap length c.deref-in-loop-p-3.ensures.value ∙ c.requires.solved.costs.each;
      row_each = ap length c.deref-in-loop-p.ensures.value ∙ vectors.row;
      rates_each = ap length c.deref-in-loop-p-2.ensures.value ∙ vectors.rates;
      each_cost = c.loop-p.invariant.each_cost;
      each_right = c.loop-p.invariant.each_right;
    }

pub take_position-requires-clause-column : goal.take_position-requires-clause-column
take_position-requires-clause-column g c κs within =
    let below : c.loop-p.p < row_count c.args.inst.now = omega (arith, c.loop-p-test.true, c.rows-p-end.ensures.count) in
    (reached_kept c.args.inst.now c.args.state.now c.requires.reached).valid.in_range c.loop-p.p below

pub loop-p-preserved : goal.loop-p-preserved
loop-p-preserved g c =
    let inst = c.args.inst.now in
    let s = c.args.state.now in
    let w = g.A.Arith.width c.args.arith.now in
    let solved = c.args.solved.now in
    let p = c.loop-p.p in
    let known = c.loop-p.invariant in
    let old = c.loop-p.limits in
    let new = c.take_position.new.limits in
    let v = c.read.new.self in
    let below : p < row_count inst = omega (arith, c.loop-p-test.true, c.rows-p-end.ensures.count) in
    let value : c.index.result.now ≡ at solved.values.items p =
    item_read solved.values.items p c.index.result.now (subst (λ n. p < n) (sym c.requires.solved.values.one_each) below) c.index.ensures in
    let read_value = c.index.result.now in
    let takes = taken_as _ w inst s s p read_value _ solved.costs.items _ v.row.items _ v.rates.items old new (c.read.ensures.width ∙ known.width) refl c.deref-in-loop-p-3.ensures.value
    c.deref-in-loop-p.ensures.value c.deref-in-loop-p-2.ensures.value c.take_position.ensures.taken in
    let read = c.in_ok-read.ensures.read in
    let rose = risen_later _ _ _ old c.read.ensures.unfit known.rose in
    record {
      width = c.take_position.ensures.width ∙ c.read.ensures.width ∙ known.width;
      unfit = omega (arith, known.unfit, c.read.ensures.unfit, c.take_position.ensures.unfit);
      vectors = read.vectors;
      limits = known_more w inst s c.requires.reached solved.costs.items c.requires.solved.costs solved.values.items p below read_value value v read old new takes known.limits;
      each_cost = takes.cost.0 ∙ known.each_cost;
      each_right = takes.each_right ∙ known.each_right;
      rose = risen_more _ _ _ old new (omega (arith, known.unfit, c.read.ensures.unfit)) c.take_position.ensures.unfit rose c.take_position.ensures.rose;
    }

pub returns-clause-worked : goal.returns-clause-worked
returns-clause-worked g c =
    let inst = c.args.inst.now in
    let s = c.args.state.now in
    let w = g.A.Arith.width c.args.arith.now in
    let solved = c.args.solved.now in
    let all : c.loop-p.p ≡ row_count inst = omega (arith, c.loop-p-test.false, c.loop-p.auto.p-end, c.rows-p-end.ensures.count) in
    known_worked w inst s c.requires.reached solved.costs.items c.requires.solved.costs solved.values.items c.requires.solved.values c.loop-p.limits
    (subst (λ n. AreKnown w inst s solved.values.items n c.loop-p.limits) all c.loop-p.invariant.limits)
