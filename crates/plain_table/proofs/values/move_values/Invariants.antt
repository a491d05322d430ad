use Rattle.std.proofs.Common.{◌≡◌, ◌+◌, ◌<◌, ◌≤◌, ℕ, Some, None, length, eqb}
use Rattle.lp_model.specs.declared.Kind.TheVariants as kind
use Rattle.rational.specs.Sum.{at}
use Rattle.rational.specs.Worked.{placed}
use Rattle.lp_run.specs.Listing.{AllFit, place}
use Rattle.plain_table.specs.Inner.Values.{value_work}
use Rattle.plain_table.proofs.values.move_values.Given as goal

abbrev pub invariant-loop-i : goal.invariant-loop-i
invariant-loop-i g l = record {
  width : g.A.Arith.width l.arith ≡ g.A.Arith.width l.fn.arith;
  unfit : g.A.Arith.unfit_count l.arith ≡ g.A.Arith.unfit_count l.fn.arith;
  work : g.A.Arith.work_count l.arith ≤ g.A.Arith.work_count l.fn.arith + l.i;
  count : length l.out ≡ length l.values;
  moved : (k : ℕ) → k < l.i → at l.out k ≡ (value_work (eqb k l.position) l.down l.rest (at l.values k) (at l.column k) l.ratio).answer;
  fits : (k : ℕ) → k < l.i → AllFit (g.A.Arith.width l.fn.arith) (placed (place l.number kind.Value (Some k) None)
      (value_work (eqb k l.position) l.down l.rest (at l.values k) (at l.column k) l.ratio));
}
