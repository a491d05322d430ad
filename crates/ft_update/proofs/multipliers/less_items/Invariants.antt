use Rattle.std.proofs.Common.{◌≡◌, ◌+◌, ◌≤◌, drop, length}
use Rattle.rational.specs.Sum.{at}
use Rattle.rational.specs.Worked.{settle}
use Rattle.factor_model.specs.Update.{less_multiples}
use Rattle.ft_update.proofs.multipliers.less_items.Given as goal

-- what is left of the multipliers settles as all of them
abbrev pub invariant-loop-row : goal.invariant-loop-row
invariant-loop-row g l = record {
  width : g.A.Arith.width l.arith ≡ g.A.Arith.width l.fn.arith;
  left : settle (g.A.Arith.width l.fn.arith) (less_multiples (at l.v) l.rest (drop l.row-index l.taken)) ≡ settle (g.A.Arith.width l.fn.arith) (less_multiples (at l.v) l.fn.x l.taken);
  unfit : g.A.Arith.unfit_count l.arith ≡ g.A.Arith.unfit_count l.fn.arith;
  work : g.A.Arith.work_count l.arith + length (drop l.row-index l.taken) ≤ g.A.Arith.work_count l.fn.arith + length l.taken;
}
