use Rattle.std.proofs.Common.{◌≡◌, ◌-◌, length}
use Rattle.rational.specs.Worked.{settle}
use Rattle.plain_table.specs.Inner.Costs.{priced, terms_from}
use Rattle.plain_table.proofs.costs.less_basic_costs.Given as goal

-- what is left from the position on settles as all of it
abbrev pub invariant-loop-p : goal.invariant-loop-p
invariant-loop-p g l = record {
  width : g.A.Arith.width l.arith ≡ g.A.Arith.width l.fn.arith;
  unfit : g.A.Arith.unfit_count l.arith ≡ g.A.Arith.unfit_count l.fn.arith;
  left : settle (g.A.Arith.width l.fn.arith) (priced l.rest (terms_from l.basic_costs l.rows l.j l.p (length l.rows - l.p)))
      ≡ settle (g.A.Arith.width l.fn.arith) (priced l.fn.own (terms_from l.basic_costs l.rows l.j 0 (length l.rows)));
}
