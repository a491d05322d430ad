use Rattle.std.proofs.Common.{◌≡◌, ◌+◌, ◌-◌, ◌≤◌}
use Rattle.bland_ratio.specs.Entries.{entries_from}
use Rattle.bland_ratio.specs.Pricing.{NoneStops}
use Rattle.bland_ratio.proofs.pricing.first_stopper.Given as goal

-- none of the columns before this one is a stopper
abbrev pub invariant-loop-j : goal.invariant-loop-j
invariant-loop-j g l = record {
  width : g.A.Arith.width l.arith ≡ g.A.Arith.width l.fn.arith;
  unfit : g.A.Arith.unfit_count l.arith ≡ g.A.Arith.unfit_count l.fn.arith;
  work : g.A.Arith.work_count l.arith ≤ g.A.Arith.work_count l.fn.arith + entries_from l.inst l.from (l.j - l.from);
  none : NoneStops (g.A.Arith.width l.fn.arith) l.inst l.ticket l.from l.j;
}
