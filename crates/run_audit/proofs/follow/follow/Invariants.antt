use Rattle.std.proofs.Common.{◌≡◌, take}
use Rattle.run_audit.specs.Inner.Parts.{Follows}
use Rattle.run_audit.proofs.follow.follow.Given as goal

abbrev pub invariant-loop-k : goal.invariant-loop-k
invariant-loop-k g l = record {
  width : g.A.Arith.width l.arith ≡ g.A.Arith.width l.fn.arith;
  unfit : g.A.Arith.unfit_count l.arith ≡ g.A.Arith.unfit_count l.fn.arith;
  follows : Follows (g.A.Arith.width l.fn.arith) l.inst (take l.k l.entries) l.table;
}
