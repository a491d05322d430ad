use Rattle.std.proofs.Common.{◌≡◌}
use Rattle.cert_check.specs.Inner.Groups.{claimed}
use Rattle.cert_check.specs.Walk.{first_stop}
use Rattle.cert_check.proofs.walk.look.Given as goal

-- what is left decides
abbrev pub invariant-loop-k : goal.invariant-loop-k
invariant-loop-k g l = record {
  width : g.A.Arith.width l.arith ≡ g.A.Arith.width l.fn.arith;
  left : first_stop (g.A.Arith.width l.fn.arith) (claimed l.claim l.k l.to) ≡ first_stop (g.A.Arith.width l.fn.arith) (claimed l.claim l.from l.to);
  unfit : g.A.Arith.unfit_count l.arith ≡ g.A.Arith.unfit_count l.fn.arith;
}
