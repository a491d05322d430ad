use Rattle.std.proofs.Common.{length, arith}
use Rattle.rational.specs.Rational.{one_ℚ}
use Rattle.rational.specs.Sparse.{at_index}
use Rattle.rational.proofs.VectorLaws.{list_of}
use Rattle.ranging.proofs.row.put_unit.Goals as goal

pub returns : goal.returns
returns c = list_of (λ i. at_index i c.args.p one_ℚ) (length c.args.out.now) c.loop-i.out c.loop-i.invariant.count (λ k b. c.loop-i.invariant.items k (omega (arith, b, c.loop-i.invariant.count)))
