use Rattle.std.proofs.Common.{◌+◌, ◌∙◌, arith}
use Rattle.rational.specs.Rational.{neg_ℚ}
use Rattle.rational.specs.Sum.{at}
use Rattle.rational.proofs.VectorLaws.{list_of}
use Rattle.lp_run.specs.Instance.{row_count, structural_count}
use Rattle.plain_table.proofs.table.Table.prices.Goals as goal

pub returns : goal.returns
returns c =
    let inst = c.args.inst.now in
    list_of (λ i. neg_ℚ (at c.args.self.now.costs (structural_count inst + i))) (row_count inst) c.loop-row.y.items
    (c.loop-row.invariant.count ∙ omega arith) (λ k h. c.loop-row.invariant.each k (omega arith))
