use Rattle.std.proofs.Common.{◌∙◌, arith}
use Rattle.rational.proofs.VectorLaws.{list_of}
use Rattle.lp_run.specs.Instance.{row_count}
use Rattle.plain_table.specs.Plain.{cell}
use Rattle.plain_table.proofs.table.Table.column.Goals as goal

pub returns : goal.returns
returns c =
    list_of (λ p. cell c.args.self.now p c.args.column) (row_count c.args.inst.now) c.loop-p.alpha.items
    (c.loop-p.invariant.count ∙ omega arith) (λ k h. c.loop-p.invariant.each k (omega arith))
