-- The entries of a structural come by rising rows.
use Rattle.std.proofs.Common.{refl, sym, ◌∙◌, ap}
use Rattle.rational.specs.Rational.{ℚ}
use Rattle.sparse_cols.specs.Sparse.{Sparse}
use Rattle.lp_run.specs.Instance.{row_count}
use Rattle.bland_ratio.proofs.Priced.{gathers}
use Rattle.basis_solves.proofs.columns.column_of.Goals as goal

pub returns-in-Structural-clause-rising : goal.returns-in-Structural-clause-rising
returns-in-Structural-clause-rising g =
    let inst = g.args.inst.now in
    gathers inst g.rows-rows.ensures.well_formed g.args.q g.in-Structural.k (row_count inst) g.entries.result.now.pairs g.requires (sym g.in-Structural.is ∙ g.kind.ensures) refl
    (ap (λ (column : Sparse ℚ). column.pairs) g.entries.ensures)
