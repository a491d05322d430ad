-- The column is that of the table, and the ratio test decides as the listing says.
use Rattle.std.proofs.Common.{◌<◌, length, sym, ◌∙◌, ap, subst}
use Rattle.lp_run.specs.Step.{direction}
use Rattle.plain_table.proofs.Motions.{column_read, decides_so, test_fits, test_unfit}
use Rattle.plain_table.proofs.motion.decide.Goals as goal

pub returns-in-Ok-clause-answer : goal.returns-in-Ok-clause-answer
returns-in-Ok-clause-answer g c =
    let parts = c.args.parts.now in
    let inst = c.args.inst.now in
    let within : c.args.q < length parts.costs.now = subst (λ n. c.args.q < n) (sym c.requires.costs) c.requires.column in
    let is = column_read inst parts.rows.now c.args.q c.read_column.new.out (c.read_column.auto.out ∙ c.requires.alpha) c.requires.rows c.read_column.ensures in
    test_fits inst parts.state.now parts.rows.now parts.values.now parts.costs.now c.args.q c.read_column.new.out is c.falls-down.result c.index-parts-q.result within
    c.index-parts-q.is (ap direction c.index-parts-q.is ∙ c.falls-down.ensures)
    _ parts.number c.in-Ok.ensures.fits

pub returns-in-Ok-clause-decides : goal.returns-in-Ok-clause-decides
returns-in-Ok-clause-decides g c =
    let parts = c.args.parts.now in
    let inst = c.args.inst.now in
    let within : c.args.q < length parts.costs.now = subst (λ n. c.args.q < n) (sym c.requires.costs) c.requires.column in
    let is = column_read inst parts.rows.now c.args.q c.read_column.new.out (c.read_column.auto.out ∙ c.requires.alpha) c.requires.rows c.read_column.ensures in
    decides_so inst parts.state.now parts.rows.now parts.values.now parts.costs.now c.args.q c.read_column.new.out is c.falls-down.result c.index-parts-q.result within
    c.index-parts-q.is (ap direction c.index-parts-q.is ∙ c.falls-down.ensures)
    c.in-Ok.leave c.in-Ok.ensures.decides

pub returns-in-Ok-clause-column : goal.returns-in-Ok-clause-column
returns-in-Ok-clause-column g c =
    column_read c.args.inst.now c.args.parts.now.rows.now c.args.q c.read_column.new.out (c.read_column.auto.out ∙ c.requires.alpha) c.requires.rows c.read_column.ensures

pub returns-in-Err-clause-answer : goal.returns-in-Err-clause-answer
returns-in-Err-clause-answer g c =
    let parts = c.args.parts.now in
    let inst = c.args.inst.now in
    let within : c.args.q < length parts.costs.now = subst (λ n. c.args.q < n) (sym c.requires.costs) c.requires.column in
    let is = column_read inst parts.rows.now c.args.q c.read_column.new.out (c.read_column.auto.out ∙ c.requires.alpha) c.requires.rows c.read_column.ensures in
    test_unfit inst parts.state.now parts.rows.now parts.values.now parts.costs.now c.args.q c.read_column.new.out is c.falls-down.result c.index-parts-q.result within
    c.index-parts-q.is (ap direction c.index-parts-q.is ∙ c.falls-down.ensures)
    _ parts.number c.in-Err.refusal c.ratio_place.result c.ratio_place.ensures c.in-Err.ensures.unfit

pub returns-in-Err-clause-column : goal.returns-in-Err-clause-column
returns-in-Err-clause-column g c =
    column_read c.args.inst.now c.args.parts.now.rows.now c.args.q c.read_column.new.out (c.read_column.auto.out ∙ c.requires.alpha) c.requires.rows c.read_column.ensures
