-- The entries of a structural are gathered; a logical and an artificial have one.
use Rattle.std.proofs.Common.{◌≡◌, ◌<◌, length, pos, refl, ◌∙◌, ap, arith}
use Rattle.rational.specs.Rational.{ℚ, one_ℚ, ratio}
use Rattle.rational.proofs.OrderLaws.{one_unless_zero-le}
use Rattle.exact_frac.specs.Constants.{ratio-one}
use Rattle.sparse_cols.specs.Sparse.{Sparse}
use Rattle.sparse_steps.proofs.Steps.{item_read}
use Rattle.lp_run.specs.declared.ColumnKind.TheVariants as column
use Rattle.lp_run.specs.Instance.{passed_side, row_count, sign_past}
use Rattle.bland_ratio.specs.Entries.{column_entries}
use Rattle.bland_ratio.proofs.Counting.{entries-of}
use Rattle.bland_ratio.proofs.Priced.{gathers, kind_within, one_settles}
use Rattle.bland_ratio.proofs.pricing.price.Goals as goal

pub gather-requires-after_bounds : goal.gather-requires-after_bounds
gather-requires-after_bounds g c = λ κs bounds.
    gathers c.args.inst.now c.rows-rows.ensures.well_formed c.args.j c.in-Structural.k (length c.args.prices.now) c.entries.result.now.pairs c.requires.column c.in-Structural.ensures c.requires.prices
    (ap (λ (entries : Sparse ℚ). entries.pairs) c.entries.ensures)

pub returns-in-Structural-clause-work : goal.returns-in-Structural-clause-work
returns-in-Structural-clause-work g c =
    let inst = c.args.inst.now in
    let stored : length c.entries.result.now.pairs ≡ column_entries inst c.args.j =
    ap (λ (entries : Sparse ℚ). length entries.pairs) c.entries.ensures ∙ entries-of inst c.args.j (column.Structural c.in-Structural.k) c.in-Structural.ensures in
    omega (arith, stored, c.gather.ensures.work)

pub returns-in-Logical-clause-work : goal.returns-in-Logical-clause-work
returns-in-Logical-clause-work g c =
    let stored : 1 ≡ column_entries c.args.inst.now c.args.j = entries-of c.args.inst.now c.args.j (column.Logical c.in-Logical.i) c.in-Logical.ensures in
    omega (arith, stored, one_unless_zero-le (ratio (pos 1) 1), c.less_product.ensures.work)

pub returns-in-Artificial-clause-work : goal.returns-in-Artificial-clause-work
returns-in-Artificial-clause-work g c =
    let stored : 1 ≡ column_entries c.args.inst.now c.args.j = entries-of c.args.inst.now c.args.j (column.Artificial c.in-Artificial.i) c.in-Artificial.ensures in
    omega (arith, stored, one_unless_zero-le c.sign.result, c.less_product-in-Artificial.ensures.work)

pub returns-in-Logical-clause-settled : goal.returns-in-Logical-clause-settled
returns-in-Logical-clause-settled g c =
    let i = c.in-Logical.i in
    let below : i < row_count c.args.inst.now = kind_within c.args.inst.now c.args.j (column.Logical i) c.requires.column c.in-Logical.ensures in
    let priced : i < length c.args.prices.now = omega (arith, below, c.requires.prices) in
    one_settles _ c.args.inst.now c.args.phase c.args.prices.now c.args.j i (column.Logical i) one_ℚ c.cost-cost.result _ c.index-prices-i.result c.less_product.result
    c.in-Logical.ensures refl below c.cost-cost.ensures ratio-one (item_read c.args.prices.now i c.index-prices-i.result priced c.index-prices-i.is) c.less_product.ensures.settled

pub returns-in-Artificial-clause-settled : goal.returns-in-Artificial-clause-settled
returns-in-Artificial-clause-settled g c =
    let i = c.in-Artificial.i in
    let below : i < row_count c.args.inst.now = kind_within c.args.inst.now c.args.j (column.Artificial i) c.requires.column c.in-Artificial.ensures in
    let priced : i < length c.args.prices.now = omega (arith, below, c.requires.prices) in
    one_settles _ c.args.inst.now c.args.phase c.args.prices.now c.args.j i (column.Artificial i) (sign_past (passed_side c.args.inst.now i)) c.cost-cost.result c.sign.result
    c.index-prices-i-in-Artificial.result c.less_product-in-Artificial.result c.in-Artificial.ensures refl below c.cost-cost.ensures c.sign.ensures
    (item_read c.args.prices.now i c.index-prices-i-in-Artificial.result priced c.index-prices-i-in-Artificial.is) c.less_product-in-Artificial.ensures.settled
