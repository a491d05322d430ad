use Rattle.std.proofs.Common.{◌<◌, length, pos, sym, ◌∙◌, ap, ap₂, subst}
use Rattle.rational.specs.Lines.{gather}
use Rattle.rational.specs.Rational.{ℚ, neg_ℚ, ratio}
use Rattle.rational.specs.Sum.{at}
use Rattle.rational.specs.Worked.{settle}
use Rattle.rational.proofs.Settling.{settle-answer}
use Rattle.exact_frac.specs.Constants.{ratio-zero}
use Rattle.sparse_cols.specs.Sparse.{Sparse}
use Rattle.sparse_steps.proofs.Steps.{item_read}
use Rattle.lp_run.specs.declared.ColumnKind.TheVariants as column
use Rattle.lp_run.specs.Instance.{passed_side, row_count, structural}
use Rattle.bland_ratio.proofs.Priced.{gathers, kind_within}
use Rattle.ranging.specs.Causes.{crossed}
use Rattle.ranging.specs.Inner.Solves.{signed}
use Rattle.ranging.proofs.Reached.{reached_kept}
use Rattle.ranging.proofs.Rows.{artificial_entry, logical_entry, signed_is, structural_entry}
use Rattle.ranging.proofs.row.entry_of.Goals as goal

pub is_looked_at-requires-clause-statuses : goal.is_looked_at-requires-clause-statuses
is_looked_at-requires-clause-statuses g c = (reached_kept c.args.inst.now c.args.state.now c.requires.reached).valid.columns

pub gather-requires-after_bounds : goal.gather-requires-after_bounds
gather-requires-after_bounds g c κs within =
    gathers c.args.inst.now c.requires.reached.0 c.args.k c.in-Structural.j (length c.args.rates.now) c.entries.result.now.pairs c.requires.column c.in-Structural.ensures c.requires.rates
    (ap (λ (entries : Sparse ℚ). entries.pairs) c.entries.ensures)

pub returns-in_ok-left-in-Structural-clause-entry : goal.returns-in_ok-left-in-Structural-clause-entry
returns-in_ok-left-in-Structural-clause-entry g c looked =
    let inst = c.args.inst.now in
    let ρ = c.args.rates.now in
    let w = g.A.Arith.width c.args.arith.now in
    let j = c.in-Structural.j in
    let pairs = ap (λ (entries : Sparse ℚ). entries.pairs) c.entries.ensures in
    let same = ap₂ (λ n ps. gather n ρ (ratio (pos 0) 1) ps) c.rows.ensures.count pairs ∙ ap (λ r. gather (row_count inst) ρ r (structural inst j).entries) ratio-zero in
    let answer = settle-answer w (crossed inst ρ j) c.in_ok-left-in-Structural.left (ap (settle w) (sym same) ∙ c.in_ok-left-in-Structural.ensures.settled) in
    c.negated.ensures ∙ ap neg_ℚ (sym answer) ∙ structural_entry inst ρ c.args.k c.requires.column c.requires.reached.0 j c.in-Structural.ensures

pub returns-in-Logical-clause-entry : goal.returns-in-Logical-clause-entry
returns-in-Logical-clause-entry g c looked =
    let inst = c.args.inst.now in
    let ρ = c.args.rates.now in
    let i = c.in-Logical.i in
    let below : i < length ρ = subst (λ n. i < n) (sym c.requires.rates) (kind_within inst c.args.k (column.Logical i) c.requires.column c.in-Logical.ensures) in
    item_read ρ i c.index-rates-i.result below c.index-rates-i.is ∙ logical_entry inst ρ c.args.k c.requires.column i c.in-Logical.ensures

pub returns-in-Artificial-clause-entry : goal.returns-in-Artificial-clause-entry
returns-in-Artificial-clause-entry g c looked =
    let inst = c.args.inst.now in
    let ρ = c.args.rates.now in
    let i = c.in-Artificial.i in
    let below : i < length ρ = subst (λ n. i < n) (sym c.requires.rates) (kind_within inst c.args.k (column.Artificial i) c.requires.column c.in-Artificial.ensures) in
    c.signed.ensures
    ∙ ap₂ signed c.passed.ensures (item_read ρ i c.index-rates-i-in-Artificial.result below c.index-rates-i-in-Artificial.is)
    ∙ signed_is (passed_side inst i) (at ρ i)
    ∙ artificial_entry inst ρ c.args.k c.requires.column i c.in-Artificial.ensures
