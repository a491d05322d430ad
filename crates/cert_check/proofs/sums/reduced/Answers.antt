use Rattle.std.proofs.Common.{length, sym, ◌∙◌, ap, ap₂, subst}
use Rattle.lp_model.specs.Deck.{column}
use Rattle.rational.specs.Lines.{gather}
use Rattle.rational.specs.Rational.{ℚ}
use Rattle.rational.specs.Worked.{work}
use Rattle.exact_frac.proofs.Working.{settles-exact}
use Rattle.sparse_cols.specs.Sparse.{IsRising, Sparse}
use Rattle.cert_check.specs.Sums.{entry_terms}
use Rattle.cert_check.proofs.Adding.{rises, starts-alone, starts-sum}
use Rattle.cert_check.proofs.Values.{settles-like}
use Rattle.cert_check.proofs.sums.reduced.Goals as goal

pub returns-then-is_unpriced-clause-settled : goal.returns-then-is_unpriced-clause-settled
returns-then-is_unpriced-clause-settled g c =
    let d = c.args.deck.now in
    let own = column d c.args.column in
    let y = c.args.y.now in
    settles-like _ (work c.cost-cost.result) _ c.fit.result
    (ap work c.cost-cost.ensures
    ∙ starts-alone own.cost (entry_terms y own.entries) (gather (length d.rows) y own.cost own.entries) c.is_unpriced.result c.is_unpriced.ensures c.if-is_unpriced.true)
    (settles-exact _ c.cost-cost.result c.fit.result c.fit.ensures.answer)

pub gather-requires-after_bounds : goal.gather-requires-after_bounds
gather-requires-after_bounds g c = λ κs within.
    let d = c.args.deck.now in
    let sparse = c.rows.ensures.deck.sparse c.args.column c.requires.column in
    let rising = rises (length d.rows) 0 (column d c.args.column).entries sparse in
    subst (λ m. IsRising m 0 c.column.result.now.pairs) (sym c.requires.rows)
    (subst (λ ps. IsRising (length d.rows) 0 ps) (sym (ap (λ (s : Sparse ℚ). s.pairs) c.column.ensures)) rising)

pub returns-clause-settled : goal.returns-clause-settled
returns-clause-settled g c =
    let d = c.args.deck.now in
    let own = column d c.args.column in
    let y = c.args.y.now in
    settles-like _ _ _ c.gather.result
    (ap₂ (λ m (r : ℚ). gather m y r c.column.result.now.pairs) c.rows.ensures.count c.cost-cost.ensures
    ∙ ap (λ (s : Sparse ℚ). gather (length d.rows) y own.cost s.pairs) c.column.ensures
    ∙ starts-sum own.cost (entry_terms y own.entries) (gather (length d.rows) y own.cost own.entries) c.is_unpriced.result c.is_unpriced.ensures c.if-is_unpriced.false)
    c.gather.ensures.settled
