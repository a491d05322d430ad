use Rattle.std.proofs.Common.{◌≡◌, length, sym, ◌∙◌, ap, arith}
use Rattle.std.specs.List.{list_all}
use Rattle.rational.specs.Rational.{ℚ}
use Rattle.rational.specs.Worked.{is_skipped}
use Rattle.sparse_cols.specs.Sparse.{Sparse}
use Rattle.sparse_steps.proofs.Steps.{item_read}
use Rattle.cert_check.specs.Sums.{entry_terms}
use Rattle.cert_check.proofs.Adding.{all_so_far, one_fails, unpriced-ends, unpriced-next}
use Rattle.cert_check.proofs.sums.is_unpriced.Goals as goal

pub loop-k-init : goal.loop-k-init
loop-k-init c = ap (λ (s : Sparse ℚ). list_all (λ term. is_skipped term.0 term.1) (entry_terms c.args.y.now s.pairs)) c.column-entries.ensures

pub returns-then-not-is_skipped : goal.returns-then-not-is_skipped
returns-then-not-is_skipped c =
    let pairs = c.column-entries.result.now.pairs in
    let p = c.pair-i.result in
    let long : c.column-entries.result.now.length ≡ length c.args.deck.now.rows = ap (λ (s : Sparse ℚ). s.length) c.column-entries.ensures in
    let item = item_read c.args.y.now p.0 c.index-y-i.result (omega (arith, long, c.pair-i.ensures.row, c.requires.rows)) c.index-y-i.is in
    one_fails c.is_skipped.result _ _ _ c.if-not-is_skipped.true
    (unpriced-next c.args.y.now pairs c.loop-k.k p (omega arith) c.pair-i.ensures.value (λ term. is_skipped term.0 term.1) c.is_skipped.result (c.is_skipped.ensures ∙ ap (is_skipped p.1) item))
    c.loop-k.invariant

pub loop-k-preserved : goal.loop-k-preserved
loop-k-preserved c =
    let pairs = c.column-entries.result.now.pairs in
    let p = c.pair-i.result in
    let long : c.column-entries.result.now.length ≡ length c.args.deck.now.rows = ap (λ (s : Sparse ℚ). s.length) c.column-entries.ensures in
    let item = item_read c.args.y.now p.0 c.index-y-i.result (omega (arith, long, c.pair-i.ensures.row, c.requires.rows)) c.index-y-i.is in
    all_so_far c.is_skipped.result _ _ _ c.if-not-is_skipped.false
    (unpriced-next c.args.y.now pairs c.loop-k.k p (omega arith) c.pair-i.ensures.value (λ term. is_skipped term.0 term.1) c.is_skipped.result (c.is_skipped.ensures ∙ ap (is_skipped p.1) item))
    c.loop-k.invariant

pub returns : goal.returns
returns c = sym (unpriced-ends c.args.y.now c.column-entries.result.now.pairs c.loop-k.k (λ term. is_skipped term.0 term.1) (omega arith)) ∙ c.loop-k.invariant
