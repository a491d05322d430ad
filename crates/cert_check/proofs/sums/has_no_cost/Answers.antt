use Rattle.std.proofs.Common.{◌<◌, length, sym, ◌∙◌, ap, ap₂, arith}
use Rattle.std.specs.List.{list_all}
use Rattle.lp_model.specs.Deck.{column}
use Rattle.rational.specs.Sum.{at}
use Rattle.rational.specs.Worked.{is_skipped}
use Rattle.sparse_steps.proofs.Steps.{item_read}
use Rattle.cert_check.proofs.Adding.{all_so_far, all_terms, one_fails, skipped-ends, skipped-next}
use Rattle.cert_check.proofs.sums.has_no_cost.Goals as goal

pub loop-j-init : goal.loop-j-init
loop-j-init c =
    let d = c.args.deck.now in
    ap (list_all (λ term. is_skipped term.0 term.1)) (all_terms (λ j. ((column d j).cost, at c.args.x.now j)) (length d.columns))

pub returns-then-not-is_skipped : goal.returns-then-not-is_skipped
returns-then-not-is_skipped c =
    let d = c.args.deck.now in
    let x = c.args.x.now in
    let k = c.loop-j.j in
    let lt : k < length d.columns = omega (arith, c.columns-j-end.ensures.count) in
    let item = item_read x k c.index-x-j.result (omega (arith, c.requires)) c.index-x-j.is in
    one_fails c.is_skipped.result _ _ _ c.if-not-is_skipped.true
    (skipped-next (λ j. ((column d j).cost, at x j)) (length d.columns) k lt (λ term. is_skipped term.0 term.1) c.is_skipped.result
    (c.is_skipped.ensures ∙ ap₂ is_skipped c.cost.ensures item)) c.loop-j.invariant

pub loop-j-preserved : goal.loop-j-preserved
loop-j-preserved c =
    let d = c.args.deck.now in
    let x = c.args.x.now in
    let k = c.loop-j.j in
    let lt : k < length d.columns = omega (arith, c.columns-j-end.ensures.count) in
    let item = item_read x k c.index-x-j.result (omega (arith, c.requires)) c.index-x-j.is in
    all_so_far c.is_skipped.result _ _ _ c.if-not-is_skipped.false
    (skipped-next (λ j. ((column d j).cost, at x j)) (length d.columns) k lt (λ term. is_skipped term.0 term.1) c.is_skipped.result
    (c.is_skipped.ensures ∙ ap₂ is_skipped c.cost.ensures item)) c.loop-j.invariant

pub returns : goal.returns
returns c =
    let d = c.args.deck.now in
    sym (skipped-ends (λ j. ((column d j).cost, at c.args.x.now j)) (length d.columns) c.loop-j.j (λ term. is_skipped term.0 term.1)
    (omega (arith, c.columns-j-end.ensures.count))) ∙ c.loop-j.invariant
