-- Each step adds the next part.
use Rattle.std.proofs.Common.{◌<◌, ◌≤◌, [], length, map, ◌∙◌, arith}
use Rattle.rational.specs.Sparse.{upto}
use Rattle.rational.proofs.Loops.{all_worked, step_settles, step_stops}
use Rattle.sparse_steps.proofs.Steps.{refused}
use Rattle.cert_check.specs.Sums.{column_part, logical_part}
use Rattle.cert_check.proofs.Contributions.{parts-end, parts-next}
use Rattle.cert_check.proofs.parts.all_parts.Goals as goal

pub returns-in_err-sum-clause-settled : goal.returns-in_err-sum-clause-settled
returns-in_err-sum-clause-settled g c =
    let d = c.args.deck.now in
    let y = c.args.y.now in
    let lt : c.loop-j.j < length d.columns = omega (arith, c.columns-j-end.ensures.count) in
    refused _ _ _ (λ x. x)
    (step_stops _ _ c.loop-j.invariant.width _ _ _ (parts-next (column_part d y) (length d.columns) (map (logical_part d y) (upto (length d.rows))) c.loop-j.j lt c.loop-j.sum)
    _ c.loop-j.invariant.left c.in_err-sum.ensures.settled) c.from_residual.ensures.1

pub loop-j-preserved : goal.loop-j-preserved
loop-j-preserved g c =
    let d = c.args.deck.now in
    let y = c.args.y.now in
    let lt : c.loop-j.j < length d.columns = omega (arith, c.columns-j-end.ensures.count) in
    record {
      width = c.with_column.ensures.width ∙ c.loop-j.invariant.width;
      left = step_settles _ _ c.loop-j.invariant.width _ _ _ (parts-next (column_part d y) (length d.columns) (map (logical_part d y) (upto (length d.rows))) c.loop-j.j lt c.loop-j.sum)
          _ c.loop-j.invariant.left _ c.in_ok-sum.ensures.settled;
      unfit = c.in_ok-sum.ensures.unfit ∙ c.loop-j.invariant.unfit;
    }

pub returns-in_err-sum-2-clause-settled : goal.returns-in_err-sum-2-clause-settled
returns-in_err-sum-2-clause-settled g c =
    let d = c.args.deck.now in
    let y = c.args.y.now in
    let lt : c.loop-i.i < length d.rows = omega (arith, c.rows-i-end.ensures.count) in
    refused _ _ _ (λ x. x)
    (step_stops _ _ c.loop-i.invariant.width _ _ _ (parts-next (logical_part d y) (length d.rows) [] c.loop-i.i lt c.loop-i.sum)
    _ c.loop-i.invariant.left c.in_err-sum-2.ensures.settled) c.from_residual-in_err-sum-2.ensures.1

pub loop-i-preserved : goal.loop-i-preserved
loop-i-preserved g c =
    let d = c.args.deck.now in
    let y = c.args.y.now in
    let lt : c.loop-i.i < length d.rows = omega (arith, c.rows-i-end.ensures.count) in
    record {
      width = c.with_logical.ensures.width ∙ c.loop-i.invariant.width;
      left = step_settles _ _ c.loop-i.invariant.width _ _ _ (parts-next (logical_part d y) (length d.rows) [] c.loop-i.i lt c.loop-i.sum)
          _ c.loop-i.invariant.left _ c.in_ok-sum-2.ensures.settled;
      unfit = c.in_ok-sum-2.ensures.unfit ∙ c.loop-i.invariant.unfit;
    }

pub returns-clause-settled : goal.returns-clause-settled
returns-clause-settled g c =
    let d = c.args.deck.now in
    let le : length d.rows ≤ c.loop-i.i = omega (arith, c.rows-i-end.ensures.count) in
    all_worked _ _ _ _ (parts-end (logical_part d c.args.y.now) (length d.rows) [] c.loop-i.i le c.loop-i.sum) c.loop-i.invariant.left
