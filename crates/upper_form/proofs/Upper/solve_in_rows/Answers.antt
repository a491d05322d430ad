use Rattle.std.proofs.Common.{◌+◌, length, reverse, ap, ◌∙◌, arith}
use Rattle.factor_model.specs.Upper.{column, solve_one, solve_rows, solve_work}
use Rattle.std.proofs.lemmas.List.Sums.{sum_by-cons}
use Rattle.chain_links.specs.Lists.{rest}
use Rattle.rational.proofs.Loops.{step_settles, step_stops, all_worked}
use Rattle.sparse_steps.proofs.Steps.{refused}
use Rattle.upper_form.proofs.Walk.{nothing_left}
use Rattle.upper_form.proofs.Upper.solve_in_rows.Goals as goal

pub loop-next-preserved : goal.loop-next-preserved
loop-next-preserved g c =
    let u = c.args.self.now in
    let left = reverse u.order in
    let p = c.in-Some.p in
    let next = c.before-next.result in
    let parts = ap (λ o. solve_rows u c.loop-next.v (rest o left)) c.in-Some.is ∙ ap (solve_rows u c.loop-next.v) c.before-next.ensures.rest in
    record {
      position = c.before-next.ensures.position;
      width = c.solve_position.ensures.width ∙ c.loop-next.invariant.width;
      length = c.solve_position.auto.v ∙ c.loop-next.invariant.length;
      left = step_settles _ _ c.loop-next.invariant.width (solve_one u c.loop-next.v p)
          (λ r. solve_rows u r (rest next left)) _ parts _ c.loop-next.invariant.left _ c.in_ok-solve_position.ensures.settled;
      unfit = c.in_ok-solve_position.ensures.unfit ∙ c.loop-next.invariant.unfit;
      work =
          omega (
            arith,
            ap (λ o. solve_work u (rest o left)) c.in-Some.is,
            ap (solve_work u) c.before-next.ensures.rest,
            sum_by-cons (λ q. 1 + length (column u q)) p (rest next left),
          );
    }

pub returns-in_err-solve_position-clause-settled : goal.returns-in_err-solve_position-clause-settled
returns-in_err-solve_position-clause-settled g c =
    let u = c.args.self.now in
    let left = reverse u.order in
    let p = c.in-Some.p in
    let next = c.before-next.result in
    let parts = ap (λ o. solve_rows u c.loop-next.v (rest o left)) c.in-Some.is ∙ ap (solve_rows u c.loop-next.v) c.before-next.ensures.rest in
    refused _ _ _ (λ _. c.solve_position.new.v) (step_stops _ _ c.loop-next.invariant.width (solve_one u c.loop-next.v p)
    (λ r. solve_rows u r (rest next left)) _ parts _ c.loop-next.invariant.left c.in_err-solve_position.ensures.settled) c.from_residual.ensures.1

pub returns-clause-settled : goal.returns-clause-settled
returns-clause-settled g c =
    let u = c.args.self.now in
    all_worked _ _ _ _ (ap (solve_rows u c.loop-next.v) (nothing_left c.loop-next.next (reverse u.order) c.in_default.not-Some)) c.loop-next.invariant.left
