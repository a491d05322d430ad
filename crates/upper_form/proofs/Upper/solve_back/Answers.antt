use Rattle.std.proofs.Common.{◌≡◌, ◌+◌, length, set, replicate, refl, ap, ◌∙◌, subst, arith}
use Rattle.factor_model.specs.Upper.{Triangle, IsUpper, row_of, column, back_item, solve_positions, solve_work}
use Rattle.rational.specs.Rational.{ℚ, zero_ℚ}
use Rattle.rational.specs.Worked.{settle}
use Rattle.std.proofs.lemmas.List.{length-set, length-replicate}
use Rattle.std.proofs.lemmas.List.Sums.{sum_by-cons}
use Rattle.chain_links.specs.Lists.{rest}
use Rattle.rational.proofs.Loops.{step_settles, step_stops, all_worked}
use Rattle.factor_model.proofs.UpperLaws.{solve_back_solves}
use Rattle.sparse_steps.proofs.Steps.{refused}
use Rattle.upper_form.proofs.Walk.{nothing_left}
use Rattle.upper_form.proofs.Upper.solve_back.Goals as goal

pub loop-next-init : goal.loop-next-init
loop-next-init g c =
    let u = c.args.self.now in
    let n = length u.rows in
    let zeros : c.clear.new.out ≡ replicate n zero_ℚ = c.clear.ensures ∙ ap (λ m. replicate m zero_ℚ) c.requires.length in
    record {
      position = c.first-next.ensures.position;
      width = refl;
      length = ap length c.clear.ensures ∙ length-replicate (length c.args.out.now) zero_ℚ;
      left = ap (λ z. settle (g.A.Arith.width c.args.arith.now) (solve_positions u c.args.c.now z (rest c.first-next.result u.order))) zeros
          ∙ ap (λ ps. settle (g.A.Arith.width c.args.arith.now) (solve_positions u c.args.c.now (replicate n zero_ℚ) ps)) c.first-next.ensures.rest;
      unfit = refl;
      work = omega (arith, ap (solve_work u) c.first-next.ensures.rest);
    }

pub loop-next-preserved : goal.loop-next-preserved
loop-next-preserved g c =
    let u = c.args.self.now in
    let p = c.in-Some.p in
    let next = c.after-next.result in
    let walk = solve_positions u c.args.c.now c.loop-next.out in
    let parts = ap (λ o. walk (rest o u.order)) c.in-Some.is ∙ ap walk c.after-next.ensures.rest in
    let go = λ (item : ℚ). solve_positions u c.args.c.now (set c.loop-next.out (row_of u p) item) (rest next u.order) in
    record {
      position = c.after-next.ensures.position;
      width = c.back_item.ensures.width ∙ c.loop-next.invariant.width;
      length = length-set c.loop-next.out c.row_of.result c.in_ok-item.item ∙ c.loop-next.invariant.length;
      left =
          ap (λ r. settle (g.A.Arith.width c.args.arith.now) (solve_positions u c.args.c.now (set c.loop-next.out r c.in_ok-item.item) (rest next u.order))) c.row_of.ensures.value
          ∙ step_settles _ _ c.loop-next.invariant.width (back_item u c.args.c.now c.loop-next.out p) go _ parts _ c.loop-next.invariant.left _ c.in_ok-item.ensures.settled;
      unfit = c.in_ok-item.ensures.unfit ∙ c.loop-next.invariant.unfit;
      work =
          omega (
            arith,
            ap (λ o. solve_work u (rest o u.order)) c.in-Some.is,
            ap (solve_work u) c.after-next.ensures.rest,
            sum_by-cons (λ q. 1 + length (column u q)) p (rest next u.order),
          );
    }

pub returns-in_err-item-clause-settled : goal.returns-in_err-item-clause-settled
returns-in_err-item-clause-settled g c =
    let u = c.args.self.now in
    let p = c.in-Some.p in
    let next = c.after-next.result in
    let walk = solve_positions u c.args.c.now c.loop-next.out in
    let parts = ap (λ o. walk (rest o u.order)) c.in-Some.is ∙ ap walk c.after-next.ensures.rest in
    let go = λ (item : ℚ). solve_positions u c.args.c.now (set c.loop-next.out (row_of u p) item) (rest next u.order) in
    refused _ _ _ (λ _. c.loop-next.out) (step_stops _ _ c.loop-next.invariant.width
    (back_item u c.args.c.now c.loop-next.out p) go _ parts _ c.loop-next.invariant.left c.in_err-item.ensures.settled) c.from_residual.ensures.1

pub returns-clause-settled : goal.returns-clause-settled
returns-clause-settled g c =
    let u = c.args.self.now in
    all_worked _ _ _ _ (ap (solve_positions u c.args.c.now c.loop-next.out) (nothing_left c.loop-next.next u.order c.in_default.not-Some)) c.loop-next.invariant.left

pub returns-clause-solves : goal.returns-clause-solves
returns-clause-solves g c =
    let u = c.args.self.now in
    let upper = subst (λ (t : Triangle). IsUpper (length t.rows) t) c.self.view_is c.self.invariant in
    solve_back_solves (g.A.Arith.width c.args.arith.now) u upper c.args.c.now c.loop-next.out
    (all_worked _ _ _ _ (ap (solve_positions u c.args.c.now c.loop-next.out) (nothing_left c.loop-next.next u.order c.in_default.not-Some)) c.loop-next.invariant.left)
