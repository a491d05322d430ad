-- The positions before the one that is looked at show no product.
use Rattle.std.proofs.Common.{◌≢◌, List, [], get_or, IsTrue, ◌∙◌, ap, ap₂, subst, arith}
use Rattle.rational.specs.Rational.{ℚ, zero_ℚ}
use Rattle.rational.specs.Sum.{at}
use Rattle.rational.specs.Worked.{is_skipped}
use Rattle.plain_table.proofs.Lines.{item_read}
use Rattle.plain_table.proofs.costs.is_priced.Goals as goal
use borrow.Author.Count.{below_more}

pub loop-p-preserved : goal.loop-p-preserved
loop-p-preserved c =
    let p = c.loop-p.p in
    let cost = item_read c.args.basic_costs.now p c.index-basic_costs-p.result zero_ℚ (omega (arith, c.requires.costs)) c.index-basic_costs-p.is in
    let cell = c.get.ensures ∙ ap (λ (row : List ℚ). at row c.args.j) (item_read c.args.rows.now p c.index-rows-p.result [] (omega arith) c.index-rows-p.is) in
    below_more (λ k. IsTrue (is_skipped (at c.args.basic_costs.now k) (at (get_or c.args.rows.now k []) c.args.j))) p c.loop-p.invariant
    (subst (λ t. IsTrue t) (ap₂ (λ a b. is_skipped a b) cost cell) (c.is_worked.ensures.none c.if-is_worked.false))

pub returns-then-is_worked-clause-some : goal.returns-then-is_worked-clause-some
returns-then-is_worked-clause-some c =
    let p = c.loop-p.p in
    let cost = item_read c.args.basic_costs.now p c.index-basic_costs-p.result zero_ℚ (omega (arith, c.requires.costs)) c.index-basic_costs-p.is in
    let cell = c.get.ensures ∙ ap (λ (row : List ℚ). at row c.args.j) (item_read c.args.rows.now p c.index-rows-p.result [] (omega arith) c.index-rows-p.is) in
    let found = c.is_worked.ensures.some c.if-is_worked.true in
    λ _. (p, omega arith, subst (λ a. a ≢ zero_ℚ) cost found.0, subst (λ a. a ≢ zero_ℚ) cell found.1)
