-- Each step works the product of the next structural.
use Rattle.std.proofs.Common.{◌≡◌, ◌+◌, ◌-◌, ◌<◌, refl, ◌∙◌, ap, arith}
use Rattle.lp_model.specs.Deck.{Interval}
use Rattle.rational.specs.Sparse.{entry_at}
use Rattle.rational.specs.Rational.{ℚ, one_unless_zero}
use Rattle.rational.specs.Worked.{settle}
use Rattle.rational.proofs.Loops.{all_worked, step_settles, step_stops}
use Rattle.lp_run.specs.Instance.{start_value, structural, structural_count}
use Rattle.sparse_cols.specs.Sparse.{Sparse}
use Rattle.sparse_steps.proofs.Steps.{refused}
use Rattle.plain_table.specs.Inner.Costs.{factors_from, priced}
use Rattle.plain_table.proofs.Pricing.{priced_end, priced_start, priced_step}
use Rattle.plain_table.proofs.Residuals.{structural_bounds}
use Rattle.plain_table.proofs.StartWork.{row-more, row-within, row_taken}
use Rattle.plain_table.proofs.residual.residual.Goals as goal

pub loop-j-init : goal.loop-j-init
loop-j-init g c =
    let inst = c.args.inst.now in
    record {
      width = refl;
      unfit = refl;
      work = omega arith;
      left = ap (settle (g.A.Arith.width c.args.arith.now))
          (ap (λ r. priced r (factors_from (λ j. entry_at (structural inst j).entries c.args.row) (λ j. start_value (structural inst j).bounds) 0 (structural_count inst - 0))) c.right-rest.ensures
          ∙ priced_start (λ j. entry_at (structural inst j).entries c.args.row) (λ j. start_value (structural inst j).bounds) (structural_count inst) _);
    }

pub returns-in_err-rest-clause-settled : goal.returns-in_err-rest-clause-settled
returns-in_err-rest-clause-settled g c =
    let inst = c.args.inst.now in
    let j = c.loop-j.j in
    let within : j < structural_count inst = omega (arith, c.structurals-j-end.ensures.count) in
    let value = c.start_value-value.ensures ∙ ap (λ (i : Interval). start_value i) (c.bounds.ensures ∙ structural_bounds inst j within) in
    refused _ _ _ (λ x. x)
    (step_stops _ _ c.loop-j.invariant.width _ _ _ (priced_step (λ j. entry_at (structural inst j).entries c.args.row)
    (λ j. start_value (structural inst j).bounds) j (structural_count inst) c.loop-j.rest _ _ within (c.entry.ensures ∙ ap (λ (s : Sparse ℚ). entry_at s.pairs c.args.row) c.entries.ensures) value)
    _ c.loop-j.invariant.left c.in_err-rest.ensures.settled)
    c.from_residual.ensures.1

pub loop-j-preserved : goal.loop-j-preserved
loop-j-preserved g c =
    let inst = c.args.inst.now in
    let j = c.loop-j.j in
    let within : j < structural_count inst = omega (arith, c.structurals-j-end.ensures.count) in
    let value = c.start_value-value.ensures ∙ ap (λ (i : Interval). start_value i) (c.bounds.ensures ∙ structural_bounds inst j within) in
    let entry = c.entry.ensures ∙ ap (λ (s : Sparse ℚ). entry_at s.pairs c.args.row) c.entries.ensures in
    let more : row_taken inst c.args.row (j + 1) ≡ row_taken inst c.args.row j + one_unless_zero c.entry.result = row-more inst c.args.row j c.entry.result within entry in
    record {
      width = c.less_product.ensures.width ∙ c.loop-j.invariant.width;
      unfit = c.in_ok-rest.ensures.unfit ∙ c.loop-j.invariant.unfit;
      work = omega (arith, more, c.loop-j.invariant.work, c.in_ok-rest.ensures.work);
      left = step_settles _ _ c.loop-j.invariant.width _ _ _ (priced_step (λ j. entry_at (structural inst j).entries c.args.row)
          (λ j. start_value (structural inst j).bounds) j (structural_count inst) c.loop-j.rest _ _ within (c.entry.ensures ∙ ap (λ (s : Sparse ℚ). entry_at s.pairs c.args.row) c.entries.ensures) value)
          _ c.loop-j.invariant.left _ c.in_ok-rest.ensures.settled;
    }

pub returns-clause-settled : goal.returns-clause-settled
returns-clause-settled g c =
    let inst = c.args.inst.now in
    all_worked _ _ _ _ (priced_end (λ j. entry_at (structural inst j).entries c.args.row) (λ j. start_value (structural inst j).bounds) c.loop-j.j
    (structural_count inst) c.loop-j.rest (omega (arith, c.structurals-j-end.ensures.count))) c.loop-j.invariant.left

pub returns-in_err-rest-clause-work : goal.returns-in_err-rest-clause-work
returns-in_err-rest-clause-work g c =
    let inst = c.args.inst.now in
    let j = c.loop-j.j in
    let within : j < structural_count inst = omega (arith, c.structurals-j-end.ensures.count) in
    let entry = c.entry.ensures ∙ ap (λ (s : Sparse ℚ). entry_at s.pairs c.args.row) c.entries.ensures in
    let more : row_taken inst c.args.row (j + 1) ≡ row_taken inst c.args.row j + one_unless_zero c.entry.result = row-more inst c.args.row j c.entry.result within entry in
    omega (arith, more, row-within inst c.args.row (j + 1), c.loop-j.invariant.work, c.in_err-rest.ensures.work)

pub returns-clause-work : goal.returns-clause-work
returns-clause-work g c = omega (arith, row-within c.args.inst.now c.args.row c.loop-j.j, c.loop-j.invariant.work)
