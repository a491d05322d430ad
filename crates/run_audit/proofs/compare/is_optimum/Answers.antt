-- One optimum is the state's, and its sums are worked where point and prices are the outcome's.
use Rattle.std.proofs.Common.{◌≡◌, true, Some, refl, sym, ◌∙◌, subst}
use Rattle.rational.specs.Rational.{eq_ℚ}
use Rattle.rational.proofs.OrderLaws.{eq_ℚ-decides}
use Rattle.lp_run.specs.Listing.{AllFit, first_unfit, total_listing}
use Rattle.deck_model.specs.Outcome.{outcome_of}
use Rattle.plain_table.proofs.Coming.{handed_on}
use Rattle.run_outcome.proofs.Closings.{point_length}
use Rattle.run_audit.specs.Inner.Parts.{TotalOverflows}
use Rattle.run_audit.proofs.Ending.{nothing_told, optimum_exactly, optimum_totals, other_refuted, other_than_optimum, other_totals, total_unfit}
use Rattle.run_audit.proofs.compare.is_optimum.Goals as goal

pub returns-in_default : goal.returns-in_default
returns-in_default g c =
    let inst = c.args.inst.now in
    let t = c.args.table.now in
    record {
      outcome = other_than_optimum inst c.requires.table.0 t c.requires.table.1 c.requires.ends c.args.outcome.now c.in_default.not-Optimal;
      totals = nothing_told inst c.requires.table.0 t c.requires.table.1 c.requires.ends t.number (g.A.Arith.width c.args.arith.now) c.args.outcome.now c.in_default.not-Optimal;
      fault = tt;
      width = refl;
      unfit = refl;
    }

pub returns-then-not-branch-clause-outcome : goal.returns-then-not-branch-clause-outcome
returns-then-not-branch-clause-outcome g c =
    other_refuted c.args.inst.now c.requires.table.0 c.args.table.now c.requires.table.1 c.requires.ends c.args.outcome.now c.in-Optimal.x c.in-Optimal.y c.as_slice.result.now c.as_slice-2.result.now
    c.in-Optimal.stated c.in-Optimal.is c.as_slice.ensures c.as_slice-2.ensures c.in_ok-has_optimum.field-0 c.in_ok-has_optimum.ensures c.if-not-branch.true

pub returns-then-not-branch-clause-totals : goal.returns-then-not-branch-clause-totals
returns-then-not-branch-clause-totals g c =
    other_totals c.args.inst.now c.requires.table.0 c.args.table.now c.requires.table.1 c.requires.ends c.args.outcome.now c.in-Optimal.x c.in-Optimal.y c.as_slice.result.now c.as_slice-2.result.now
    c.in-Optimal.stated c.in-Optimal.is c.as_slice.ensures c.as_slice-2.ensures c.in_ok-has_optimum.field-0 c.in_ok-has_optimum.ensures c.args.table.now.number (g.A.Arith.width c.args.arith.now)
    c.if-not-branch.true

pub objective-requires-after_bounds : goal.objective-requires-after_bounds
objective-requires-after_bounds g c = λ κs bounds.
    let t = c.args.table.now in
    point_length c.args.inst.now t.state t.values c.as_slice-3.result.now (c.as_slice-3.ensures ∙ sym c.as_slice.ensures ∙ (c.in_ok-has_optimum.ensures.0 c.if-not-branch.false).0)

pub returns-in_err-value-clause-fault : goal.returns-in_err-value-clause-fault
returns-in_err-value-clause-fault g c =
    let inst = c.args.inst.now in
    let t = c.args.table.now in
    let w = g.A.Arith.width c.args.arith.now in
    handed_on _ (TotalOverflows w inst t.number t.state (outcome_of c.args.outcome.now)) c.from_residual-in_err-value.ensures.1
    (total_unfit inst c.requires.table.0 t c.requires.table.1 c.requires.ends c.args.outcome.now c.in-Optimal.x c.in-Optimal.y c.as_slice.result.now c.as_slice-2.result.now c.in-Optimal.stated
    c.in-Optimal.is c.as_slice.ensures c.as_slice-2.ensures c.in_ok-has_optimum.field-0 c.in_ok-has_optimum.ensures t.number w c.as_slice-3.result.now c.in_err-value.field-0.0
    c.as_slice-3.ensures c.if-not-branch.false (subst (λ n. first_unfit w (total_listing inst n c.as_slice-3.result.now) ≡ Some c.in_err-value.field-0.0) c.number.ensures c.in_err-value.ensures.listed))

pub returns-clause-outcome : goal.returns-clause-outcome
unfolding eq_ℚ
returns-clause-outcome g c =
    optimum_exactly c.args.inst.now c.requires.table.0 c.args.table.now c.requires.table.1 c.requires.ends c.args.outcome.now c.in-Optimal.x c.in-Optimal.y c.as_slice.result.now
    c.as_slice-2.result.now c.in-Optimal.stated c.in-Optimal.is c.as_slice.ensures c.as_slice-2.ensures c.in_ok-has_optimum.field-0 c.in_ok-has_optimum.ensures c.as_slice-3.result.now
    c.in_ok-value.value c.as_slice-3.ensures c.if-not-branch.false c.in_ok-value.ensures.value c.eq.result
    (subst (λ r. (r ≡ true → c.in_ok-value.value ≡ c.in-Optimal.stated) × (c.in_ok-value.value ≡ c.in-Optimal.stated → r ≡ true)) (sym c.eq.ensures) (eq_ℚ-decides c.in_ok-value.value c.in-Optimal.stated))

pub returns-clause-totals : goal.returns-clause-totals
returns-clause-totals g c =
    let inst = c.args.inst.now in
    let t = c.args.table.now in
    optimum_totals inst c.requires.table.0 t c.requires.table.1 c.requires.ends c.args.outcome.now c.in-Optimal.x c.in-Optimal.y c.as_slice.result.now
    c.as_slice-2.result.now c.in-Optimal.stated c.in-Optimal.is c.as_slice.ensures c.as_slice-2.ensures c.in_ok-has_optimum.field-0 c.in_ok-has_optimum.ensures t.number
    (g.A.Arith.width c.args.arith.now) c.as_slice-3.result.now c.as_slice-3.ensures c.if-not-branch.false
    (subst (λ n. AllFit (g.A.Arith.width c.args.arith.now) (total_listing inst n c.as_slice-3.result.now)) c.number.ensures c.in_ok-value.ensures.listed)
