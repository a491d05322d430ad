-- An iterate at the start, and the column that a choice names.
use Rattle.std.proofs.Common.{◌≡◌, ℕ, ◌<◌, List, [], Option, true, false, MatchOption, length, refl, sym, ◌∙◌, ap, subst, arith}
use Rattle.lp_model.specs.declared.Entry.{Entry}
use Rattle.rational.specs.Rational.{ℚ}
use Rattle.rational.specs.Sum.{at}
use Rattle.rational.proofs.VectorLaws.{list_of}
use Rattle.lp_run.specs.Instance.{Instance, IsWellFormed, row_count}
use Rattle.lp_run.specs.Run.{IsRun}
use Rattle.lp_run.specs.Solution.{Values, basis_entry}
use Rattle.lp_run.specs.State.{start_of}
use Rattle.lp_run.specs.Step.{Enters, NoneEligible}
use Rattle.lp_run.proofs.Kept.{regular_from_table}
use Rattle.lp_run.proofs.Regularity.{one_prices}
use Rattle.lp_run.proofs.Runs.{reached_regular}
use Rattle.lp_run.proofs.Start.{start_has_table}
use Rattle.factor_model.specs.Factors.{AreFactors}
use Rattle.plain_table.specs.Inner.Starts.{basic_start}
use Rattle.plain_table.proofs.StartSolves.{values_solve}
use Rattle.two_phase.proofs.Counting.{made_counts}
use Rattle.two_phase.specs.declared.iterate.Iterate.{Iterate}
use Rattle.basis_solves.specs.Bases.{FactorsFrom, IsBasis}
use Rattle.two_phase.specs.Inner.Iterates.{IsIterate, IsSized}
use Rattle.two_phase.specs.Inner.Reaching.{IsChosen}

pub start_values_are : (inst : Instance) → IsWellFormed inst → (out : List ℚ) → length out ≡ row_count inst → ((p : ℕ) → p < row_count inst → at out p ≡ basic_start inst p) → Values inst (start_of inst) out
start_values_are inst well_formed out each values = subst (Values inst (start_of inst)) (sym (list_of (basic_start inst) (row_count inst) out each values)) (values_solve inst well_formed)

pub start_basis : (inst : Instance) (basis : List ℕ) → basis ≡ (start_of inst).basis → IsBasis inst (start_of inst) basis
start_basis inst basis is =
    let has = start_has_table inst in
    record { is = sym is; positions = ap (λ xs. length xs) is ∙ has.positions; within = has.within; regular = regular_from_table inst (start_of inst) has }

pub started_iterate : (w : ℕ) (inst : Instance) (it : Iterate) → it.state ≡ start_of inst → FactorsFrom w inst (start_of inst) 0 it.factors → Values inst (start_of inst) it.values.items → it.is_priced ≡ false
    → IsSized (row_count inst) it → IsIterate w inst [] it
started_iterate w inst it is factors values unpriced sized = record {
  reached = subst (IsRun inst []) (sym is) refl;
  factors = subst (λ s. AreFactors (row_count inst) it.factors (basis_entry inst s)) (sym is) factors.factors;
  few = omega (arith, (made_counts w inst (start_of inst) 0 it.factors factors.made).1);
  values = subst (λ s. Values inst s it.values.items) (sym is) values;
  prices = λ is. absurd (apart (sym is ∙ unpriced));
  sized = sized;
}
  where
    apart : true ≡ false → ⊥
    apart e = cc e

pub chosen_there : (w : ℕ) (inst : Instance) (log : List Entry) (it : Iterate) → IsIterate w inst log it → it.is_priced ≡ true → (entering : Option ℕ) → IsChosen inst it.state entering
    → MatchOption entering (NoneEligible inst it.state it.prices.items) (Enters inst it.state it.prices.items)
chosen_there w inst log it h priced entering (y, prices, chosen) =
    subst (λ y. MatchOption entering (NoneEligible inst it.state y) (Enters inst it.state y))
    (one_prices inst it.state (reached_regular inst log it.state h.reached) y it.prices.items prices (h.prices priced)) chosen
