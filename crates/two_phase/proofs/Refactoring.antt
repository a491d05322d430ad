-- Iterates whose factors are made anew of their basis, and the reduced costs of a state.
use Rattle.std.proofs.Common.{◌≡◌, ℕ, ◌<◌, List, Some, true, refl, sym, ◌∙◌, subst, arith}
use Rattle.lp_model.specs.declared.Entry.{Entry}
use Rattle.lp_model.specs.declared.Phase.{Phase}
use Rattle.lp_model.specs.declared.Status.TheVariants as status
use Rattle.rational.specs.Rational.{ℚ, zero_ℚ}
use Rattle.rational.specs.Worked.{settle}
use Rattle.rational.proofs.Settling.{settle-answer}
use Rattle.lp_run.specs.Instance.{Instance, column_count, row_count}
use Rattle.lp_run.specs.Run.{IsRun}
use Rattle.lp_run.specs.Solution.{Prices, Values, basis_entry, reduced}
use Rattle.lp_run.specs.State.{State, status_of}
use Rattle.lp_run.proofs.Runs.{reached_has_table, reached_regular}
use Rattle.lp_run.proofs.Unique.{basic_reduced}
use Rattle.bland_laws.proofs.Always.{instance_holds}
use Rattle.bland_ratio.specs.Pricing.{priced}
use Rattle.bland_ratio.proofs.Priced.{priced-answer}
use Rattle.factor_model.specs.Factors.{AreFactors}
use Rattle.basis_solves.specs.Bases.{FactorsFrom, IsBasis}
use Rattle.two_phase.specs.declared.iterate.Iterate.{Iterate}
use Rattle.two_phase.specs.Inner.Fallbacks.{IsReached}
use Rattle.two_phase.specs.Inner.Iterates.{IsIterate, IsSized}
use Rattle.two_phase.proofs.Counting.{made_counts}

-- the positions of a state of the run have the columns of a regular basis
pub reached_basis : (inst : Instance) (log : List Entry) (s : State) (basis : List ℕ) → IsRun inst log s → basis ≡ s.basis → IsBasis inst s basis
reached_basis inst log s basis run is =
    let has = reached_has_table inst log s run in
    subst (IsBasis inst s) (sym is) (record { is = refl; positions = has.positions; within = has.within; regular = reached_regular inst log s run })

-- an iterate at the same state, with factors that are made for it
pub made_iterate : (w : ℕ) (inst : Instance) (log : List Entry) (it it' : Iterate) (number : ℕ) → IsIterate w inst log it → it'.state ≡ it.state → FactorsFrom w inst it.state number it'.factors
    → it'.values.items ≡ it.values.items → (it'.is_priced ≡ true → Prices inst it.state it'.prices.items) → IsSized (row_count inst) it' → IsIterate w inst log it'
made_iterate w inst log it it' number h state factors values prices sized = record {
  reached = subst (IsRun inst log) (sym state) h.reached;
  factors = subst (λ s. AreFactors (row_count inst) it'.factors (basis_entry inst s)) (sym state) factors.factors;
  few = omega (arith, (made_counts w inst it.state number it'.factors factors.made).1);
  values = subst (λ s. Values inst s it'.values.items) (sym state) (subst (Values inst it.state) (sym values) h.values);
  prices = λ is. subst (λ s. Prices inst s it'.prices.items) (sym state) (prices is);
  sized = sized;
}

-- ── the reduced costs of a state of the run ──

module _ (inst : Instance) (s : State) (h : IsReached inst s) (y : List ℚ) (prices : Prices inst s y) (j : ℕ) (within : j < column_count inst) where
  -- that of a basic column
  pub basic_cost : status_of s j ≡ status.Basic → zero_ℚ ≡ reduced inst s y j
  basic_cost basic =
      let (p, below, there) = (instance_holds inst h.0 h.1.0 s h.1.1).found j within basic in
      sym (subst (λ j. reduced inst s y j ≡ zero_ℚ) there (basic_reduced inst s y prices p below))

  -- one that is worked
  pub worked_cost : (w : ℕ) (phase : Phase) (d : ℚ) → phase ≡ s.phase → settle w (priced inst phase y j) ≡ Some d → d ≡ reduced inst s y j
  worked_cost w phase d same settled =
      sym (settle-answer w (priced inst s.phase y j) d (subst (λ phase. settle w (priced inst phase y j) ≡ Some d) same settled)) ∙ priced-answer inst h.0 s y j within
