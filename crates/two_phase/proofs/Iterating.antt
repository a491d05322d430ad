-- What an iterate keeps, and why it cannot go on.
use Rattle.std.proofs.Common.{◌≡◌, ℕ, ◌≤◌, inl, inr, List, length, true, None, sym, subst}
use Rattle.lp_model.specs.declared.Entry.{Entry}
use Rattle.rational.specs.Rational.{ℚ}
use Rattle.rational.specs.Worked.{settle}
use Rattle.lp_run.specs.Instance.{Instance, row_count}
use Rattle.lp_run.specs.Run.{Leads}
use Rattle.lp_run.specs.Solution.{ColumnOf, Prices, Values, basis_entry, reduced}
use Rattle.lp_run.specs.State.{State, start_of}
use Rattle.lp_run.specs.Step.{Enters, direction}
use Rattle.lp_run.proofs.Regularity.{table_solves}
use Rattle.lp_run.proofs.Runs.{reached_has_table}
use Rattle.bland_ratio.specs.Leave.{IsBasisOf, ratio_place}
use Rattle.factor_model.specs.Factors.{AreFactors, Factors, ftran, most_updates}
use Rattle.factor_model.specs.Upper.{Solves, Triangle}
use Rattle.factor_run.specs.Built.{entering_column}
use Rattle.factor_run.specs.Causes.{Cause, column, cost}
use Rattle.factor_run.proofs.Causing.{ratio_cause}
use Rattle.plain_table.proofs.Coming.{limited}
use Rattle.two_phase.specs.declared.decision.Decision.{Decision}
use Rattle.two_phase.specs.declared.iterate.Iterate.{Iterate}
use Rattle.two_phase.specs.Inner.Decisions.{IsDecided, IsUndecided}
use Rattle.two_phase.specs.Inner.Iterates.{IsIterate, IsIterateOf, IsKept, IsSized}

-- the positions of an iterate have columns of the instance
pub iterate_basis : (w : ℕ) (inst : Instance) (it : Iterate) → IsIterateOf w inst it → IsBasisOf inst it.state
iterate_basis w inst it (log, h) = let has = reached_has_table inst log it.state h.reached in record { positions = has.positions; in_range = has.within }

-- another iterate with the same parts, at least where the prices count
pub same_iterate : (w : ℕ) (inst : Instance) (log : List Entry) (it it' : Iterate) → IsKept it it' → (it'.is_priced ≡ true → Prices inst it.state it'.prices.items) → IsSized (row_count inst) it'
    → IsIterate w inst log it → IsIterate w inst log it'
same_iterate w inst log it it' kept prices sized h = record {
  reached = subst (λ s. Leads inst (start_of inst) log s) (sym kept.state) h.reached;
  factors = subst (λ s. AreFactors (row_count inst) it'.factors (basis_entry inst s)) (sym kept.state)
      (subst (λ f. AreFactors (row_count inst) f (basis_entry inst it.state)) (sym kept.factors) h.factors);
  few = subst (λ (f : Factors). f.updates ≤ most_updates) (sym kept.factors) h.few;
  values = subst (λ s. Values inst s it'.values.items) (sym kept.state) (subst (Values inst it.state) (sym kept.values) h.values);
  prices = λ is. subst (λ s. Prices inst s it'.prices.items) (sym kept.state) (prices is);
  sized = sized;
}

-- ── a decision on the lists that are handed over ──

module _ (inst : Instance) (s : State) (q : ℕ) (β β' y y' α α' : List ℚ) (values : β' ≡ β) (prices : y' ≡ y) (solved : α' ≡ α) where
  pub decided_there : (d : Decision) → IsDecided inst s β' y' α' q d → IsDecided inst s β y α q d
  decided_there d h = subst (λ β. IsDecided inst s β y α q d) values (subst (λ y. IsDecided inst s β' y α q d) prices (subst (λ α. IsDecided inst s β' y' α q d) solved h))

  pub undecided_there : (w w' : ℕ) → w' ≡ w → IsUndecided w' inst s β' y' α' q → IsUndecided w inst s β y α q
  undecided_there w w' same h =
      subst (λ w. IsUndecided w inst s β y α q) same
      (subst (λ β. IsUndecided w' inst s β y α q) values (subst (λ y. IsUndecided w' inst s β' y α q) prices (subst (λ α. IsUndecided w' inst s β' y' α q) solved h)))

pub form_there : (u : Triangle) (x x' v v' : List ℚ) → x' ≡ x → v' ≡ v → Solves u x v → Solves u x' v'
form_there u x x' v v' e f h = subst (λ x. Solves u x v') (sym e) (subst (Solves u x) (sym f) h)

-- ── causes ──

module _ (w : ℕ) (inst : Instance) (log : List Entry) (it : Iterate) (h : IsIterate w inst log it) (priced : it.is_priced ≡ true) (q : ℕ) (enters : Enters inst it.state it.prices.items q) where
  pub column_cause : settle w (ftran it.factors (entering_column inst q)) ≡ None → Cause w inst (length log) it.state it.factors
  column_cause none = column it.prices.items q (h.prices priced) enters none

  pub undecided_cause : (α : List ℚ) → ColumnOf inst it.state q α → IsUndecided w inst it.state it.values.items it.prices.items α q → Cause w inst (length log) it.state it.factors
  undecided_cause α solved (inl unfit) = cost it.prices.items q (h.prices priced) enters unfit
  undecided_cause α solved (inr (refusal, unfit)) =
      let t = direction (reduced inst it.state it.prices.items q) in
      let here = ratio_place (length log) q refusal in
      let has = reached_has_table inst log it.state h.reached in
      let found = limited w inst (length log) it.state q t it.values.items α here (unfit (length log)) in
      ratio_cause w inst (length log) it.state it.factors has.table (table_solves inst it.state has.table has.inverse has.entries) it.prices.items it.values.items α q
      (record { prices = h.prices priced; values = h.values; enters = enters; column = solved }) found.0 found.1 here (unfit (length log))
