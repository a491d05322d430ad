-- What is shown at the end of a run.
use Rattle.std.proofs.Common.{◌≡◌, ℕ, List, length, Some, Result, Err, Bool, sym, ◌∙◌, ap, subst}
use Rattle.lp_model.specs.declared.Entry.{Entry}
use Rattle.lp_model.specs.declared.Place.{Place}
use Rattle.lp_model.specs.Outcome.{infeasible, optimal, unbounded}
use Rattle.rational.specs.Rational.{ℚ}
use Rattle.lp_run.specs.Ends.{Yields, by_position, objective_at, point, prices_in, ray}
use Rattle.lp_run.specs.Instance.{Instance, structural_count}
use Rattle.lp_run.specs.Listing.{IsFirstTotal, first_unfit, total_listing, Judges}
use Rattle.lp_run.specs.Solution.{reduced}
use Rattle.lp_run.specs.State.{State, rest}
use Rattle.lp_run.specs.Step.{EndsFree, EndsInfeasible, EndsOptimal, direction}
use Rattle.rational.proofs.VectorLaws.{length-map-upto}
use Rattle.bland_ratio.specs.Leave.{direction_where}

module _ (inst : Instance) (s : State) (y β : List ℚ) where
  pub gives_optimum : EndsOptimal inst s y β → (x z : List ℚ) (v : ℚ) → x ≡ point inst s β → z ≡ prices_in inst.sense y → v ≡ objective_at inst x → Yields inst s (optimal x z v)
  gives_optimum ends x z v is_x is_z is_v = (y, β, ends, is_z, is_x, is_v)

  pub gives_farkas : EndsInfeasible inst s y β → (z : List ℚ) → z ≡ y → Yields inst s (infeasible z)
  gives_farkas ends z is = subst (λ y. Yields inst s (infeasible y)) (sym is) (β, ends)

  pub gives_ray : (α : List ℚ) (q : ℕ) (down : Bool) → EndsFree inst s y β α q → direction (reduced inst s y q) ≡ direction_where down → (x r : List ℚ) → x ≡ point inst s β
      → r ≡ ray inst s q (direction_where down) α → Yields inst s (unbounded x r)
  gives_ray α q down ends turns x r is_x is_r = (y, β, α, q, ends, is_x, is_r ∙ ap (λ t. ray inst s q t α) (sym turns))

  -- a sum of the objective that does not fit is the first
  pub total_overflows : (w w' : ℕ) {A : Type 0} (r : Result A Place) (here : Place) (x : List ℚ) (k : ℕ) → w' ≡ w → r ≡ Err here → EndsOptimal inst s y β → x ≡ point inst s β
      → Judges w' (total_listing inst k x) r → (log : List Entry) → length log ≡ k → IsFirstTotal w inst log s here
  total_overflows w w' r here x k same is ends is_x judged log number =
      let told = subst (λ r. Judges w' (total_listing inst k x) r) is judged in (
        y,
        β,
        ends,
        subst (λ w. first_unfit w (total_listing inst (length log) (point inst s β)) ≡ Some here) same
            (subst (λ k. first_unfit w' (total_listing inst k (point inst s β)) ≡ Some here) (sym number)
            (subst (λ x. first_unfit w' (total_listing inst k x) ≡ Some here) is_x told)),
      )

-- the point has a number for each structural
pub point_length : (inst : Instance) (s : State) (β x : List ℚ) → x ≡ point inst s β → length x ≡ structural_count inst
point_length inst s β x is = ap length is ∙ length-map-upto (λ j. by_position s.basis β j (rest inst s j)) (structural_count inst)
