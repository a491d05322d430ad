-- What the ratio test of a column says, in the direction of its reduced cost.
use Rattle.std.proofs.Common.{◌≡◌, ℕ, ◌<◌, inl, inr, List, Bool, Some, None, sym, ◌∙◌, ap, subst}
use Rattle.lp_model.specs.declared.Phase.{Phase}
use Rattle.rational.specs.Rational.{ℚ}
use Rattle.rational.specs.Worked.{settle}
use Rattle.rational.proofs.Settling.{settle-answer}
use Rattle.lp_run.specs.Instance.{Instance, IsWellFormed, column_count}
use Rattle.lp_run.specs.Solution.{reduced}
use Rattle.lp_run.specs.State.{State}
use Rattle.lp_run.specs.Step.{direction}
use Rattle.bland_ratio.specs.Leave.{Decides, RatioDoesNotFit, direction_where}
use Rattle.bland_ratio.specs.Pricing.{priced}
use Rattle.bland_ratio.specs.declared.ratio_test.Leave.{Leave}
use Rattle.bland_ratio.specs.declared.ratio_test.RatioUnfit.{RatioUnfit}
use Rattle.bland_ratio.proofs.Priced.{priced-answer}
use Rattle.two_phase.specs.Inner.Decisions.{IsDecided, IsUndecided}

module _ (inst : Instance) (well_formed : IsWellFormed inst) (s : State) (β y α : List ℚ) (q : ℕ) (below : q < column_count inst) (w : ℕ) (phase : Phase) (there : phase ≡ s.phase)
    (cost : ℚ) (worked : settle w (priced inst phase y q) ≡ Some cost) (down : Bool) (falls : direction cost ≡ direction_where down) where
  turns : direction (reduced inst s y q) ≡ direction_where down
  turns =
      ap direction (sym (priced-answer inst well_formed s y q below) ∙ settle-answer w (priced inst s.phase y q) cost (subst (λ phase. settle w (priced inst phase y q) ≡ Some cost) there worked))
      ∙ falls

  pub decided : (leave : Leave) → Decides inst s q (direction_where down) β α leave → IsDecided inst s β y α q (record { down = down; leave = leave })
  decided leave decides = record { turns = turns; decides = subst (λ t. Decides inst s q t β α leave) (sym turns) decides }

  pub undecided : (u : ℕ) → u ≡ w → (refusal : RatioUnfit) → RatioDoesNotFit u inst s q (direction_where down) β α refusal → IsUndecided w inst s β y α q
  undecided u same refusal unfit = inr (refusal, subst (λ t. RatioDoesNotFit w inst s q t β α refusal) (sym turns) (subst (λ w. RatioDoesNotFit w inst s q (direction_where down) β α refusal) same unfit))

pub unpriced : (w : ℕ) (inst : Instance) (s : State) (β y α : List ℚ) (q : ℕ) (phase : Phase) → phase ≡ s.phase → settle w (priced inst phase y q) ≡ None → IsUndecided w inst s β y α q
unpriced w inst s β y α q phase there unfit = inl (subst (λ phase. settle w (priced inst phase y q) ≡ None) there unfit)
