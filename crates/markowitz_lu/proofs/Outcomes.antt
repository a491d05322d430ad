-- What the call answers, by what its parts answered.
use Rattle.std.proofs.Common.{◌≡◌, ℕ, List, Some, Result, Ok, Err, sym, ap, subst, ◌∙◌}
use Rattle.std.specs.Result.{IfOk, IfErr, IsErrAnd}
use Rattle.rational.specs.Rational.{ℚ}
use Rattle.rational.specs.Worked.{settle}
use Rattle.factor_model.specs.declared.Op.{Op}
use Rattle.factor_model.specs.Upper.{Triangle}
use Rattle.factor_model.specs.Factoring.{whole, factored_by, factored}
use Rattle.cross_links.specs.Matrix.{IsLink}
use Rattle.markowitz_lu.specs.declared.fault.LuFault.{LuFault}
use Rattle.markowitz_lu.specs.declared.fault.LuFault.TheVariants.{Memory, Unfit, Singular}
use Rattle.markowitz_lu.specs.declared.stage.Stage.{Stage}
use Rattle.markowitz_lu.specs.Fault.{IsCause, IsDependent}
use Rattle.markowitz_lu.proofs.Runs.{IsUnderWay, at_the_end, ended_by, singular-dependence}

module _ {A E : Type 0} where
  pub ok_map : (P Q : A → Type 0) (r : Result A E) → ((a : A) → P a → Q a) → IfOk r P → IfOk r Q
  ok_map P Q (Ok a) f h = f a h
  ok_map P Q (Err e) f h = tt

  pub err_map : (P Q : E → Type 0) (r : Result A E) → ((e : E) → P e → Q e) → IfErr r P → IfErr r Q
  err_map P Q (Ok a) f h = tt
  err_map P Q (Err e) f h = f e h

  -- a refusal that is handed on
  pub err_handed : (P : E → Type 0) (r : Result A E) (e : E) → P e → IsErrAnd r (λ f. f ≡ e) → IfErr r P
  err_handed P (Ok a) e h is = tt
  err_handed P (Err f) e h is = subst P (sym is) h

  pub no_ok : (P : A → Type 0) (r : Result A E) (e : E) → IsErrAnd r (λ f. f ≡ e) → IfOk r P
  no_ok P (Ok a) e is = absurd is
  no_ok P (Err f) e is = tt

module _ (n : ℕ) (m0 : ℕ → ℕ → ℚ) (w : ℕ) where
  -- a combination that was found shows that the columns are dependent
  pub dependent_by : (f : LuFault) → IsCause w (factored n m0) f → IsDependent n m0 f
  dependent_by Memory h = tt
  dependent_by Unfit h = tt
  dependent_by (Singular y) h = singular-dependence n m0 w y.items h

  module _ (s : Stage) (u : IsUnderWay n m0 w s) (empty : (l : ℕ) → ¬ IsLink s.cross l) (v : ℕ) (same : v ≡ w) where
    pub whole_by : (ops : List Op) (t : Triangle) → settle v (factored_by n u.now u.now.rows) ≡ Some (whole ops t) → settle w (factored n m0) ≡ Some (whole ops t)
    whole_by ops t h = at_the_end n m0 w s u empty ∙ ap (λ k. settle k (factored_by n u.now u.now.rows)) (sym same) ∙ h

    pub cause_by : (f : LuFault) → IsCause v (factored_by n u.now u.now.rows) f → IsCause w (factored n m0) f
    cause_by f h = ended_by n m0 w s u empty f (subst (λ k. IsCause k (factored_by n u.now u.now.rows) f) same h)
