-- A fault that is handed on to the caller.
use Rattle.std.proofs.Common.{◌≡◌, Result, Err, refl, sym, subst, ap, ◌∙◌}
use Rattle.std.proofs.lemmas.Result.{err_from_is_err_and}
use Rattle.std.specs.Prelude.{IfErr, IsErrAnd, IsErrOf}

module _ {T E : Type 0} (r : Result T E) (f : E) where
  -- the answer is the fault
  answered : IsErrAnd r (λ e. e ≡ f) → r ≡ Err f
  answered is = let at = err_from_is_err_and r is in at.1 ∙ ap Err at.2

  pub err_handed_on : (e : E) → IsErrAnd r (λ e. e ≡ f) → f ≡ e → IsErrOf r e
  err_handed_on e is same = subst (λ o. IsErrOf o e) (sym (answered is ∙ ap Err same)) refl

  pub is_handed_on : (e : E) → IsErrAnd r (λ e. e ≡ f) → IsErrOf r e → IsErrOf {T = T} (Err f) e
  is_handed_on e is at = subst (λ o. IsErrOf o e) (answered is) at

pub if_handed_on : {T E : Type 0} (P : E → Type 0) (r : Result T E) (f : E) → P f → IsErrAnd r (λ e. e ≡ f) → IfErr r P
if_handed_on P r f holds is = subst (λ o. IfErr o P) (sym (answered r f is)) holds
