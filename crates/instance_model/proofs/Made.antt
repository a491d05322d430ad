-- What is answered where a part of the making is refused.
use Rattle.std.proofs.Common.{◌≡◌, ℕ, List, IsErrAnd, Result, Err, Some, sym, ◌∙◌, ap, subst}
use Rattle.std.proofs.lemmas.Result.{err_from_is_err_and}
use Rattle.exact_frac.specs.Count.{raised}
use Rattle.lp_model.specs.declared.Place.{Place}
use Rattle.lp_run.specs.Listing.{Listed, first_unfit}
use Rattle.instance_model.specs.declared.making.InstanceFault.{InstanceFault}
use Rattle.instance_model.specs.declared.making.InstanceFault.TheVariants as fault
use Rattle.instance_model.specs.Inner.Starts.{JudgesOrWants}
use Rattle.instance_model.specs.Making.{unfit_after_making}

module _ {A : Type 0} (w : ℕ) (vs : List Listed) (count : ℕ) (r : Result A InstanceFault) where
  pub wanting : IsErrAnd r (λ f. f ≡ fault.Memory) → JudgesOrWants w vs r
  wanting is = let at = err_from_is_err_and r is in subst (JudgesOrWants w vs) (sym (at.1 ∙ ap Err at.2)) tt

  pub wanting_count : IsErrAnd r (λ f. f ≡ fault.Memory) → count ≡ unfit_after_making count r
  wanting_count is = let at = err_from_is_err_and r is in ap (unfit_after_making count) (sym (at.1 ∙ ap Err at.2))

  module _ (p : Place) where
    pub overflown : first_unfit w vs ≡ Some p → IsErrAnd r (λ f. f ≡ fault.Overflow p) → JudgesOrWants w vs r
    overflown e is = let at = err_from_is_err_and r is in subst (JudgesOrWants w vs) (sym (at.1 ∙ ap Err at.2)) e

    pub overflown_count : IsErrAnd r (λ f. f ≡ fault.Overflow p) → raised count 1 ≡ unfit_after_making count r
    overflown_count is = let at = err_from_is_err_and r is in ap (unfit_after_making count) (sym (at.1 ∙ ap Err at.2))
