-- Factors that follow an exchange by an update.
use Rattle.std.proofs.Common.{◌≡◌, ℕ, ◌<◌, ne_eqb, cond, List, Some, None, Result, Ok, Err, IfErr, sym, ◌∙◌, ap, subst, arith}
use Rattle.lp_model.specs.declared.Entry.TheVariants.{Swap}
use Rattle.lp_model.specs.declared.Side.{Side}
use Rattle.std.specs.Prelude.{OnOk, length}
use Rattle.rational.specs.Rational.{ℚ}
use Rattle.rational.specs.Worked.{bind, done, settle}
use Rattle.rational.proofs.Settling.{settle-bind, settle-bind_none, settle-done}
use Rattle.lp_run.specs.Instance.{Instance, column_kind, row_count}
use Rattle.lp_run.specs.Solution.{basis_entry}
use Rattle.lp_run.specs.State.{State, after}
use Rattle.bland_ratio.specs.Pricing.{kind_entries}
use Rattle.factor_model.specs.Eta.{apply}
use Rattle.factor_model.specs.Factors.{AreFactors, Factors, most_updates, updated}
use Rattle.factor_model.specs.Update.{with_column}
use Rattle.factor_model.specs.Vectors.{entry, vector}
use Rattle.factor_run.specs.Built.{entering_column, exchanged, made_anew}
use Rattle.factor_run.proofs.Bases.{column_is, swapped_factors}
use Rattle.ftran_btran.specs.Kept.{size}
use Rattle.plain_table.proofs.Makings.{on_ok}
use Rattle.basis_solves.specs.declared.refusal.Refusal.{Refusal}
use Rattle.basis_solves.specs.declared.refusal.Refusal.TheVariants as refusal
use Rattle.basis_solves.specs.Refusals.{Explains}

-- what explains a refusal may be said otherwise
pub explained : {P Q : Type 0} (e : Refusal) → (P → Q) → Explains P e → Explains Q e
explained refusal.Memory f h = h
explained refusal.Unfit f h = f h

pub explains_on : {A : Type 0} {P Q : Type 0} (r : Result A Refusal) → (P → Q) → IfErr r (Explains P) → IfErr r (Explains Q)
explains_on (Ok a) f h = h
explains_on (Err e) f h = explained e f h

module _ (w : ℕ) (inst : Instance) (t : State) (number : ℕ) (f : Factors) (p q : ℕ) (spike : List ℚ) (is : spike ≡ (apply (entering_column inst q) f.etas).answer) (few : f.updates < most_updates) where
  by_update : settle w (exchanged inst t number f p q) ≡ settle w (bind (updated f p spike) (λ g. done (Some g)))
  by_update =
      ap (λ b. settle w (cond b (made_anew inst t number) (bind (updated f p (apply (entering_column inst q) f.etas).answer) (λ g. done (Some g))))) (ne_eqb f.updates most_updates (omega arith))
      ∙ ap (λ v. settle w (bind (updated f p v) (λ g. done (Some g)))) (sym is)

  pub followed_by_update : (g : Factors) → settle w (updated f p spike) ≡ Some g → settle w (exchanged inst t number f p q) ≡ Some (Some g)
  followed_by_update g settled = by_update ∙ settle-bind w (updated f p spike) (λ g. done (Some g)) g settled ∙ settle-done w (Some g)

  pub unfollowed_by_update : settle w (updated f p spike) ≡ None → settle w (exchanged inst t number f p q) ≡ None
  unfollowed_by_update none = by_update ∙ settle-bind_none w (updated f p spike) (λ g. done (Some g)) none

-- the update of a state's factors leaves factors of the basis after the swap
module _ (inst : Instance) (s : State) (f : Factors) (p q : ℕ) (positions : length s.basis ≡ row_count inst) (position : p < row_count inst) (factors : AreFactors (row_count inst) f (basis_entry inst s))
    (spike : List ℚ) (is : spike ≡ (apply (entering_column inst q) f.etas).answer) where
  same_size : size f ≡ row_count inst
  same_size = factors.upper.row_count

  pub updated_factors : {A E : Type 0} (r : Result A E) (g : Factors)
      → ((b : ℕ → ℕ → ℚ) (a : ℕ → ℚ) → AreFactors (size f) f b → spike ≡ (apply (vector (size f) a) f.etas).answer → OnOk r (AreFactors (size f) g (with_column b p a)))
      → (end : Side) → OnOk r (AreFactors (row_count inst) g (basis_entry inst (after s (Swap q p end))))
  updated_factors r g represents end =
      let a = entry (kind_entries inst (column_kind inst q)) in
      let there : vector (size f) a ≡ entering_column inst q = ap (λ n. vector n a) same_size ∙ column_is inst q in
      on_ok r (λ h. swapped_factors inst s q p end positions position g (subst (λ n. AreFactors n g (with_column (basis_entry inst s) p a)) same_size h))
      (represents (basis_entry inst s) a (subst (λ n. AreFactors n f (basis_entry inst s)) (sym same_size) factors) (is ∙ ap (λ v. (apply v f.etas).answer) (sym there)))
