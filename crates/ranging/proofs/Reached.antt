-- What holds of a state of a run whose factors are worked with.
use Rattle.std.proofs.Common.{ℕ, Ok, Err, refl}
use Rattle.std.specs.Prelude.{IfOk, IfErr, Result}
use Rattle.lp_run.specs.Instance.{Instance}
use Rattle.lp_run.specs.State.{State}
use Rattle.bland_laws.specs.Kept.{Kept}
use Rattle.bland_laws.proofs.Always.{kept}
use Rattle.factor_model.specs.Factors.{Factors}
use Rattle.basis_solves.specs.Bases.{FactorsFrom, IsBasis}
use Rattle.basis_solves.specs.Refusals.{Explains}
use Rattle.basis_solves.specs.declared.refusal.Refusal.{Refusal}
use Rattle.basis_solves.specs.declared.refusal.Refusal.TheVariants as refusal
use Rattle.ranging.specs.Inner.Solves.{AreMadeFor, IsReached}

pub reached_kept : (inst : Instance) (s : State) → IsReached inst s → Kept inst s
reached_kept inst s h = kept inst h.0 h.1.0 s h.1.1

pub reached_basis : (inst : Instance) (s : State) → IsReached inst s → IsBasis inst s s.basis
reached_basis inst s h =
    let keeps = reached_kept inst s h in
    record { is = refl; positions = keeps.valid.positions; within = keeps.valid.in_range; regular = keeps.regular }

pub made_for : (w : ℕ) (inst : Instance) (s : State) (r : Result Factors Refusal) → IfOk r (FactorsFrom w inst s 0) → IfOk r (AreMadeFor w inst s)
made_for w inst s (Ok f) h = record { made = h.made; factors = h.factors }
made_for w inst s (Err e) h = tt

-- a cause of a cause
pub told_on : (P Q : Type 0) → (P → Q) → (e : Refusal) → Explains P e → Explains Q e
told_on P Q f refusal.Memory h = tt
told_on P Q f refusal.Unfit h = f h

pub explained : {A : Type 0} (P Q : Type 0) → (P → Q) → (r : Result A Refusal) → IfErr r (Explains P) → IfErr r (Explains Q)
explained P Q f (Ok a) h = tt
explained P Q f (Err e) h = told_on P Q f e h
