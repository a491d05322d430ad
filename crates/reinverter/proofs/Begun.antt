-- What a draft that is begun stands on.
use Rattle.std.proofs.Common.{◌≡◌, ◌∙◌, ℕ, List, refl, sym, subst, arith}
use Rattle.lp_run.specs.Instance.{Instance}
use Rattle.lp_run.specs.Run.{IsAt}
use Rattle.lp_run.specs.State.{State}
use Rattle.lp_run.proofs.Kept.{regular_from_table}
use Rattle.lp_run.proofs.Runs.{reached_has_table}
use Rattle.basis_solves.specs.Bases.{FactorsFrom, IsBasis}
use Rattle.two_phase.proofs.Counting.{made_counts}
use Rattle.two_phase.specs.Drafts.{DraftStands}
use Rattle.two_phase.specs.declared.draft.Draft.{Draft}

-- the basis of a state of the run is regular
pub run_basis : (inst i : Instance) → i ≡ inst → (k : ℕ) (s : State) → IsAt inst k s → (basis : List ℕ) → basis ≡ s.basis → IsBasis i s basis
run_basis inst i there k s (log, run, number) basis is =
    let table = reached_has_table inst log s run in
    subst (λ i. IsBasis i s basis) (sym there)
    (subst (IsBasis inst s) (sym is) (record { is = refl; positions = table.positions; within = table.within; regular = regular_from_table inst s table }))

pub begun_stands : (w : ℕ) (d : Draft) → d.base ≡ d.number → FactorsFrom w d.inst.value d.state d.number d.factors → DraftStands d
begun_stands w d same h =
    let counts = made_counts w d.inst.value d.state d.number d.factors h.made in
    record { factors = h.factors; few = omega (arith, counts.1); base = counts.0 ∙ sym same; early = omega (arith, same) }
