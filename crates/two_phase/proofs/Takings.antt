-- That a state can take the next entry of its run.
use Rattle.std.proofs.Common.{◌<◌, sym, subst}
use Rattle.lp_model.specs.declared.Entry.{Entry}
use Rattle.lp_model.specs.declared.Entry.TheVariants.{Flip, Swap, Turn}
use Rattle.lp_run.specs.Instance.{Instance}
use Rattle.lp_run.specs.State.{State, basic}
use Rattle.lp_run.specs.Step.{IsNext}
use Rattle.bland_laws.proofs.Holding.{Holds}
use Rattle.bland_laws.proofs.Moving.{flip_step, swap_step}
use Rattle.instance_model.specs.Entries.{CanTake}

-- the next entry names columns and a position that the state has
pub can_take : (inst : Instance) (s : State) → Holds inst s → (e : Entry) → IsNext inst s e → CanTake s e
can_take inst s h (Flip q) next =
    let step = flip_step inst s q next in
    subst (λ n. q < n) (sym h.each) step.pivoting.enters.eligible.in_range
can_take inst s h (Swap q p end) next =
    let step = swap_step inst s q p end next in (
      subst (λ n. q < n) (sym h.each) step.pivoting.enters.eligible.in_range,
      subst (λ n. p < n) (sym h.table.positions) step.position,
      subst (λ n. basic s p < n) (sym h.each) (h.table.within p step.position),
    )
can_take inst s h Turn next = tt
