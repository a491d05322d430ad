-- The state that the run of a log comes to, entry by entry.
use Rattle.std.proofs.Common.{◌≡◌, ℕ, suc, ◌+◌, ◌<◌, List, take, drop, get_or, length, sym, subst}
use Rattle.lp_model.specs.declared.Entry.{Entry}
use Rattle.lp_model.specs.declared.Entry.TheVariants.{Flip, Swap, Turn}
use Rattle.lp_run.specs.Instance.{Instance, IsWellFormed}
use Rattle.lp_run.specs.Run.{IsRun}
use Rattle.lp_run.specs.State.{State, after, basic, start_of}
use Rattle.lp_run.specs.Step.{IsNext}
use Rattle.lp_run.proofs.Runs.{leads_on}
use Rattle.bland_laws.proofs.Always.{instance_holds}
use Rattle.bland_laws.proofs.Holding.{Holds}
use Rattle.bland_laws.proofs.Moving.{flip_step, swap_step}
use Rattle.instance_model.specs.Entries.{CanTake}
use Rattle.plain_table.proofs.Replays.{around, front_more, next_there}

-- the next entry names columns and a position that the state has
can_take : (inst : Instance) (s : State) → Holds inst s → (e : Entry) → IsNext inst s e → CanTake s e
can_take inst s h (Flip q) next =
    let step = flip_step inst s q next in
    subst (λ n. q < n) (sym h.each) step.pivoting.enters.eligible.in_range
can_take inst s h (Swap q p end) next =
    let step = swap_step inst s q p end next in (
      subst (λ n. q < n) (sym h.each) step.pivoting.enters.eligible.in_range,
      subst (λ n. p < n) (sym h.table.positions) step.position,
      subst (λ n. basic s p < n) (sym h.each) (h.table.within p step.position),
    )
can_take inst s h Turn next = tt

module _ (inst : Instance) (formed : IsWellFormed inst) (log : List Entry) (t s : State) (run : IsRun inst log t) (k : ℕ) (reached : IsRun inst (take k log) s)
    (d e : Entry) (lt : k < length log) (read : e ≡ get_or log k d) where
  next_is : IsNext inst s e
  next_is = (next_there inst (take k log) e (drop (suc k) log) t s (subst (λ l. IsRun inst l t) (around log k d e lt read) run) reached).0

  pub taken : CanTake s e
  taken = can_take inst s (instance_holds inst formed (take k log) s reached) e next_is

  pub reached_next : IsRun inst (take (k + 1) log) (after s e)
  reached_next = subst (λ l. IsRun inst l (after s e)) (sym (front_more log k d e lt read)) (leads_on inst (start_of inst) s (take k log) e reached next_is)
