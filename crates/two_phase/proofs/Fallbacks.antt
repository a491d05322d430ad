-- What a run goes on over once its factors are given up, seen from its two kinds.
use Rattle.std.proofs.Common.{◌≡◌, ℕ, List, sym, subst}
use Rattle.lp_model.specs.declared.Entry.{Entry}
use Rattle.lp_run.specs.Instance.{Instance}
use Rattle.lp_run.specs.Run.{IsRun}
use Rattle.lp_run.specs.State.{State, start_of}
use Rattle.plain_table.specs.Plain.{Plain}
use Rattle.plain_table.proofs.Replays.{leads_one}
use Rattle.two_phase.specs.declared.fallback.Fallback.{Fallback}
use Rattle.two_phase.specs.declared.fallback.Fallback.TheVariants as fallback
use Rattle.two_phase.specs.declared.iterate.Iterate.{Iterate}
use Rattle.two_phase.specs.declared.reached.Reached.{Reached}
use Rattle.two_phase.specs.declared.reached.Reached.TheVariants as reached
use Rattle.two_phase.specs.Inner.Fallbacks.{FallbackReaches, FallbackStands, StaysAt, fallback_state}
use Rattle.two_phase.specs.Inner.Plains.{IsFitted, TableReaches, TableStops}
use Rattle.two_phase.specs.Inner.Reaching.{Reaches}

pub fallback_reached : (w : ℕ) (inst : Instance) (log : List Entry) (p : Fallback) → FallbackStands w inst log p → IsRun inst log (fallback_state p)
fallback_reached w inst log (fallback.Anew it) h = h.reached
fallback_reached w inst log (fallback.Table t) h = h.stands.table.reached

-- at one log there is one state
pub one_fallback_state : (w w' : ℕ) (inst : Instance) (log : List Entry) (p p' : Fallback) → FallbackStands w inst log p → FallbackStands w' inst log p' → fallback_state p ≡ fallback_state p'
one_fallback_state w w' inst log p p' h h' =
    leads_one inst (start_of inst) log (fallback_state p) (fallback_state p') (fallback_reached w inst log p h) (fallback_reached w' inst log p' h')

pub stays : (w : ℕ) (inst : Instance) (log : List Entry) (p p' : Fallback) → FallbackStands w inst log p → FallbackStands w inst log p' → StaysAt w inst log p p'
stays w inst log p p' h h' = record { stands = h'; state = one_fallback_state w w inst log p' p h' h }

pub table_reaches : (w : ℕ) (inst : Instance) (budget : ℕ) (log : List Entry) (t : Plain) (log' : List Entry) (t' : Plain) → IsFitted w inst log t → (r : Reached) → TableReaches w inst budget log t log' t' r
    → FallbackReaches w inst budget log t.state log' (fallback.Table t') r
table_reaches w inst budget log t log' t' fitted (reached.Entry e) h = h
table_reaches w inst budget log t log' t' fitted (reached.End end) h =
    (h.0, subst (λ log. IsFitted w inst log t') (sym h.0) (subst (IsFitted w inst log) (sym h.1) fitted), subst (λ t. TableStops inst t end) (sym h.1) h.2)
table_reaches w inst budget log t log' t' fitted reached.Spent h = (h.0, subst (λ log. IsFitted w inst log t') (sym h.0) (subst (IsFitted w inst log) (sym h.1) fitted), h.2)

pub factors_reach : (w : ℕ) (inst : Instance) (budget : ℕ) (log : List Entry) (s : State) (log' : List Entry) (it' : Iterate) (r : Reached) → Reaches w inst budget log s log' it' r
    → FallbackReaches w inst budget log s log' (fallback.Anew it') r
factors_reach w inst budget log s log' it' (reached.Entry e) h = h
factors_reach w inst budget log s log' it' (reached.End end) h = h
factors_reach w inst budget log s log' it' reached.Spent h = h
