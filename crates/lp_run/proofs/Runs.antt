-- Runs as a whole: their states have tables, and a run has one end.
use Rattle.std.proofs.Common.{◌≡◌, ℕ, ◌+◌, ◌<◌, List, [], ◌∷◌, ◌++◌, true, cond, sym, ◌∙◌, ap, subst, arith}
use Rattle.std.proofs.lemmas.List.Sums.{sum_by-append, sum_by-cons}
use Rattle.lp_model.specs.declared.Entry.{Entry}
use Rattle.rational.specs.Rational.{ℚ}
use Rattle.lp_run.specs.Instance.{Instance}
use Rattle.lp_model.specs.Log.{is_move, moves}
use Rattle.lp_run.specs.Run.{Leads}
use Rattle.lp_run.specs.Solution.{Regular}
use Rattle.lp_run.specs.State.{State, after, start_of}
use Rattle.lp_run.specs.Step.{Eligible, EndsFree, EndsOptimal, IsFinal, IsNext}
use Rattle.lp_run.specs.Tableau.{HasTable}
use Rattle.lp_run.proofs.Kept.{after_has_table, regular_from_table}
use Rattle.lp_run.proofs.Regularity.{one_prices}
use Rattle.lp_run.proofs.Start.{start_has_table}
use Rattle.lp_run.proofs.Unique.{no_next_at_end, one_next}

-- the states of a run have tables
pub leads_has_table : (inst : Instance) (s : State) → HasTable inst s → (log : List Entry) (t : State) → Leads inst s log t → HasTable inst t
leads_has_table inst s h [] t leads = subst (HasTable inst) leads h
leads_has_table inst s h (e ∷ log) t leads = leads_has_table inst (after s e) (after_has_table inst s h e leads.0) log t leads.1

-- a run ends in one state
pub one_end : (inst : Instance) (s : State) → HasTable inst s → (log log' : List Entry) (t t' : State) → Leads inst s log t → IsFinal inst t → Leads inst s log' t' → IsFinal inst t' → t ≡ t'
one_end inst s h [] [] t t' leads final leads' final' = sym leads ∙ leads'
one_end inst s h [] (e ∷ log') t t' leads final leads' final' = absurd (no_next_at_end inst s (regular_from_table inst s h) e leads'.0 (subst (IsFinal inst) (sym leads) final))
one_end inst s h (e ∷ log) [] t t' leads final leads' final' = absurd (no_next_at_end inst s (regular_from_table inst s h) e leads.0 (subst (IsFinal inst) (sym leads') final'))
one_end inst s h (e ∷ log) (e' ∷ log') t t' leads final leads' final' =
    let first : e' ≡ e = one_next inst s (regular_from_table inst s h) e' e leads'.0 leads.0 in
    one_end inst (after s e) (after_has_table inst s h e leads.0) log log' t t' leads.1 final (subst (λ a. Leads inst (after s a) log' t') first leads'.1) final'

pub moves-append : (log : List Entry) (e : Entry) (more : List Entry) → is_move e ≡ true → moves log < moves (log ++ e ∷ more)
moves-append log e more is =
    omega (arith, sum_by-append (λ a. cond (is_move a) 1 0) log (e ∷ more), sum_by-cons (λ a. cond (is_move a) 1 0) e more ∙ ap (λ b. cond b 1 0 + moves more) is)

-- each state that a run reaches has a table, and is regular
pub reached_has_table : (inst : Instance) (log : List Entry) (s : State) → Leads inst (start_of inst) log s → HasTable inst s
reached_has_table inst log s leads = leads_has_table inst (start_of inst) (start_has_table inst) log s leads

pub reached_regular : (inst : Instance) (log : List Entry) (s : State) → Leads inst (start_of inst) log s → Regular inst s
reached_regular inst log s leads = regular_from_table inst s (reached_has_table inst log s leads)

-- a log goes on by the next entry at its end
pub leads_on : (inst : Instance) (s s' : State) (log : List Entry) (e : Entry) → Leads inst s log s' → IsNext inst s' e → Leads inst s (log ++ e ∷ []) (after s' e)
leads_on inst s s' [] e leads next = (subst (λ a. IsNext inst a e) (sym leads) next, ap (λ a. after a e) leads)
leads_on inst s s' (a ∷ log) e leads next = (leads.0, leads_on inst (after s a) s' log e leads.1 next)
