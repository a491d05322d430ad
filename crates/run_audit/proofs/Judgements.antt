-- Of a report one answer alone is right.
use Rattle.std.proofs.Common.{◌≡◌, ◌≢◌, ℕ, suc, ◌<◌, ◌≤◌, inl, inr, List, ◌∷◌, ◌++◌, length, take, drop, get_or, slice_get, Option, Some, None, IfSome, refl, sym, ◌∙◌, ap, subst, arith}
use Rattle.std.proofs.lemmas.List.{get_or-take, length-take-le, take-take, take_all}
use Rattle.std.proofs.lemmas.Option.{slice_get-get_or}
use Rattle.lp_model.specs.Basis.{Basis}
use Rattle.lp_model.specs.declared.Entry.{Entry}
use Rattle.lp_model.specs.declared.Entry.TheVariants.{Turn}
use Rattle.lp_run.specs.Ends.{Yields}
use Rattle.lp_run.specs.Instance.{Instance}
use Rattle.lp_run.specs.Run.{IsRun}
use Rattle.lp_run.specs.State.{State, start_of}
use Rattle.lp_run.specs.Step.{IsFinal, IsNext}
use Rattle.lp_run.proofs.Runs.{reached_regular}
use Rattle.lp_run.proofs.Unique.{no_next_at_end, one_next}
use Rattle.lp_text.specs.Report.{Report}
use Rattle.bland_laws.proofs.Single.{gives_final}
use Rattle.instance_model.specs.Basis.{basis_of}
use Rattle.plain_table.proofs.Replays.{around, leads_one, next_there}
use Rattle.run_audit.specs.declared.answer.Audit.{Audit}
use Rattle.run_audit.specs.declared.answer.Audit.TheVariants as audit
use Rattle.run_audit.specs.Judged.{Judged, PartsAt}

-- ── where log and run part ──

module _ (inst : Instance) (log : List Entry) (k j : ℕ) (less : k < j) (within : j ≤ length log) where
  own : Entry
  own = get_or log k Turn

  split : take j log ≡ take k log ++ own ∷ drop (suc k) (take j log)
  unfolding own
  split =
      around (take j log) k Turn own (subst (λ n. k < n) (sym (length-take-le j log within)) less) (sym (get_or-take j log k Turn less))
      ∙ ap (λ front. front ++ own ∷ drop (suc k) (take j log)) (take-take k j log (omega arith))

  -- a log that is the run's up to a number goes on as the run does at each before
  pub goes_on_there : (s t : State) → IsRun inst (take k log) s → IsRun inst (take j log) t → IsNext inst s (get_or log k Turn)
  unfolding own
  goes_on_there s t front run = (next_there inst (take k log) own (drop (suc k) (take j log)) t s (subst (λ l. IsRun inst l t) split run) front).0

  pub entry_there : slice_get log k ≡ Some (get_or log k Turn)
  entry_there = slice_get-get_or log k Turn (omega arith)

  -- so it does not part from it there
  pub not_parted : (t : State) → IsRun inst (take j log) t → PartsAt inst log k → ⊥
  not_parted t run (s, b, front, inl (final, more)) =
      no_next_at_end inst s (reached_regular inst (take k log) s front) (get_or log k Turn) (goes_on_there s t front run) final
  not_parted t run (s, b, front, inr (e, next, other)) =
      other (entry_there ∙ ap Some (one_next inst s (reached_regular inst (take k log) s front) (get_or log k Turn) e (goes_on_there s t front run) next))

module _ (inst : Instance) (log : List Entry) where
  pub parts_once : (k k' : ℕ) → PartsAt inst log k → PartsAt inst log k' → k ≡ k'
  parts_once k k' h h' =
      by_order (λ less. not_parted inst log k k' less h'.1 h'.0 h'.2 h) (λ less. not_parted inst log k' k less h.1 h.0 h.2 h')
    where
      by_order : (k < k' → ⊥) → (k' < k → ⊥) → k ≡ k'
      by_order f g = omega arith

  -- a whole run does not part from itself
  pub whole_has_no_part : (k : ℕ) (t : State) → IsRun inst log t → IsFinal inst t → PartsAt inst log k → ⊥
  whole_has_no_part k t run final (s, b, front, inl (ends, less)) =
      not_parted inst log k (length log) less (omega arith) t (subst (λ l. IsRun inst l t) (sym (take_all (length log) log (omega arith))) run) (s, b, front, inl (ends, less))
  whole_has_no_part k t run final (s, b, front, inr (e, next, other)) =
      by_order (λ less. not_parted inst log k (length log) less (omega arith) t (subst (λ l. IsRun inst l t) (sym (take_all (length log) log (omega arith))) run)
      (s, b, front, inr (e, next, other))) at_end
    where
      at_end : length log ≤ k → ⊥
      at_end most =
          let same : s ≡ t = leads_one inst (start_of inst) log s t (subst (λ l. IsRun inst l s) (take_all k log most) front) run in
          no_next_at_end inst s (reached_regular inst (take k log) s front) e next (subst (IsFinal inst) (sym same) final)

      by_order : (k < length log → ⊥) → (length log ≤ k → ⊥) → ⊥
      by_order f g = omega arith

-- ── one answer ──

one_log_told : (o : Option (List Entry)) (log log' : List Entry) → o ≡ Some log → o ≡ Some log' → log' ≡ log
one_log_told o log log' e e' = cc

no_log_told : (o : Option (List Entry)) (log : List Entry) → o ≡ None → o ≡ Some log → ⊥
no_log_told o log e e' = cc

module _ (inst : Instance) (r : Report) where
  no_log : (log : List Entry) → r.log ≡ None → r.log ≡ Some log → ⊥
  no_log log e e' = no_log_told r.log log e e'

  parts_apart : (k : ℕ) (log log' : List Entry) (s : State) → r.log ≡ Some log → PartsAt inst log k → r.log ≡ Some log' → IsRun inst log' s → IsFinal inst s → ⊥
  parts_apart k log log' s told parts told' run final =
      whole_has_no_part inst log' k s run final (subst (λ l. PartsAt inst l k) (sym (one_log_told r.log log log' told told')) parts)

  one_state : (log log' : List Entry) (s s' : State) → r.log ≡ Some log → r.log ≡ Some log' → IsRun inst log s → IsRun inst log' s' → s' ≡ s
  one_state log log' s s' told told' run run' = leads_one inst (start_of inst) log s' s (subst (λ l. IsRun inst l s') (one_log_told r.log log log' told told') run') run

  yields_apart : (log log' : List Entry) (s s' : State) → r.log ≡ Some log → r.log ≡ Some log' → IsRun inst log s → IsRun inst log' s' → (Yields inst s r.outcome → ⊥)
      → Yields inst s' r.outcome → ⊥
  yields_apart log log' s s' told told' run run' other gives = other (subst (λ s. Yields inst s r.outcome) (one_state log log' s s' told told' run run') gives)

  basis_apart : (log log' : List Entry) (s s' : State) → r.log ≡ Some log → r.log ≡ Some log' → IsRun inst log s → IsRun inst log' s' → (b : Basis) → r.basis ≡ Some b
      → b ≢ basis_of s → IfSome r.basis (λ b. b ≡ basis_of s') → ⊥
  basis_apart log log' s s' told told' run run' b is other same =
      other (subst (λ o. IfSome o (λ b. b ≡ basis_of s')) is same ∙ ap basis_of (one_state log log' s s' told told' run run'))

  pub one_answer : (a b : Audit) → Judged inst r a → Judged inst r b → a ≡ b
  one_answer audit.NoLog audit.NoLog h h' = refl
  one_answer audit.NoLog (audit.Log k) h h' = absurd (no_log h'.0 h h'.1)
  one_answer audit.NoLog audit.Outcome h h' = absurd (no_log h'.0 h h'.2)
  one_answer audit.NoLog audit.Basis h h' = absurd (no_log h'.0 h h'.2)
  one_answer audit.NoLog (audit.Yes k) h h' = absurd (no_log h'.0 h h'.2)
  one_answer (audit.Log k) audit.NoLog h h' = absurd (no_log h.0 h' h.1)
  one_answer (audit.Log k) (audit.Log k') (log, told, parts) (log', told', parts') =
      ap audit.Log (parts_once inst log k k' parts (subst (λ l. PartsAt inst l k') (one_log_told r.log log log' told told') parts'))
  one_answer (audit.Log k) audit.Outcome (log, told, parts) (log', s, told', whole, other) = absurd (parts_apart k log log' s told parts told' whole.0 whole.1)
  one_answer (audit.Log k) audit.Basis (log, told, parts) (log', s, told', run, gives, (b, is, other)) = absurd (parts_apart k log log' s told parts told' run (gives_final inst s r.outcome gives))
  one_answer (audit.Log k) (audit.Yes k') (log, told, parts) (log', s, told', run, gives, count, same) =
      absurd (parts_apart k log log' s told parts told' run (gives_final inst s r.outcome gives))
  one_answer audit.Outcome audit.NoLog h h' = absurd (no_log h.0 h' h.2)
  one_answer audit.Outcome (audit.Log k') (log, s, told, whole, other) (log', told', parts) = absurd (parts_apart k' log' log s told' parts told whole.0 whole.1)
  one_answer audit.Outcome audit.Outcome h h' = refl
  one_answer audit.Outcome audit.Basis (log, s, told, whole, other) (log', s', told', run, gives, (b, is, wrong)) = absurd (yields_apart log log' s s' told told' whole.0 run other gives)
  one_answer audit.Outcome (audit.Yes k') (log, s, told, whole, other) (log', s', told', run, gives, count, same) = absurd (yields_apart log log' s s' told told' whole.0 run other gives)
  one_answer audit.Basis audit.NoLog h h' = absurd (no_log h.0 h' h.2)
  one_answer audit.Basis (audit.Log k') (log, s, told, run, gives, (b, is, other)) (log', told', parts) =
      absurd (parts_apart k' log' log s told' parts told run (gives_final inst s r.outcome gives))
  one_answer audit.Basis audit.Outcome (log', s', told', run, gives, (b, is, wrong)) (log, s, told, whole, other) = absurd (yields_apart log log' s s' told told' whole.0 run other gives)
  one_answer audit.Basis audit.Basis h h' = refl
  one_answer audit.Basis (audit.Yes k') (log, s, told, run, gives, (b, is, other)) (log', s', told', run', gives', count, same) =
      absurd (basis_apart log log' s s' told told' run run' b is other same)
  one_answer (audit.Yes k) audit.NoLog h h' = absurd (no_log h.0 h' h.2)
  one_answer (audit.Yes k) (audit.Log k') (log, s, told, run, gives, count, same) (log', told', parts) =
      absurd (parts_apart k' log' log s told' parts told run (gives_final inst s r.outcome gives))
  one_answer (audit.Yes k) audit.Outcome (log', s', told', run, gives, count, same) (log, s, told, whole, other) = absurd (yields_apart log log' s s' told told' whole.0 run other gives)
  one_answer (audit.Yes k) audit.Basis (log', s', told', run', gives', count, same) (log, s, told, run, gives, (b, is, other)) =
      absurd (basis_apart log log' s s' told told' run run' b is other same)
  one_answer (audit.Yes k) (audit.Yes k') (log, s, told, run, gives, count, same) (log', s', told', run', gives', count', same') =
      ap audit.Yes (count ∙ ap length (sym (one_log_told r.log log log' told told')) ∙ sym count')

pub one_judgement : (inst : Instance) (r : Report) (a b : Audit) → Judged inst r a → Judged inst r b → a ≡ b
one_judgement inst r a b h h' = one_answer inst r a b h h'

-- what a solve states
pub of_solve : (inst : Instance) (r : Report) (log : List Entry) (s : State) → r.log ≡ Some log → IsRun inst log s → Yields inst s r.outcome → IfSome r.basis (λ b. b ≡ basis_of s)
    → Judged inst r (audit.Yes (length log))
of_solve inst r log s told run gives basis = (log, s, told, run, gives, refl, basis)
