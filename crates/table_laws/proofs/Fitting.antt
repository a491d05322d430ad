-- What a run works, entry by entry: as long as all fits, the first value that does not fit is the first of the step.
use Rattle.std.proofs.Common.{◌≡◌, ℕ, ◌+◌, List, [], ◌∷◌, ◌++◌, length, Some, refl, sym, ◌∙◌, ap, subst, arith}
use Rattle.std.proofs.lemmas.List.{append_assoc, append-nil}
use Rattle.lp_model.specs.declared.Entry.{Entry}
use Rattle.lp_model.specs.declared.Place.{Place}
use Rattle.lp_run.specs.Instance.{Instance}
use Rattle.lp_run.specs.Listing.{AllFit, IsFirstUnfit, Listed, MakingLists, StartFits, StepLists, StepsList, first_unfit, start_listing}
use Rattle.lp_run.specs.Run.{IsRun, Leads}
use Rattle.lp_run.specs.State.{State, after, start_of}
use Rattle.lp_run.proofs.FirstUnfit.{all-append, fit-append}
use Rattle.table_laws.specs.Fitted.{HasFitted}

-- what the steps of a log list, with one entry more
pub steps-more : (inst : Instance) (k : ℕ) (s s' : State) (log : List Entry) (e : Entry) (stepped now : List Listed)
    → Leads inst s log s' → StepsList inst k s log stepped → StepLists inst (k + length log) s' now → StepsList inst k s (log ++ e ∷ []) (stepped ++ now)
steps-more inst k s s' [] e stepped now leads steps next =
    (now, [], subst (λ a. StepLists inst k a now) (sym leads) (subst (λ n. StepLists inst n s' now) (omega arith) next), refl, ap (λ xs. xs ++ now) steps ∙ sym (append-nil now))
steps-more inst k s s' (a ∷ log) e stepped now leads (first, later, one, rest, is) next = (
  first,
  later ++ now,
  one,
  steps-more inst (k + 1) (after s a) s' log e later now leads.1 rest (subst (λ n. StepLists inst n s' now) (omega arith) next),
  ap (λ xs. xs ++ now) is ∙ append_assoc first later now,
)

module _ (w : ℕ) (inst : Instance) where
  -- after the making
  pub fitted-start : (vs : List Listed) → StartFits w inst → MakingLists inst vs → AllFit w vs → HasFitted w inst []
  fitted-start vs start making fits = record { start = start; before = vs; worked = (vs, [], making, refl, sym (append-nil vs)); fits = fits }

  -- after one entry more
  pub fitted-more : (log : List Entry) (s : State) (e : Entry) (now : List Listed) → IsRun inst log s → HasFitted w inst log → StepLists inst (length log) s now → AllFit w now
      → HasFitted w inst (log ++ e ∷ [])
  fitted-more log s e now run h lists fits = record {
    start = h.start;
    before = h.before ++ now;
    worked =
        let made = h.worked.0 in
        let stepped = h.worked.1 in (
          made,
          stepped ++ now,
          h.worked.2,
          steps-more inst 0 (start_of inst) s log e stepped now run h.worked.3 (subst (λ n. StepLists inst n s now) (omega arith) lists),
          ap (λ xs. xs ++ now) h.worked.4 ∙ append_assoc made stepped now,
        );
    fits = all-append w h.before now h.fits fits;
  }

  -- a value of the step that does not fit is the first of all
  pub first-of-step : (log : List Entry) (s : State) (now : List Listed) (p : Place) → HasFitted w inst log → StepLists inst (length log) s now
      → first_unfit w now ≡ Some p → IsFirstUnfit w inst log s p
  first-of-step log s now p h lists first = (
    h.before,
    now,
    h.worked,
    lists,
    ap (first_unfit w) (append_assoc (start_listing inst) h.before now) ∙ fit-append w (start_listing inst) (h.before ++ now) h.start ∙ fit-append w h.before now h.fits ∙ first,
  )
