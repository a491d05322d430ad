-- What stands on a board, after each of its calls.
use Rattle.std.proofs.Common.{◌≡◌, ◌≢◌, ◌⊎◌, inl, inr, ℕ, ◌+◌, ◌≤◌, Bool, true, eqb, cond, List, [], ◌∷◌, ◌++◌, length, length-append, Option, Some, None, IfSome, false, refl, sym, ◌∙◌, ap, ap₂, subst, arith}
use Rattle.lp_model.specs.declared.Entry.{Entry}
use Rattle.lp_model.specs.declared.Entry.TheVariants.{Flip, Swap, Turn}
use Rattle.lp_model.specs.Log.{moves}
use Rattle.rational.specs.Worked.{settle}
use Rattle.lp_run.specs.Instance.{Instance, IsWellFormed, row_count}
use Rattle.lp_run.specs.Listing.{StartFits}
use Rattle.lp_run.specs.Solution.{basis_entry}
use Rattle.lp_run.specs.State.{after, start_of}
use Rattle.bland_ratio.specs.Pricing.{IsExactChoice}
use Rattle.bland_ratio.specs.declared.tickets.Choice.{Choice}
use Rattle.factor_model.specs.Factors.{AreFactors, Factors, most_updates}
use Rattle.factor_run.specs.Built.{built}
use Rattle.factor_run.proofs.Building.{built-more, built-start}
use Rattle.plain_table.specs.declared.faults.TableFault.{TableFault}
use Rattle.plain_table.specs.declared.faults.TableFault.TheVariants as table
use Rattle.run_outcome.specs.declared.stop.Stop.{Stop}
use Rattle.run_outcome.specs.declared.stop.Stop.TheVariants as stop
use Rattle.two_phase.specs.Board.{AreBuilt, AreCounts, BoardStands, FollowsEntry, HasCome, HasFactors, IsChoiceFor, IsRecordCause, IsSameRun, IsStandingOf, IsStartCause, IsTicketCause, IsUnmoved, HasGivenUp, HasGivenUpFor, Records, StartsUnfit, standing_on, state_of}
use Rattle.two_phase.specs.Inner.Recording.{IsTakingCause, noted, noted_course, noted_epoch, noted_updates}
use Rattle.two_phase.specs.Modes.{mode_of}
use Rattle.two_phase.specs.Standing.{answer_of, board_fault, standing_of}
use Rattle.two_phase.specs.declared.board.Board.{Board}
use Rattle.two_phase.specs.declared.fallback.Fallback.{Fallback}
use Rattle.two_phase.specs.declared.fallback.Fallback.TheVariants as fallback
use Rattle.two_phase.specs.declared.ground.Ground.{Ground}
use Rattle.two_phase.specs.declared.ground.Ground.TheVariants as ground
use Rattle.two_phase.specs.declared.reached.Reached.{Reached}
use Rattle.two_phase.specs.declared.reached.Reached.TheVariants as reached
use Rattle.two_phase.specs.declared.iterate.Iterate.{Iterate}
use Rattle.two_phase.specs.declared.standing.BoardFault.{BoardFault}
use Rattle.two_phase.specs.declared.standing.BoardFault.TheVariants as fault
use Rattle.two_phase.specs.declared.standing.Course.{Course}
use Rattle.two_phase.specs.declared.standing.Course.TheVariants as course
use Rattle.two_phase.specs.declared.standing.Mode.TheVariants as mode
use Rattle.two_phase.specs.declared.standing.Recorded.{Recorded}
use Rattle.two_phase.specs.declared.standing.Standing.TheVariants as standing
use Rattle.two_phase.specs.Spent.{IsSpentAt}
use Rattle.two_phase.specs.Inner.Grounds.{BeginsBuilt, FactorsGo, GroundReaches, GroundRescues, GroundStands, GroundStops, HasCause, IsPlain, IsStill, KeepsFactors, OnFactors, WantsTable, ground_state}
use Rattle.two_phase.specs.Inner.Plains.{HasRisen, IsRunFault, OverflowsFor}
use Rattle.two_phase.proofs.Counting.{CountsFollow, counts_early, followed_counts, made_counts}
use Rattle.two_phase.proofs.Grounds.{mode_plain, one_state, plain_cause, plain_keeps, plain_mode, reached_by}
use Rattle.two_phase.proofs.Numbers.{one_at}
use Rattle.two_phase.proofs.Spending.{factors_mode}

-- ── what is seen of a board ──

pub stands_with_factors : {A : Type 0} (w : ℕ) (b : Board A) → BoardStands w b → HasFactors b
stands_with_factors w b h = by b.ground h.stands h.counts
  where
    by : (g : Ground) → GroundStands w b.inst.value b.log g → OnFactors g (AreCounts b.updates b.epoch)
        → OnFactors g (λ s f. AreFactors (row_count b.inst.value) f (basis_entry b.inst.value s) × (f.updates ≤ most_updates) × (f.base ≤ length b.log))
    by (ground.Factors it) stands counts =
        (stands.factors, stands.few, subst (λ n. n ≤ length b.log) (sym counts.1) h.early)
    by (ground.Plain p) stands counts = tt

-- an end is one of the state's
stop_standing : (inst : Instance) (budget k : ℕ) (g : Ground) (end : Stop) → GroundStops inst g end → IsStandingOf inst budget k (ground_state g) (standing_of (course.Ended end))
stop_standing inst budget k (ground.Factors it) stop.Optimal h = (_, _, h.1)
stop_standing inst budget k (ground.Factors it) stop.Infeasible h = (_, _, h.1)
stop_standing inst budget k (ground.Factors it) (stop.Free q down) h = (_, _, _, q, h.1.0)
stop_standing inst budget k (ground.Plain (fallback.Anew it)) stop.Optimal h = (_, _, h.1)
stop_standing inst budget k (ground.Plain (fallback.Anew it)) stop.Infeasible h = (_, _, h.1)
stop_standing inst budget k (ground.Plain (fallback.Anew it)) (stop.Free q down) h = (_, _, _, q, h.1.0)
stop_standing inst budget k (ground.Plain (fallback.Table t)) stop.Optimal h = (_, _, h)
stop_standing inst budget k (ground.Plain (fallback.Table t)) stop.Infeasible h = (_, _, h)
stop_standing inst budget k (ground.Plain (fallback.Table t)) (stop.Free q down) h = (_, _, _, q, h.0)

pub stands_so : {A : Type 0} (w : ℕ) (b : Board A) → BoardStands w b → IsStandingOf b.inst.value b.budget (length b.log) (state_of b) (standing_on b)
stands_so w b h = by b.course h.come
  where
    by : (c : Course) → HasCome b.inst.value b.budget (length b.log) b.ground c → IsStandingOf b.inst.value b.budget (length b.log) (state_of b) (standing_of c)
    by course.Running come = tt
    by (course.Ended end) come = stop_standing b.inst.value b.budget (length b.log) b.ground end come
    by course.Spent come = come

running_course : (c : Course) → standing_of c ≡ standing.Running → c ≡ course.Running
running_course course.Running e = refl
running_course (course.Ended stop.Optimal) e = absurd cc
running_course (course.Ended stop.Infeasible) e = absurd cc
running_course (course.Ended (stop.Free q down)) e = absurd cc
running_course course.Spent e = absurd cc

stop_apart : (end : Stop) → standing_of (course.Ended end) ≢ standing.Running
stop_apart stop.Optimal e = absurd cc
stop_apart stop.Infeasible e = absurd cc
stop_apart (stop.Free q down) e = absurd cc

spent_apart : standing.Spent ≢ standing.Running
spent_apart e = cc

-- ── a choice of the board's own number is one of its state ──

pub choice_of_state : {A : Type 0} (w : ℕ) (b : Board A) (choice : Choice) → BoardStands w b → length b.log ≤ choice.number → IsChoiceFor w b.inst.value (length b.log) choice
    → IsExactChoice w b.inst.value (state_of b) choice
choice_of_state w b choice h late (below, s, there, exact) =
    let inst = b.inst.value in
    let same : s ≡ state_of b = one_at inst choice.number (length b.log) s (state_of b) (omega (arith, late, below)) there (b.log, reached_by w inst b.log b.ground h.stands, refl) in
    subst (λ s. IsExactChoice w inst s choice) same exact

-- ── what a step leaves ──

-- factors that are built along the log stay so where they are kept
built_kept : (w : ℕ) (inst : Instance) (log : List Entry) (g g' : Ground) → (IsPlain g → IsPlain g') → KeepsFactors g g' → OnFactors g (λ s f. settle w (built inst log) ≡ Some (Some f))
    → OnFactors g' (λ s f. settle w (built inst log) ≡ Some (Some f))
built_kept w inst log g (ground.Plain p') stays keeps along = tt
built_kept w inst log (ground.Plain p) (ground.Factors it') stays keeps along = absurd (stays tt)
built_kept w inst log (ground.Factors it) (ground.Factors it') stays keeps along = along ∙ ap (λ f. Some (Some f)) (sym keeps)

-- and where they follow an entry
built_on : (w : ℕ) (inst : Instance) (log : List Entry) (e : Entry) (g g' : Ground) → GroundStands w inst log g → (IsPlain g → IsPlain g') → FactorsGo w inst (length log) g g' (reached.Entry e)
    → OnFactors g (λ s f. settle w (built inst log) ≡ Some (Some f)) → OnFactors g' (λ s f. settle w (built inst (log ++ e ∷ [])) ≡ Some (Some f))
built_on w inst log e g (ground.Plain p') stands stays goes along = tt
built_on w inst log e (ground.Plain p) (ground.Factors it') stands stays goes along = absurd (stays tt)
built_on w inst log e (ground.Factors it) (ground.Factors it') stands stays goes along = built-more w inst log it.state e it.factors stands.reached along ∙ goes

-- at the start they are
pub built_begun : (w : ℕ) (inst : Instance) (g : Ground) → BeginsBuilt w inst g → OnFactors g (λ s f. settle w (built inst []) ≡ Some (Some f))
built_begun w inst (ground.Factors it) made = built-start w inst it.factors made
built_begun w inst (ground.Plain p) made = tt

-- the counts of the factors after a step, with those before it
module _ (updates epoch : ℕ) where
  -- kept factors have them as they were
  kept_counts : (g g' : Ground) → OnFactors g (AreCounts updates epoch) → (IsPlain g → IsPlain g') → KeepsFactors g g' → (noted_epoch g' epoch ≡ epoch) × (noted_updates g' updates ≡ updates)
  kept_counts g (ground.Plain p') counts stays keeps = (refl, refl)
  kept_counts (ground.Plain p) (ground.Factors it') counts stays keeps = absurd (stays tt)
  kept_counts (ground.Factors it) (ground.Factors it') counts stays keeps = (ap (λ (f : Factors). f.base) keeps ∙ counts.1, ap (λ (f : Factors). f.updates) keeps ∙ counts.0)

  -- after an entry more they follow it
  abbrev pub Follows : Entry → ℕ → Ground → Type 0
  Follows (Flip q) k g' = (noted_epoch g' epoch ≡ epoch) × (noted_updates g' updates ≡ updates)
  Follows (Swap q p end) k g' =
      (mode_of g' ≡ mode.Factors
      → (noted_epoch g' epoch ≡ cond (eqb updates most_updates) k epoch) × (noted_updates g' updates ≡ cond (eqb updates most_updates) 0 (updates + 1)))
      × (mode_of g' ≡ mode.Plain → (noted_epoch g' epoch ≡ epoch) × (noted_updates g' updates ≡ updates))
  Follows Turn k g' = (noted_epoch g' epoch ≡ epoch) × (noted_updates g' updates ≡ updates)

  unfollowed : (e : Entry) (k : ℕ) (f : Fallback) → Follows e k (ground.Plain f)
  unfollowed (Flip q) k f = (refl, refl)
  unfollowed (Swap q p end) k f = ((λ m. absurd cc), (λ m. (refl, refl)))
  unfollowed Turn k f = (refl, refl)

  by_factors : (e : Entry) (k : ℕ) (it it' : Iterate) → AreCounts updates epoch it.state it.factors → CountsFollow e k it.factors it'.factors → Follows e k (ground.Factors it')
  by_factors (Flip q) k it it' counts h = (h.0 ∙ counts.1, h.1 ∙ counts.0)
  by_factors (Swap q p end) k it it' counts h = (
    (λ m. (h.0 ∙ ap₂ (λ u b. cond (eqb u most_updates) k b) counts.0 counts.1, h.1 ∙ ap (λ u. cond (eqb u most_updates) 0 (u + 1)) counts.0)),
    (λ m. absurd cc),
  )
  by_factors Turn k it it' counts h = (h.0 ∙ counts.1, h.1 ∙ counts.0)

  module _ (w : ℕ) (inst : Instance) (k : ℕ) (e : Entry) where
    step_counts : (g g' : Ground) → OnFactors g (AreCounts updates epoch) → (IsPlain g → IsPlain g') → FactorsGo w inst k g g' (reached.Entry e) → Follows e (k + 1) g'
    step_counts g (ground.Plain p') counts stays goes = unfollowed e (k + 1) p'
    step_counts (ground.Plain p) (ground.Factors it') counts stays goes = absurd (stays tt)
    step_counts (ground.Factors it) (ground.Factors it') counts stays goes =
        by_factors e (k + 1) it it' counts (followed_counts w inst (after it.state e) (k + 1) it.factors it'.factors e goes)

    step_early : (g g' : Ground) → OnFactors g (AreCounts updates epoch) → (IsPlain g → IsPlain g') → FactorsGo w inst k g g' (reached.Entry e) → epoch ≤ k → noted_epoch g' epoch ≤ k + 1
    step_early g (ground.Plain p') counts stays goes early = omega (arith, early)
    step_early (ground.Plain p) (ground.Factors it') counts stays goes early = absurd (stays tt)
    step_early (ground.Factors it) (ground.Factors it') counts stays goes early =
        counts_early e (k + 1) it.factors it'.factors (followed_counts w inst (after it.state e) (k + 1) it.factors it'.factors e goes) (omega (arith, counts.1, early))

own_counts : (g : Ground) (updates epoch : ℕ) → OnFactors g (AreCounts (noted_updates g updates) (noted_epoch g epoch))
own_counts (ground.Factors it) updates epoch = (refl, refl)
own_counts (ground.Plain p) updates epoch = tt

-- ── a board after a step ──

module _ {A : Type 0} (w : ℕ) (old : Board A) (h : BoardStands w old) (running : standing_on old ≡ standing.Running) (g' : Ground) (log' : List Entry) (a' : A) where
  abbrev pub inst : Instance
  inst = old.inst.value

  abbrev pub mid : Board A
  mid = record old { ground = g'; log = log'; arith = a' }

  pub same_run : (IsPlain old.ground → IsPlain g') → IsSameRun old mid
  same_run stays = record { instance = refl; budget = refl; plain_stays = λ m. plain_mode g' (stays (mode_plain old.ground m)) }

  module _ (stays : IsPlain old.ground → IsPlain g') (same : log' ≡ old.log) (stands' : GroundStands w inst old.log g') (keeps : KeepsFactors old.ground g') where
    counts_kept : (noted_epoch g' old.epoch ≡ old.epoch) × (noted_updates g' old.updates ≡ old.updates)
    counts_kept = kept_counts old.updates old.epoch old.ground g' h.counts stays keeps

    kept_unmoved : IsUnmoved old mid
    kept_unmoved = record {
      log = same;
      state = one_state w w inst old.log g' old.ground stands' h.stands;
      course = refl;
      epoch = refl;
      updates = refl;
      factors = keeps;
    }

    kept_stands : BoardStands w mid
    kept_stands = record {
      well_formed = h.well_formed;
      fits = h.fits;
      stands = subst (λ l. GroundStands w inst l g') (sym same) stands';
      within = subst (λ l. moves l ≤ old.budget) (sym same) h.within;
      come = subst (HasCome inst old.budget (length log') g') (sym (running_course old.course running)) tt;
      counts = subst (λ u. OnFactors g' (AreCounts u old.epoch)) counts_kept.1
          (subst (λ e. OnFactors g' (AreCounts (noted_updates g' old.updates) e)) counts_kept.0 (own_counts g' old.updates old.epoch));
      early = subst (λ l. old.epoch ≤ length l) (sym same) h.early;
    }

    kept_built : AreBuilt w old → AreBuilt w mid
    kept_built along = subst (λ l. OnFactors g' (λ s f. settle w (built inst l) ≡ Some (Some f))) (sym same) (built_kept w inst old.log old.ground g' stays keeps along)

    early_kept : noted_epoch g' old.epoch ≤ length log'
    early_kept = subst (λ n. n ≤ length log') (sym counts_kept.0) (subst (λ l. old.epoch ≤ length l) (sym same) h.early)

    stands_at : (step : Option Reached) → HasCome inst old.budget (length log') g' (noted_course step old.course) → BoardStands w (noted step mid)
    stands_at step come = record {
      well_formed = h.well_formed;
      fits = h.fits;
      stands = subst (λ l. GroundStands w inst l g') (sym same) stands';
      within = subst (λ l. moves l ≤ old.budget) (sym same) h.within;
      come = come;
      counts = own_counts g' old.updates old.epoch;
      early = early_kept;
    }

  -- what is told of a step, of an instance that is the board's
  abbrev pub Leaves : Instance → Choice → Option Reached → Type 0
  Leaves i choice gone =
      IfSome gone (GroundReaches w i old.budget old.log (ground_state old.ground) log' g') × IfSome gone (FactorsGo w i (length old.log) old.ground g')
      × GroundRescues choice.unfit w i old.log old.ground log' g' gone

  module _ (stays : IsPlain old.ground → IsPlain g') where
    step_stands : (choice : Choice) (gone : Option Reached) → Leaves inst choice gone → BoardStands w (noted gone mid)
    step_stands choice None (reached, goes, rescued) =
        let there = rescued in
        stands_at stays there.3 there.4 (plain_keeps old.ground g' there.2) None (subst (HasCome inst old.budget (length log') g') (sym (running_course old.course running)) tt)
    step_stands choice (Some (reached.End end)) ((is, stands', stops), goes, rescued) =
        stands_at stays is (subst (λ l. GroundStands w inst l g') is stands') goes (Some (reached.End end)) stops
    step_stands choice (Some reached.Spent) ((is, stands', spent), goes, rescued) =
        let there = subst (λ l. GroundStands w inst l g') is stands' in
        stands_at stays is there goes (Some reached.Spent)
        (subst (λ l. IsSpentAt inst old.budget (length l) (ground_state g')) (sym is)
        (subst (IsSpentAt inst old.budget (length old.log)) (one_state w w inst old.log old.ground g' h.stands there) spent))
    step_stands choice (Some (reached.Entry e)) ((next, is, stands', within), goes, rescued) = record {
      well_formed = h.well_formed;
      fits = h.fits;
      stands = stands';
      within = within;
      come = tt;
      counts = own_counts g' old.updates old.epoch;
      early = subst (λ n. noted_epoch g' old.epoch ≤ n) (sym (ap length is ∙ length-append old.log (e ∷ [])))
          (step_early old.updates old.epoch w inst (length old.log) e old.ground g' h.counts stays goes h.early);
    }

    step_built : (choice : Choice) (gone : Option Reached) → Leaves inst choice gone → AreBuilt w old → AreBuilt w (noted gone mid)
    step_built choice None (reached, goes, rescued) along =
        let there = rescued in
        kept_built stays there.3 there.4 (plain_keeps old.ground g' there.2) along
    step_built choice (Some (reached.End end)) ((is, stands', stops), goes, rescued) along = kept_built stays is (subst (λ l. GroundStands w inst l g') is stands') goes along
    step_built choice (Some reached.Spent) ((is, stands', spent), goes, rescued) along = kept_built stays is (subst (λ l. GroundStands w inst l g') is stands') goes along
    step_built choice (Some (reached.Entry e)) ((next, is, stands', within), goes, rescued) along =
        subst (λ l. OnFactors g' (λ s f. settle w (built inst l) ≡ Some (Some f))) (sym is) (built_on w inst old.log e old.ground g' h.stands stays goes along)

    follows_entry : (e : Entry) → log' ≡ old.log ++ e ∷ [] → Follows old.updates old.epoch e (length old.log + 1) g' → FollowsEntry old (noted (Some (reached.Entry e)) mid) e
    follows_entry (Flip q) is f = f
    follows_entry Turn is f = f
    follows_entry (Swap q p end) is f = (
      (λ m. ((f.0 m).0 ∙ ap (λ k. cond (eqb old.updates most_updates) k old.epoch) (sym (ap length is ∙ length-append old.log (Swap q p end ∷ []))), (f.0 m).1)),
      f.1,
    )

    step_records : (choice : Choice) (gone : Option Reached) → Leaves inst choice gone → Records old (noted gone mid) choice (answer_of gone)
    step_records choice None (reached, goes, rescued) =
        let there = rescued in
        let keeps = plain_keeps old.ground g' there.2 in
        let kept = counts_kept stays there.3 there.4 keeps in (
          there.0,
          factors_mode old.ground there.1,
          plain_mode g' there.2,
          record {
            log = there.3;
            state = one_state w w inst old.log g' old.ground there.4 h.stands;
            course = refl;
            epoch = kept.0;
            updates = kept.1;
            factors = keeps;
          },
        )
    step_records choice (Some (reached.End end)) ((is, stands', stops), goes, rescued) =
        (stop_apart end, refl, is, counts_kept stays is (subst (λ l. GroundStands w inst l g') is stands') goes, (λ unfit. plain_mode old.ground (rescued unfit)))
    step_records choice (Some reached.Spent) ((is, stands', spent), goes, rescued) =
        (spent_apart, refl, is, counts_kept stays is (subst (λ l. GroundStands w inst l g') is stands') goes, (λ unfit. plain_mode old.ground (rescued unfit)))
    step_records choice (Some (reached.Entry e)) ((next, is, stands', within), goes, rescued) = (
      next,
      is,
      refl,
      follows_entry e is (step_counts old.updates old.epoch w inst (length old.log) e old.ground g' h.counts stays goes),
      (λ unfit. plain_mode old.ground (rescued unfit)),
    )

  module _ (i : Instance) (same_instance : i ≡ inst) where
    module _ (stays : IsPlain old.ground → IsPlain g') where
      pub stands_after : (choice : Choice) (gone : Option Reached) → Leaves i choice gone → BoardStands w (noted gone mid)
      stands_after choice gone h = step_stands stays choice gone (subst (λ i. Leaves i choice gone) same_instance h)

      pub built_after : (choice : Choice) (gone : Option Reached) → Leaves i choice gone → AreBuilt w old → AreBuilt w (noted gone mid)
      built_after choice gone h = step_built stays choice gone (subst (λ i. Leaves i choice gone) same_instance h)

      pub records_after : (choice : Choice) (gone : Option Reached) (b : Board A) (r : Recorded) → b ≡ noted gone mid → r ≡ answer_of gone → Leaves i choice gone → Records old b choice r
      records_after choice gone b r is_b is_r h =
          subst (λ b. Records old b choice r) (sym is_b)
          (subst (λ r. Records old (noted gone mid) choice r) (sym is_r) (step_records stays choice gone (subst (λ i. Leaves i choice gone) same_instance h)))

      module _ (same : log' ≡ old.log) (stands' : GroundStands w i old.log g') (keeps : KeepsFactors old.ground g') where
        there : GroundStands w inst old.log g'
        there = subst (λ i. GroundStands w i old.log g') same_instance stands'

        pub unmoved_after : IsUnmoved old mid
        unmoved_after = kept_unmoved stays same there keeps

        pub stands_still : BoardStands w mid
        stands_still = kept_stands stays same there keeps

        pub built_still : AreBuilt w old → AreBuilt w mid
        built_still = kept_built stays same there keeps

    -- after a refusal
    module _ (same : log' ≡ old.log) (still : IsStill w i old.log old.ground g') where
      pub stays_still : IsPlain old.ground → IsPlain g'
      stays_still plain = mode_plain g' (still.mode ∙ plain_mode old.ground plain)

      pub refused_unmoved : IsUnmoved old mid
      refused_unmoved = unmoved_after stays_still same still.stands still.factors

      pub refused_stands : BoardStands w mid
      refused_stands = stands_still stays_still same still.stands still.factors

      pub refused_built : AreBuilt w old → AreBuilt w mid
      refused_built = built_still stays_still same still.stands still.factors

-- what a choice gives the factors up for
pub given_up_for : {A : Type 0} (w : ℕ) (old new : Board A) (choice : Choice) → choice.number ≡ length old.log → (choice.unfit ≡ false → HasGivenUp w old new) → HasGivenUpFor w old new choice
given_up_for w old new choice number given plain = by choice.unfit refl
  where
    by : (unfit : Bool) → choice.unfit ≡ unfit → HasCause w old.inst.value old.log old.ground ⊎ ((choice.unfit ≡ true) × (choice.number ≡ length old.log))
    by true is = inr (is, number)
    by false is = inl (given is plain)

-- a board that is as it was
pub none_given_up : {A : Type 0} (w : ℕ) (b : Board A) (choice : Choice) → HasGivenUpFor w b b choice
none_given_up w b choice plain = inl (plain_cause w b.inst.value b.log b.ground (mode_plain b.ground plain))

-- ── why a call is refused ──

module _ {A : Type 0} (w : ℕ) (b : Board A) (before after : ℕ) where
  module _ (i : Instance) (same : i ≡ b.inst.value) where
    pub ticket_cause : (f : TableFault) → IsRunFault w i b.log f → HasRisen before after f → OverflowsFor (WantsTable w i b.ground) f → IsTicketCause w b before after (board_fault f)
    ticket_cause table.Memory run rose cause = tt
    ticket_cause (table.Overflow here) run rose cause =
        ((subst (λ i. IsRunFault w i b.log (table.Overflow here)) same run, rose), subst (λ i. WantsTable w i b.ground) same cause)

    pub taking_cause : (choice : Choice) (f : TableFault) → IsRunFault w i b.log f → HasRisen before after f → (choice.unfit ≡ false → OverflowsFor (HasCause w i b.log b.ground) f)
        → IsTakingCause w b choice before after (board_fault f)
    taking_cause choice table.Memory run rose cause = tt
    taking_cause choice (table.Overflow here) run rose cause =
        ((subst (λ i. IsRunFault w i b.log (table.Overflow here)) same run, rose), (λ fits. subst (λ i. HasCause w i b.log b.ground) same (cause fits)))

  pub record_cause : (choice : Choice) (f : BoardFault) → IsTakingCause w b choice before after f → IsRecordCause w b choice before after f
  record_cause choice fault.Memory h = tt
  record_cause choice (fault.Overflow here) h = h
  record_cause choice (fault.Stale n) h = absurd h
  record_cause choice (fault.Ended s) h = absurd h

pub start_cause : (w : ℕ) (i : Instance) (before after : ℕ) (f : TableFault) → IsRunFault w i [] f → HasRisen before after f → OverflowsFor (StartsUnfit w i) f → IsStartCause w i before after (board_fault f)
start_cause w i before after table.Memory run rose cause = tt
start_cause w i before after (table.Overflow here) run rose cause = (run, rose, cause)

-- without that cause it is want of memory
pub start_memory : (w : ℕ) (i : Instance) (f : TableFault) → (StartsUnfit w i → ⊥) → OverflowsFor (StartsUnfit w i) f → board_fault f ≡ fault.Memory
start_memory w i table.Memory fits cause = refl
start_memory w i (table.Overflow here) fits cause = absurd (fits cause)

-- the board of a ground at the start
pub starts : {A : Type 0} (w : ℕ) (b : Board A) → b.log ≡ [] → b.course ≡ course.Running → b.epoch ≡ 0 → b.updates ≡ 0 → IsWellFormed b.inst.value → StartFits w b.inst.value
    → GroundStands w b.inst.value [] b.ground → BeginsBuilt w b.inst.value b.ground → BoardStands w b
starts w b log running epoch updates well_formed fits stands made = record {
  well_formed = well_formed;
  fits = fits;
  stands = subst (λ l. GroundStands w b.inst.value l b.ground) (sym log) stands;
  within = subst (λ l. moves l ≤ b.budget) (sym log) (omega arith);
  come = subst (HasCome b.inst.value b.budget (length b.log) b.ground) (sym running) tt;
  counts = subst (λ e. OnFactors b.ground (AreCounts b.updates e)) (sym epoch) (subst (λ u. OnFactors b.ground (AreCounts u 0)) (sym updates) (by b.ground made));
  early = omega (arith, epoch);
}
  where
    by : (g : Ground) → BeginsBuilt w b.inst.value g → OnFactors g (AreCounts 0 0)
    by (ground.Factors it) made = let counts = made_counts w b.inst.value (start_of b.inst.value) 0 it.factors made in (counts.1, counts.0)
    by (ground.Plain p) made = tt

-- with nothing in the log
pub along_none : (w : ℕ) (inst : Instance) (g : Ground) (log : List Entry) → log ≡ [] → OnFactors g (λ s f. settle w (built inst []) ≡ Some (Some f)) → OnFactors g (λ s f. settle w (built inst log) ≡ Some (Some f))
along_none w inst g log none begun = subst (λ l. OnFactors g (λ s f. settle w (built inst l) ≡ Some (Some f))) (sym none) begun
