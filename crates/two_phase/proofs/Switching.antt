-- What stands on a board into which a draft's factors have come.
use Rattle.std.proofs.Common.{◌≡◌, ℕ, ◌≤◌, List, length, refl, sym, ◌∙◌, ap, subst, arith}
use Rattle.lp_model.specs.declared.Entry.{Entry}
use Rattle.lp_run.specs.Instance.{Instance, row_count}
use Rattle.lp_run.specs.Run.{IsAt}
use Rattle.lp_run.specs.Solution.{basis_entry}
use Rattle.factor_model.specs.Factors.{AreFactors, Factors}
use Rattle.run_outcome.specs.declared.stop.Stop.{Stop}
use Rattle.two_phase.specs.Board.{AreCounts, BoardStands, HasCome}
use Rattle.two_phase.specs.Drafts.{DraftStands, IsDraftFor, TakesFactors}
use Rattle.two_phase.specs.Spent.{IsSpentAt}
use Rattle.two_phase.specs.Inner.Grounds.{GroundStands, GroundStops, OnFactors, ground_state}
use Rattle.two_phase.specs.Inner.Iterates.{HasFollowed, IsIterate}
use Rattle.two_phase.specs.declared.board.Board.{Board}
use Rattle.two_phase.specs.declared.draft.Draft.{Draft}
use Rattle.two_phase.specs.declared.ground.Ground.{Ground}
use Rattle.two_phase.specs.declared.ground.Ground.TheVariants as ground
use Rattle.two_phase.specs.declared.iterate.Iterate.{Iterate}
use Rattle.two_phase.specs.declared.standing.Course.{Course}
use Rattle.two_phase.specs.declared.standing.Course.TheVariants as course
use Rattle.two_phase.proofs.Numbers.{one_at}

-- an iterate of which nothing but the factors has changed
changed_is : (it new : Iterate) (f : Factors) → HasFollowed it new → new.factors ≡ f → new ≡ record it { factors = f }
changed_is it new f kept is =
    ap (λ s. record new { state = s }) kept.state
    ∙ ap (λ f. record new { state = it.state; factors = f }) is
    ∙ ap (λ v. record new { state = it.state; factors = f; values = v }) kept.values
    ∙ ap (λ v. record new { state = it.state; factors = f; values = it.values; prices = v }) kept.prices
    ∙ ap (λ b. record new { state = it.state; factors = f; values = it.values; prices = it.prices; is_priced = b }) kept.is_priced
    ∙ ap (λ v. record new { state = it.state; factors = f; values = it.values; prices = it.prices; is_priced = it.is_priced; alpha = v }) kept.alpha
    ∙ ap (λ v. record it { factors = f; spike = v; spare = new.spare }) kept.spike
    ∙ ap (λ v. record it { factors = f; spare = v }) kept.spare

module _ (w : ℕ) (inst : Instance) (log : List Entry) (d : Draft) (h : IsDraftFor inst (length log) d) (late : length log ≤ d.number) where
  -- the draft's factors are of the basis of the state that the log reaches
  drafted_iterate : (it : Iterate) → IsIterate w inst log it → IsIterate w inst log (record it { factors = d.factors })
  drafted_iterate it stands = record {
    reached = stands.reached;
    factors =
        subst (λ s. AreFactors (row_count inst) d.factors (basis_entry inst s))
        (one_at inst d.number (length log) d.state it.state (omega (arith, late, h.number)) (subst (λ i. IsAt i d.number d.state) h.instance h.run) (log, stands.reached, refl))
        (subst (λ i. AreFactors (row_count i) d.factors (basis_entry i d.state)) h.instance h.stands.factors);
    few = h.stands.few;
    values = stands.values;
    prices = stands.prices;
    sized = record { prices = stands.sized.prices; alpha = stands.sized.alpha; spike = stands.sized.spike; spare = stands.sized.spare; few = stands.sized.few };
  }

  drafted_ground : (g g' : Ground) → TakesFactors d.factors g g' → GroundStands w inst log g → GroundStands w inst log g'
  drafted_ground (ground.Factors it) (ground.Factors new) (kept, is) stands = subst (IsIterate w inst log) (sym (changed_is it new d.factors kept is)) (drafted_iterate it stands)
  drafted_ground (ground.Factors it) (ground.Plain p) takes stands = absurd takes
  drafted_ground (ground.Plain p) g' takes stands = absurd takes

-- an end that was reached is one yet
taken_stops : (inst : Instance) (f : Factors) (end : Stop) (g g' : Ground) → TakesFactors f g g' → GroundStops inst g end → GroundStops inst g' end
taken_stops inst f end (ground.Factors it) (ground.Factors new) (kept, is) stops = subst (λ it. GroundStops inst (ground.Factors it) end) (sym (changed_is it new f kept is)) stops
taken_stops inst f end (ground.Factors it) (ground.Plain p) takes stops = absurd takes
taken_stops inst f end (ground.Plain p) g' takes stops = absurd takes

pub taken_state : (f : Factors) (g g' : Ground) → TakesFactors f g g' → ground_state g' ≡ ground_state g
taken_state f (ground.Factors it) (ground.Factors new) takes = takes.0.state
taken_state f (ground.Factors it) (ground.Plain p) takes = absurd takes
taken_state f (ground.Plain p) g' takes = absurd takes

taken_come : (inst : Instance) (budget k : ℕ) (f : Factors) (c : Course) (g g' : Ground) → TakesFactors f g g' → HasCome inst budget k g c → HasCome inst budget k g' c
taken_come inst budget k f course.Running g g' takes come = tt
taken_come inst budget k f (course.Ended end) g g' takes come = taken_stops inst f end g g' takes come
taken_come inst budget k f course.Spent g g' takes come = subst (λ s. IsSpentAt inst budget k s) (sym (taken_state f g g' takes)) come

taken_counts : (d : Draft) → DraftStands d → (g g' : Ground) → TakesFactors d.factors g g' → OnFactors g' (AreCounts d.factors.updates d.base)
taken_counts d h (ground.Factors it) (ground.Factors new) (kept, is) = (ap (λ (f : Factors). f.updates) is, ap (λ (f : Factors). f.base) is ∙ h.base)
taken_counts d h (ground.Factors it) (ground.Plain p) takes = absurd takes
taken_counts d h (ground.Plain p) g' takes = absurd takes

pub switched_stands : {A : Type 0} (w : ℕ) (old : Board A) (d : Draft) (g' : Ground) (f : Factors) (epoch updates : ℕ) → IsDraftFor old.inst.value (length old.log) d → length old.log ≤ d.number
    → f ≡ d.factors → epoch ≡ d.base → updates ≡ f.updates → TakesFactors f old.ground g' → BoardStands w old → BoardStands w (record old { ground = g'; epoch = epoch; updates = updates })
switched_stands w old d g' f epoch updates draft late is at_base counted took h =
    let takes = subst (λ f. TakesFactors f old.ground g') is took in
    let counts : updates ≡ d.factors.updates = counted ∙ ap (λ (f : Factors). f.updates) is in
    record {
      well_formed = h.well_formed;
      fits = h.fits;
      stands = drafted_ground w old.inst.value old.log d draft late old.ground g' takes h.stands;
      within = h.within;
      come = taken_come old.inst.value old.budget (length old.log) d.factors old.course old.ground g' takes h.come;
      counts = subst (λ e. OnFactors g' (AreCounts updates e)) (sym at_base) (subst (λ u. OnFactors g' (AreCounts u d.base)) (sym counts) (taken_counts d draft.stands old.ground g' takes));
      early = omega (arith, draft.stands.early, draft.number, at_base);
    }
