-- From the run of a deck and its ranges to what is told of a text.
use Rattle.std.proofs.Common.{◌≡◌, ℕ, List, Option, Some, Ok, Err, refl, sym, ◌∙◌, ap, subst, inl, inr}
use Rattle.std.specs.Prelude.{IfErr, IfSome, IsErrAnd, Result}
use Rattle.io_ends.specs.Bytes.{Appends, AppendsPrefix}
use Rattle.lp_model.specs.declared.Entry.{Entry}
use Rattle.lp_model.specs.declared.Place.{Place}
use Rattle.lp_model.specs.Deck.{Deck, IsDeck}
use Rattle.lp_model.specs.Outcome.{Outcome, optimal}
use Rattle.rational.specs.Rational.{ℚ}
use Rattle.lp_run.specs.Instance.{Instance, instance_of}
use Rattle.lp_run.specs.Listing.{Overflows, first_unfit, start_listing}
use Rattle.lp_run.specs.Run.{IsRun}
use Rattle.lp_run.specs.State.{State}
use Rattle.lp_text.specs.declared.Form.{Form}
use Rattle.lp_text.specs.Report.{Report}
use Rattle.bland_laws.proofs.OfDeck.{row_count_is, structural_count_is, well_formed}
use Rattle.crew.proofs.Complete.{start_overflows}
use Rattle.ranging.specs.declared.fault.RangePlace.{RangePlace}
use Rattle.ranging.specs.declared.fault.RangeFault.TheVariants as fault
use Rattle.ranging.specs.Causes.{IsRangeCause}
use Rattle.ranging.specs.Ranges.{AreRanges, Ranges}
use Rattle.lp_main.specs.declared.range.Found.{Found}
use Rattle.lp_main.specs.declared.range.Found.TheVariants as found
use Rattle.lp_main.specs.declared.refusal.Refusal.{Refusal}
use Rattle.lp_main.specs.declared.refusal.Refusal.TheVariants as refusal
use Rattle.lp_main.specs.declared.status.Answer.{Answer}
use Rattle.lp_main.specs.declared.status.Answer.TheVariants.{Done}
use Rattle.lp_main.specs.declared.words.Task.TheVariants.{Range}
use Rattle.lp_main.specs.Ends.{Begins, IsCause, Writes}
use Rattle.lp_main.specs.Inner.Ranging.{IsFound, IsUnrangedCause, found_text}
use Rattle.lp_main.specs.Inner.Solving.{IsRead, IsReportOf, IsWriteCause}
use Rattle.lp_main.specs.Ranged.{AreRangesOf, HasUnfitRange, range_name}
use Rattle.lp_main.specs.RangeTexts.{TellsRanges}
use Rattle.lp_main.specs.Solves.{IsDeckWith, IsShort, IsSolved}
use Rattle.lp_main.specs.Summaries.{summary_budget}
use Rattle.lp_main.specs.World.{Stream}
use Rattle.lp_main.proofs.Solving.{deck_with}
use Rattle.lp_main.proofs.Summing.{all_moves}

-- ── the ranges of a whole run ──

module _ (w : ℕ) (d : Deck) where
  -- a start sum that does not fit is one of the run
  pub start_unranged : (here : Place) → IsDeck d → first_unfit w (start_listing (instance_of d)) ≡ Some here → IsUnrangedCause w d (refusal.Overflow here)
  start_unranged here deck first = start_overflows w summary_budget (instance_of d) here (well_formed d deck) first

  module _ (inst : Instance) (same : inst ≡ instance_of d) (log : List Entry) (optimum : (x y : List ℚ) × (v : ℚ) × IsSolved summary_budget d log (optimal x y v)) (n n' : ℕ) where
    pub overflow_unranged : (here : Place) → IsRangeCause w inst log n n' (fault.Overflow here) → IsUnrangedCause w d (refusal.Overflow here)
    overflow_unranged here cause =
        let (x, y, v, solved) = optimum in
        let ((s, run, unfit, gives_up), raised) = subst (λ inst. IsRangeCause w inst log n n' (fault.Overflow here)) same cause in
        (log, s, run, solved.within, inl unfit)

    pub unfit_unranged : (place : RangePlace) → IsRangeCause w inst log n n' (fault.Unfit place) → (name : List ℕ) → name ≡ range_name d place
        → IsUnrangedCause w d (refusal.RangeUnfit place name)
    unfit_unranged place cause name is =
        let (x, y, v, solved) = optimum in
        let ((s, vs, run, lists, wide), raised) = subst (λ inst. IsRangeCause w inst log n n' (fault.Unfit place)) same cause in
        (log, x, y, v, s, vs, solved, run, lists, wide, is)

module _ (d : Deck) (report : Report) (is : IsReportOf all_moves d report) where
  same_log : (log : List Entry) → Some log ≡ report.log → is.log ≡ log
  same_log log own = some_is is.log log (sym (own ∙ ap (λ (r : Report). r.log) is.is))
    where
      some_is : (a b : List Entry) → Some a ≡ Some b → a ≡ b
      some_is a b e = cc

  -- the whole run is the log that the report has
  pub solved_by : (log : List Entry) → Some log ≡ report.log → (o : Outcome) → report.outcome ≡ o → IsSolved summary_budget d log o
  solved_by log own o ends = subst (IsSolved summary_budget d log) ends (subst (λ log. IsSolved summary_budget d log report.outcome) (same_log log own) is.solved)

  told : (o : Outcome) → report.outcome ≡ o → (bytes : List ℕ) → TellsRanges d is.last o bytes → AreRangesOf bytes d
  told o ends bytes tells = (is.log, o, is.last, subst (IsSolved summary_budget d is.log) ends is.solved, is.run, tells)

  pub ranges_found : IsDeck d → (x y : List ℚ) (v : ℚ) → report.outcome ≡ optimal x y v → (log : List Entry) → Some log ≡ report.log → (ranges : Ranges)
      → ((s : State) → IsRun (instance_of d) log s → AreRanges (instance_of d) s ranges) → IsFound d (found.Ranges ranges)
  ranges_found deck x y v ends log own ranges exact =
      let are = exact is.last (subst (λ log. IsRun (instance_of d) log is.last) (same_log log own) is.run) in
      record {
        told = told (optimal x y v) ends (found_text d (found.Ranges ranges)) (ranges, are, refl);
        fits = record { costs = are.each_cost ∙ structural_count_is d deck; rights = are.each_right ∙ row_count_is d deck };
      }

-- ── what a text leaves ──

module _ (form : Form) (w : ℕ) (d : Deck) where
  unranged_cause : (input input' : Stream) (old : Option (List ℕ)) (e : Refusal) → IfSome input.bytes (λ t. IsRead form t d) → IsUnrangedCause w d e
      → IsCause (Some (Range form)) w input input' old old e
  unranged_cause input input' old (refusal.Overflow here) read cause =
      (deck_with form (λ d. Overflows w summary_budget (instance_of d) here) d input.bytes read cause, refl)
  unranged_cause input input' old (refusal.RangeUnfit place name) read cause = (deck_with form (HasUnfitRange w place name) d input.bytes read cause, refl)
  unranged_cause input input' old (refusal.Budget n) read cause = (deck_with form (IsShort summary_budget n) d input.bytes read cause, refl)
  unranged_cause input input' old refusal.Memory read cause = inl refl
  unranged_cause input input' old other read cause = absurd cause

  -- the deck has no ranges
  pub unranged : (result : Result Answer Refusal) (input input' : Stream) (old : Option (List ℕ)) (e : Refusal) → IfSome input.bytes (λ t. IsRead form t d)
      → IsUnrangedCause w d e → IsErrAnd result (λ r. r ≡ e) → IfErr result (IsCause (Some (Range form)) w input input' old old)
  unranged (Ok a) input input' old e read cause is = tt
  unranged (Err r) input input' old e read cause is = subst (IsCause (Some (Range form)) w input input' old old) (sym is) (unranged_cause input input' old e read cause)

  module _ (it : Found) (is : IsFound d it) (old new : Option (List ℕ)) where
    told_of : (text : Option (List ℕ)) → IfSome text (λ t. IsRead form t d) → IfSome text (IsDeckWith form (AreRangesOf (found_text d it)))
    told_of text read = deck_with form (AreRangesOf (found_text d it)) d text read is.told

    -- what is told was written
    pub given : (text : Option (List ℕ)) → IfSome text (λ t. IsRead form t d) → Appends old new (found_text d it) → Writes (Some (Range form)) w text old new Done
    given text read appended = (found_text d it, told_of text read, appended)

    write_cause : (input input' : Stream) (e : Refusal) → IsWriteCause e → Begins (Some (Range form)) w input.bytes old new → IsCause (Some (Range form)) w input input' old new e
    write_cause input input' refusal.Write h begun = begun
    write_cause input input' refusal.Memory h begun = inr begun
    write_cause input input' other h begun = absurd h

    -- it was not written to its end
    pub unwritten : (result : Result Answer Refusal) (input input' : Stream) (e : Refusal) → IfSome input.bytes (λ t. IsRead form t d) → IsWriteCause e
        → AppendsPrefix old new (found_text d it) → IsErrAnd result (λ r. r ≡ e) → IfErr result (IsCause (Some (Range form)) w input input' old new)
    unwritten (Ok a) input input' e read cause appended is_e = tt
    unwritten (Err r) input input' e read cause appended is_e =
        subst (IsCause (Some (Range form)) w input input' old new) (sym is_e) (write_cause input input' e cause (Done, found_text d it, told_of input.bytes read, appended))
