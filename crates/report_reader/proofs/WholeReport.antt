-- The whole report, from its lines.
use Rattle.std.proofs.Common.{◌≡◌, inl, inr, ℕ, suc, ◌+◌, List, [], ◌∷◌, ◌++◌, length, Option, None, Some, IfSome, refl, sym, ◌∙◌, ap, ap₂, subst, arith, append-nil}
use Rattle.std.specs.Option.{option_map, unwrap_or}
use Rattle.std.specs.Io.KnownBytes.{prepend_known}
use Rattle.std.proofs.lemmas.Bool.Decides.{eqb_tells}
use Rattle.io_ends.specs.Count.{one_more}
use Rattle.lp_model.specs.Deck.{Deck}
use Rattle.lp_text.specs.Limits.{report_limit}
use Rattle.lp_text.specs.Lines.{Line, lines_of, onto_first, text_of}
use Rattle.lp_text.specs.Report.{Report, report_lines}
use Rattle.lp_text.proofs.LinesLemmas.{flat_map-lines_of}
use Rattle.lp_text.specs.Inner.LineText.{line_text}
use Rattle.std.specs.List.{flat_map}
use Rattle.mps_cards.specs.NextLine.{FailsToRead, IsAtEnd, lines_left}
use Rattle.mps_cards.specs.ReaderState.{ReaderState}
use Rattle.report_lines.specs.declared.flaw.Flaw.{Flaw}
use Rattle.report_lines.specs.FirstFlaw.{Expected, HasFirstFlaw, HasNextFlaw, IsWithinLimits, Reaches, bytes_of, sizes, version}
use Rattle.report_reader.specs.declared.fault.ReportFault.{ReportFault}
use Rattle.report_reader.specs.declared.fault.ReportFault.TheVariants.{At, Memory, Read}
use Rattle.report_reader.specs.Reading.{IsCutOff, IsFirstFlaw, IsReportCause, IsTextOf, IsUpToFeed, counted_on}
use Rattle.report_reader.specs.Inner.Reads.{Found, IsRestCause, IsStop, Moves}

-- ── a text and its lines ──

no_lines : (text : List ℕ) → lines_of text ≡ [] → text ≡ []
no_lines text none = sym (flat_map-lines_of text) ∙ ap (flat_map line_text) none

onto_first-ended : (c : ℕ) (text : List ℕ) (lines : List Line) → lines_of text ≡ lines → IsUpToFeed text (text_of (bytes_of lines))
    → IsUpToFeed (c ∷ text) (text_of (bytes_of (onto_first c lines)))
onto_first-ended c text [] is h = inr (ap (λ t. c ∷ (t ++ 10 ∷ [])) (no_lines text is))
onto_first-ended c text (line ∷ lines) is (inl h) = inl (ap (λ t. c ∷ t) h)
onto_first-ended c text (line ∷ lines) is (inr h) = inr (ap (λ t. c ∷ t) h)

pub up_to_feed : (text : List ℕ) → IsUpToFeed text (text_of (bytes_of (lines_of text)))
up_to_feed [] = inl refl
up_to_feed (c ∷ text) = elim (eqb_tells c 10) [
  | inl feed ↦ rw (feed.0, feed.1) (elim (up_to_feed text) [ inl h ↦ inl (ap (λ t. 10 ∷ t) h) | inr h ↦ inr (ap (λ t. 10 ∷ t) h) ])
  | inr other ↦ rw (other.0) (onto_first-ended c text (lines_of text) refl (up_to_feed text))
]

-- ── what is left behind lines ──

module _ (d : Deck) (before mid : ReaderState) (left left1 : Option (List ℕ)) (lines : List Line) (expected : List Expected)
    (start : before.since ≡ 0) (moves : Moves before mid left left1 lines) (met : Reaches d (version ∷ []) (bytes_of lines) expected) where
  used : mid.since ≡ sizes lines
  used = omega (arith, moves.since, start)

  within : IsWithinLimits lines
  within = record { few = omega (arith, used, moves.ready.within); short = moves.short }

  first_flaw : (number : ℕ) (found : Flaw) → number ≡ one_more mid.count → IfSome (lines_left mid.kept left1) (λ rest. HasNextFlaw d expected mid.since rest found)
      → IsFirstFlaw d before left number found
  first_flaw number found is flaw = (
    length lines + 1,
    is ∙ ap one_more moves.count ∙ ap (λ k. counted_on k before.count) next,
    each (lines_left before.kept left) (lines_left mid.kept left1) moves.all flaw,
  )
    where
      next : suc (length lines) ≡ length lines + 1
      next = omega arith

      each : (here behind : Option (List Line)) → here ≡ option_map (λ rest. lines ++ rest) behind → IfSome behind (λ rest. HasNextFlaw d expected mid.since rest found)
          → IfSome here (λ all. HasFirstFlaw d all (length lines + 1) found)
      each here None all h = subst (λ o. IfSome o (λ all. HasFirstFlaw d all (length lines + 1) found)) (sym all) tt
      each here (Some rest) all h = subst (λ o. IfSome o (λ all. HasFirstFlaw d all (length lines + 1) found)) (sym all) (record {
        before = lines;
        rest = rest;
        split = refl;
        number_is = refl;
        within = within;
        expected = expected;
        met = met;
        flaw = subst (λ n. HasNextFlaw d expected n rest found) used h;
      })

  cut_off : (left' : Option (List ℕ)) (faults faults' : ℕ) → FailsToRead mid.kept mid.since report_limit left1 left' faults faults' → IsCutOff d
      before left left' faults faults'
  cut_off left' faults faults' fails = record {
    lines = lines;
    kept = mid.kept;
    left_behind = left1;
    all = moves.all;
    within = within;
    expected = expected;
    met = met;
    fails = subst (λ n. FailsToRead mid.kept n report_limit left1 left' faults faults') used fails;
  }

pub stop_cause : (d : Deck) (before : ReaderState) (left left' : Option (List ℕ)) (faults faults' : ℕ) (f : ReportFault) → before.since ≡ 0
    → IsStop d before left left' faults faults' (version ∷ []) f → IsReportCause d before left left' faults faults' f
stop_cause d before left left' faults faults' Memory start h = tt
stop_cause d before left left' faults faults' Read start (s, fails) = cut_off d before s.after left s.left_after s.lines (s.one ∷ s.others) start
    s.moves s.met left' faults faults' fails
stop_cause d before left left' faults faults' (At number found) start (s, is, flaw) =
    first_flaw d before s.after left s.left_after s.lines (s.one ∷ s.others) start s.moves s.met number found is flaw

module _ (d : Deck) (before mid : ReaderState) (left left1 : Option (List ℕ)) (Is : List (List ℕ) → Type 0) (start : before.since ≡ 0)
    (found : Found d before mid left left1 (version ∷ []) [] Is) where
  pub rest_cause : (left' : Option (List ℕ)) (faults faults' : ℕ) (f : ReportFault) → IsRestCause d mid left1 left' faults faults' f → IsReportCause d
      before left left' faults faults' f
  rest_cause left' faults faults' Memory h = tt
  rest_cause left' faults faults' Read fails = cut_off d before mid left left1 found.lines [] start found.moves found.met left' faults faults' fails
  rest_cause left' faults faults' (At number flaw) (is, h) = first_flaw d before mid left left1 found.lines [] start found.moves found.met number flaw is h

  -- the input has ended behind the lines
  ended : (kept kept1 : List ℕ) (left left1 : Option (List ℕ)) → lines_left kept left ≡ option_map (λ rest. found.lines ++ rest)
      (lines_left kept1 left1) → IsAtEnd kept1 left1
      → IfSome (prepend_known kept left) (λ text. lines_of text ≡ found.lines)
  ended kept kept1 None left1 all end = tt
  ended kept kept1 (Some bytes) None all end = absurd (cc)
  ended kept kept1 (Some bytes) (Some rest) all end =
      ap (λ o. unwrap_or o []) (all ∙ ap₂ (λ k r. option_map (λ rest. found.lines ++ rest) (lines_left k (Some r))) end.0 end.1) ∙ append-nil found.lines

  is_text : (report : Report) (text : List ℕ) → bytes_of found.lines ≡ report_lines d report → lines_of text ≡ found.lines → IsTextOf d report text
  is_text report text is lines = record {
    is = subst (λ ls. IsUpToFeed text (text_of ls)) (ap bytes_of lines ∙ is) (up_to_feed text);
    within = subst IsWithinLimits (sym lines) (within d before mid left left1 found.lines [] start found.moves found.met);
  }

  pub text_is : (report : Report) → bytes_of found.lines ≡ report_lines d report → IsAtEnd mid.kept left1 → IfSome (prepend_known before.kept left) (IsTextOf d report)
  text_is report is end = each (prepend_known before.kept left) (ended before.kept mid.kept left left1 found.moves.all end)
    where
      each : (o : Option (List ℕ)) → IfSome o (λ text. lines_of text ≡ found.lines) → IfSome o (IsTextOf d report)
      each None h = tt
      each (Some text) h = is_text report text is h
