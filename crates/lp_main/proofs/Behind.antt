-- From what the readers of a deck and of a report answer to what the text of both tells.
use Rattle.std.proofs.Common.{◌≡◌, ℕ, List, [], ◌++◌, drop, Option, Some, None, refl, sym, ◌∙◌, ap, subst, inr}
use Rattle.std.specs.Prelude.{IfSome, option_map}
use Rattle.lp_model.specs.Basis.{Basis}
use Rattle.lp_model.specs.Deck.{Deck}
use Rattle.lp_text.specs.Lines.{Line, lines_of}
use Rattle.lp_text.specs.Report.{Report}
use Rattle.mps_cards.specs.NextLine.{lines_left}
use Rattle.mps_cards.specs.ReaderState.{ReaderState}
use Rattle.lp_text.specs.declared.Form.{Form}
use Rattle.mps_model.specs.DeckOf.{IsDeckOf}
use Rattle.report_lines.specs.declared.flaw.Flaw.{Flaw}
use Rattle.report_lines.specs.FirstFlaw.{HasFirstFlaw}
use Rattle.report_reader.specs.declared.fault.ReportFault.{ReportFault}
use Rattle.report_reader.specs.declared.fault.ReportFault.TheVariants as fault
use Rattle.cert_check.specs.Proved.{IsWithin}
use Rattle.report_reader.specs.Reading.{IsBasisOf, IsCutOff as IsReportEndedBy, IsFirstFlaw, IsReportCause, IsReportOf, IsTextOf, counted_on}
use Rattle.lp_main.specs.declared.refusal.Refusal.TheVariants as refusal
use Rattle.lp_main.specs.Checks.{HasBehind, IsReportCutOff, IsReportFlaw, TellsReport}
use Rattle.lp_main.specs.Inner.Checking.{IsBothCause, refusal_of_report}

some_is : {A : Type 0} (a b : A) → Some a ≡ Some b → a ≡ b
some_is a b e = cc

-- the reader stands behind the deck
module _ (form : Form) (d : Deck) (count : ℕ) where
  -- the lines that are left are those behind the deck
  abbrev pub LeftBehind : Option (List ℕ) → Option (List Line) → Type 0
  LeftBehind text lines = lines ≡ option_map (drop count) (lines_left [] text)

  has_behind : (t : List ℕ) → IsDeckOf form t d count → (behind : List Line) → Some behind ≡ option_map (drop count) (lines_left [] (Some t)) → HasBehind form t d behind
  has_behind t deck behind e = record { line = count; deck = deck; behind_is = some_is behind (drop count (lines_of t)) e }

  pub told_from : (text rest : Option (List ℕ)) (report : Report) → IfSome text (λ t. IsDeckOf form t d count) → LeftBehind text (option_map lines_of rest)
      → IfSome rest (IsTextOf d report) → IsReportOf d report → IfSome text (λ t. TellsReport form t d report)
  told_from None rest report deck e is of_deck = tt
  told_from (Some t) None report deck e is of_deck = absurd (cc e)
  told_from (Some t) (Some rest) report deck e is of_deck = record { rest = rest; behind = has_behind t deck (lines_of rest) e; is = is; of_deck = of_deck }

  -- the first flaw of the report
  flaw_from : (text : Option (List ℕ)) (before : ReaderState) (left : Option (List ℕ)) (number : ℕ) (found : Flaw) → before.count ≡ count
      → IfSome text (λ t. IsDeckOf form t d count) → LeftBehind text (lines_left before.kept left) → IsFirstFlaw d before left number found → IfSome text (IsReportFlaw form number found)
  flaw_from None before left number found counted deck e first = tt
  flaw_from (Some t) before left number found counted deck e (k, is, first) = by (lines_left before.kept left) refl
    where
      by : (o : Option (List Line)) → lines_left before.kept left ≡ o → IsReportFlaw form number found t
      by None is_none = absurd (cc (sym is_none ∙ e))
      by (Some behind) is_some = (
        d,
        behind,
        record { line = count; deck = deck; behind_is = some_is behind (drop count (lines_of t)) (sym is_some ∙ e) },
        k,
        subst (λ c. number ≡ counted_on k c) counted is,
        subst (λ o. IfSome o (λ lines. HasFirstFlaw d lines k found)) is_some first,
      )

  -- a failed read behind the deck
  cut_off_from : (text : Option (List ℕ)) (before : ReaderState) (left left' : Option (List ℕ)) (n n' : ℕ)
      → IfSome text (λ t. IsDeckOf form t d count) → LeftBehind text (lines_left before.kept left) → IsReportEndedBy d before left left' n n' → IfSome text (IsReportCutOff form left' n n')
  cut_off_from None before left left' n n' deck e cut = tt
  cut_off_from (Some t) before left left' n n' deck e cut = by (lines_left cut.kept cut.left_behind) refl
    where
      by : (o : Option (List Line)) → lines_left cut.kept cut.left_behind ≡ o → IsReportCutOff form left' n n' t
      by None is_none = absurd (cc (sym (cut.all ∙ ap (option_map (λ rest. cut.lines ++ rest)) is_none) ∙ e))
      by (Some behind) is_some = record {
        d = d;
        lines = cut.lines;
        kept = cut.kept;
        left_behind = cut.left_behind;
        behind = behind;
        has = has_behind t deck (cut.lines ++ behind) (sym (cut.all ∙ ap (option_map (λ rest. cut.lines ++ rest)) is_some) ∙ e);
        rest = is_some;
        within = cut.within;
        expected = cut.expected;
        met = cut.met;
        fails = cut.fails;
      }

  either : (text left' : Option (List ℕ)) (n n' : ℕ) → IfSome text (IsReportCutOff form left' n n') → IsBothCause form text left' n n' refusal.Read
  either None left' n n' h = tt
  either (Some t) left' n n' h = inr h

  pub report_refused : (text : Option (List ℕ)) (before : ReaderState) (left left' : Option (List ℕ)) (n n' : ℕ) (f : ReportFault) → before.count ≡ count
      → IfSome text (λ t. IsDeckOf form t d count) → LeftBehind text (lines_left before.kept left) → IsReportCause d before left left' n n' f
      → IsBothCause form text left' n n' (refusal_of_report f)
  report_refused text before left left' n n' fault.Memory counted deck e cause = tt
  report_refused text before left left' n n' fault.Read counted deck e cause = either text left' n n' (cut_off_from text before left left' n n' deck e cause)
  report_refused text before left left' n n' (fault.At number found) counted deck e cause = flaw_from text before left number found counted deck e cause

-- the basis of a report of the deck is within it
pub basis_within : (d : Deck) (basis : Option Basis) → IfSome basis (IsBasisOf d) → IfSome basis (IsWithin d)
basis_within d None h = tt
basis_within d (Some b) h = record { basic = h.basic; upper = h.upper }
