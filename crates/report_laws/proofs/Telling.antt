-- A text tells one report, or it has one first flaw.
use Rattle.std.proofs.Common.{◌≡◌, ℕ, ◌+◌, ◌^◌, ◌<◌, List, [], ◌∷◌, ◌++◌, length, map, Option, None, Some, IfSome, Result, Ok, Err, refl, sym, ◌∙◌, ap, subst, arith, length-append}
use Rattle.std.specs.Prelude.{codes}
use Rattle.std.specs.Fmt.{decimal}
use Rattle.std.specs.List.{All}
use Rattle.std.proofs.lemmas.List.{length-map}
use Rattle.std.proofs.lemmas.List.Elements.{All-append, All-cons, All-head, All-map, All-nil, All-tail}
use Rattle.rational.specs.Rational.{ℚ}
use Rattle.rational.specs.Width.{FitsWidth}
use Rattle.lp_model.specs.Basis.{Basis}
use Rattle.lp_model.specs.Deck.{Deck}
use Rattle.lp_model.specs.Outcome.{Outcome, infeasible, optimal, unbounded}
use Rattle.lp_model.specs.declared.Entry.{Entry}
use Rattle.lp_model.specs.declared.Entry.TheVariants.{Flip, Swap, Turn}
use Rattle.lp_model.specs.declared.Side.TheVariants as side
use Rattle.deck_model.specs.Outcome.{HasLengthsOf}
use Rattle.lp_text.specs.Fraction.{fraction_text}
use Rattle.lp_text.specs.Lines.{lines_of}
use Rattle.lp_text.specs.Report.{Report, basis_lines, column_names, entry_line, log_lines, number_line, number_lines, outcome_lines, report_lines, row_names, value_line, value_lines, version_line}
use Rattle.report_lines.specs.Judged.{IsWithin}
use Rattle.report_lines.specs.FirstFlaw.{HasFirstFlaw, Reaches, bytes_of, column_total, version}
use Rattle.report_reader.specs.Reading.{AreNarrow, IsBasisOf}
use Rattle.report_reader.proofs.ListLines.{so_far, so_far_all}
use Rattle.report_reader.proofs.PartLines.{names_length, row_names_length}
use Rattle.report_lines.specs.declared.flaw.Flaw.{Flaw}
use Rattle.report_laws.specs.Told.{IsAnswer, IsInLine, IsTellable, Tells}
use Rattle.report_laws.proofs.InLines.{IsFeedless, decimal_feedless, feedless, feedless-append, few_lines, fraction_feedless, lines_are, value_feedless}
use Rattle.report_laws.proofs.OneEnd.{one_first_flaw, whole_flawless}
use Rattle.report_laws.proofs.OneReport.{one_report}
use Rattle.report_laws.proofs.Reported.{HasFew, few_upper, told_report}

-- ── no line of a report has a line feed ──

values_feedless : (word : List ℕ) (vs : List ℚ) (names : List (List ℕ)) → IsFeedless word → All (FitsWidth 127) vs → All IsInLine names → All IsFeedless (so_far word vs names)
values_feedless word [] names h fits free = All-nil IsFeedless
values_feedless word (v ∷ vs) [] h fits free = All-nil IsFeedless
values_feedless word (v ∷ vs) (name ∷ names) h fits free =
    All-cons IsFeedless (value_line word v name) (so_far word vs names)
    (value_feedless word v name h (All-head (FitsWidth 127) v vs fits) (feedless name (All-head IsInLine name names free)))
    (values_feedless word vs names h (All-tail (FitsWidth 127) v vs fits) (All-tail IsInLine name names free))

list_feedless : (word : List ℕ) (vs : List ℚ) (names : List (List ℕ)) → length vs ≡ length names → IsFeedless word → All (FitsWidth 127) vs → All IsInLine names
    → All IsFeedless (value_lines word vs names)
list_feedless word vs names same h fits free = subst (All IsFeedless) (so_far_all word vs names same) (values_feedless word vs names h fits free)

number_feedless : (word : List ℕ) (n : ℕ) → IsFeedless word → n < 2 ^ 64 → IsFeedless (number_line word n)
number_feedless word n h below = feedless-append word (32 ∷ decimal n) h (decimal_feedless n (omega arith))

module _ (d : Deck) (tellable : IsTellable d) where
  numbers_feedless : (word : List ℕ) (xs : List ℕ) → IsFeedless word → All (λ q. q < column_total d) xs → All IsFeedless (map (number_line word) xs)
  numbers_feedless word xs h below =
      All-map IsFeedless (number_line word) xs
      (λ k q within. let small = below k q within in number_feedless word _ h (omega (arith, small, tellable.numbered)))

  entry_feedless : (e : Entry) → IsWithin (column_total d) (length d.rows) e → IsFeedless (entry_line e)
  entry_feedless (Flip q) within = number_feedless (codes "FLIP") q refl (omega (arith, within, tellable.numbered))
  entry_feedless (Swap q p side.Lower) within =
      feedless-append (codes "SWAP " ++ decimal q ++ 32 ∷ decimal p) (32 ∷ codes "LOWER")
      (feedless-append (codes "SWAP " ++ decimal q) (32 ∷ decimal p)
      (number_feedless (codes "SWAP") q refl (omega (arith, within, tellable.numbered))) (decimal_feedless p (omega (arith, within, tellable.numbered)))) refl
  entry_feedless (Swap q p side.Upper) within =
      feedless-append (codes "SWAP " ++ decimal q ++ 32 ∷ decimal p) (32 ∷ codes "UPPER")
      (feedless-append (codes "SWAP " ++ decimal q) (32 ∷ decimal p)
      (number_feedless (codes "SWAP") q refl (omega (arith, within, tellable.numbered))) (decimal_feedless p (omega (arith, within, tellable.numbered)))) refl
  entry_feedless Turn within = refl

  version_feedless : (b : Option Basis) → IsFeedless (version_line b)
  version_feedless None = refl
  version_feedless (Some b) = refl

  outcome_feedless : (o : Outcome) → HasLengthsOf d o → AreNarrow o → All IsFeedless (outcome_lines d o)
  outcome_feedless (optimal x y v) lengths narrow =
      All-append IsFeedless (codes "OPTIMAL" ∷ (codes "OBJECTIVE " ++ fraction_text v) ∷ value_lines (codes "VALUE") x (column_names d))
      (value_lines (codes "PRICE") y (row_names d))
      (All-cons IsFeedless (codes "OPTIMAL") ((codes "OBJECTIVE " ++ fraction_text v) ∷ value_lines (codes "VALUE") x (column_names d)) refl
      (All-cons IsFeedless (codes "OBJECTIVE " ++ fraction_text v) (value_lines (codes "VALUE") x (column_names d)) (feedless-append (codes "OBJECTIVE ") (fraction_text v) refl (fraction_feedless v narrow.2))
      (list_feedless (codes "VALUE") x (column_names d) (lengths.0 ∙ sym (names_length d)) refl narrow.0 tellable.columns)))
      (list_feedless (codes "PRICE") y (row_names d) (lengths.1 ∙ sym (row_names_length d)) refl narrow.1 tellable.rows)
  outcome_feedless (infeasible y) lengths narrow =
      All-cons IsFeedless (codes "INFEASIBLE") (value_lines (codes "FARKAS") y (row_names d)) refl
      (list_feedless (codes "FARKAS") y (row_names d) (lengths ∙ sym (row_names_length d)) refl narrow tellable.rows)
  outcome_feedless (unbounded x ray) lengths narrow =
      All-append IsFeedless (codes "UNBOUNDED" ∷ value_lines (codes "VALUE") x (column_names d)) (value_lines (codes "RAY") ray (column_names d))
      (All-cons IsFeedless (codes "UNBOUNDED") (value_lines (codes "VALUE") x (column_names d)) refl
      (list_feedless (codes "VALUE") x (column_names d) (lengths.0 ∙ sym (names_length d)) refl narrow.0 tellable.columns))
      (list_feedless (codes "RAY") ray (column_names d) (lengths.1 ∙ sym (names_length d)) refl narrow.1 tellable.columns)

  basis_feedless : (b : Option Basis) → IfSome b (IsBasisOf d) → All IsFeedless (basis_lines b)
  basis_feedless None is = All-nil IsFeedless
  basis_feedless (Some b) is =
      let most = few_upper d b is in
      All-append IsFeedless (number_lines (codes "BASIS") (codes "BASIC") b.basic) (number_lines (codes "UPPER") (codes "AT") b.upper)
      (All-cons IsFeedless (number_line (codes "BASIS") (length b.basic)) (map (number_line (codes "BASIC")) b.basic)
      (number_feedless (codes "BASIS") (length b.basic) refl (omega (arith, is.one_each, tellable.numbered)))
      (numbers_feedless (codes "BASIC") b.basic refl is.basic))
      (All-cons IsFeedless (number_line (codes "UPPER") (length b.upper)) (map (number_line (codes "AT")) b.upper)
      (number_feedless (codes "UPPER") (length b.upper) refl (omega (arith, most, tellable.numbered)))
      (numbers_feedless (codes "AT") b.upper refl is.upper))

  log_feedless : (log : Option (List Entry)) → IfSome log (All (IsWithin (column_total d) (length d.rows))) → HasFew d tellable.numbered log → All IsFeedless (log_lines log)
  log_feedless None within few = All-nil IsFeedless
  log_feedless (Some log) within few =
      All-cons IsFeedless (number_line (codes "LOG") (length log)) (map entry_line log) (number_feedless (codes "LOG") (length log) refl few)
      (All-map IsFeedless entry_line log (λ k e inside. entry_feedless _ (within k e inside)))

  -- a log of which the lines are few has few entries
  few_log : (log : Option (List Entry)) (others all : ℕ) → all ≡ others + length (log_lines log) → all < 2 ^ 63 → HasFew d tellable.numbered log
  few_log None others all sum few = tt
  few_log (Some log) others all sum few = let same = length-map log entry_line in omega (arith, same)

  -- the lines of a report but the last
  abbrev body : Report → List (List ℕ)
  body report = version_line report.basis ∷ (codes "DECK " ++ d.name) ∷ outcome_lines d report.outcome ++ basis_lines report.basis ++ log_lines report.log

  module _ (text : List ℕ) (report : Report) (tells : Tells d text report) where
    before_log : List (List ℕ)
    before_log = version_line report.basis ∷ (codes "DECK " ++ d.name) ∷ outcome_lines d report.outcome ++ basis_lines report.basis

    few : HasFew d tellable.numbered report.log
    unfolding before_log
    few =
        let lines = few_lines (report_lines d report) text tells.is_text.is in
        let last = length-append (body report) (codes "END" ∷ []) in
        let most = tells.is_text.within.few in
        few_log report.log (length before_log) (length (body report)) (length-append before_log (log_lines report.log)) (omega (arith, lines, last, most))

    feedless_body : All IsFeedless (body report)
    feedless_body =
        All-append IsFeedless (version_line report.basis ∷ (codes "DECK " ++ d.name) ∷ outcome_lines d report.outcome ++ basis_lines report.basis) (log_lines report.log)
        (All-append IsFeedless (version_line report.basis ∷ (codes "DECK " ++ d.name) ∷ outcome_lines d report.outcome) (basis_lines report.basis)
        (All-cons IsFeedless (version_line report.basis) ((codes "DECK " ++ d.name) ∷ outcome_lines d report.outcome) (version_feedless report.basis)
        (All-cons IsFeedless (codes "DECK " ++ d.name) (outcome_lines d report.outcome) (feedless-append (codes "DECK ") d.name refl (feedless d.name tellable.name))
        (outcome_feedless report.outcome tells.is_of.lengths tells.is_of.narrow)))
        (basis_feedless report.basis tells.is_of.basis))
        (log_feedless report.log tells.is_of.log few)

    pub told_lines : bytes_of (lines_of text) ≡ report_lines d report
    told_lines = lines_are (body report) feedless_body text tells.is_text.is

    pub told_few : HasFew d tellable.numbered report.log
    told_few = few

    told_flawless : (line : ℕ) (found : Flaw) → HasFirstFlaw d (lines_of text) line found → ⊥
    told_flawless line found h =
        whole_flawless d tellable.numbered (lines_of text) line found
        (subst (λ ls. Reaches d (version ∷ []) ls []) (sym told_lines) (told_report d tellable.numbered report tells.is_of few)) tells.is_text.within h

  one_telling : (text : List ℕ) (r s : Report) → Tells d text r → Tells d text s → r ≡ s
  one_telling text r s h k =
      one_report d tellable.numbered r s h.is_of k.is_of (told_few text r h) (told_few text s k) (sym (told_lines text r h) ∙ told_lines text s k)

pub one_answer : (d : Deck) (text : List ℕ) (a b : Result Report (ℕ × Flaw)) → IsTellable d → IsAnswer d text a → IsAnswer d text b → a ≡ b
one_answer d text (Ok r) (Ok s) tellable h k = ap Ok (one_telling d tellable text r s h k)
one_answer d text (Ok r) (Err (n, g)) tellable h k = absurd (told_flawless d tellable text r h n g k)
one_answer d text (Err (m, f)) (Ok s) tellable h k = absurd (told_flawless d tellable text s k m f h)
one_answer d text (Err (m, f)) (Err (n, g)) tellable h k =
    let both = one_first_flaw d tellable.numbered (lines_of text) m n f g h k in
    let first : m ≡ n = both.0 in
    let second : f ≡ g = both.1 in
    cc
