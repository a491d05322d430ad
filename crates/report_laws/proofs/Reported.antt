-- The lines of a report are as expected, from the first to the last.
use Rattle.std.proofs.Common.{◌≡◌, inl, inr, ℕ, suc, ◌+◌, ◌^◌, ◌<◌, ◌≤◌, List, [], ◌∷◌, ◌++◌, length, map, get_or, Option, None, Some, IfSome, refl, sym, ◌∙◌, subst, arith, append-nil, append_assoc}
use Rattle.std.specs.Prelude.{codes}
use Rattle.std.specs.List.{All}
use Rattle.std.proofs.lemmas.List.Elements.{All-head, All-tail}
use Rattle.rational.specs.Rational.{ℚ}
use Rattle.rational.specs.Width.{FitsWidth}
use Rattle.lp_model.specs.Basis.{Basis}
use Rattle.lp_model.specs.Deck.{Deck}
use Rattle.lp_model.specs.Outcome.{Outcome, infeasible, optimal, unbounded}
use Rattle.lp_model.specs.declared.Entry.{Entry}
use Rattle.deck_model.specs.Outcome.{HasLengthsOf}
use Rattle.lp_text.specs.Report.{Report, basis_lines, column_names, entry_line, log_lines, number_line, number_lines, outcome_lines, report_lines, row_names, value_lines, version_line}
use Rattle.report_lines.specs.Judged.{IsWithin}
use Rattle.report_lines.specs.FirstFlaw as expected
use Rattle.report_lines.specs.FirstFlaw.{Expected, Reaches, at, basic, basis, column_total, end, entry, kind, log_or_end, objective, repeated, title, upper, value, values, version}
use Rattle.report_reader.specs.Reading.{AreNarrow, IsBasisOf, IsReportOf, IsRising}
use Rattle.report_reader.proofs.ListLines.{so_far, so_far_all}
use Rattle.report_reader.proofs.Moving.{reaches_then}
use Rattle.report_reader.proofs.PartLines.{names_length, row_names_length}
use Rattle.report_laws.proofs.LineParts.{count_told}

-- ── numbers that rise ──

abbrev RiseFrom : ℕ → List ℕ → Type 0
RiseFrom least [] = Unit {0}
RiseFrom least (x ∷ xs) = (least ≤ x) × RiseFrom (x + 1) xs

rise_from : (xs : List ℕ) (least : ℕ) → IsRising xs → (0 < length xs → least ≤ get_or xs 0 0) → RiseFrom least xs
rise_from [] least rising first = tt
rise_from (x ∷ xs) least rising first = (
  first (omega arith),
  rise_from xs (x + 1)
      (λ i within. let e : suc i + 1 ≡ suc (i + 1) = omega arith in
      let next : get_or (x ∷ xs) (suc i) 0 < get_or (x ∷ xs) (suc i + 1) 0 = rising (suc i) (omega arith) in
      subst (λ k. get_or xs i 0 < get_or (x ∷ xs) k 0) e next)
      (λ some. let next : x < get_or (x ∷ xs) (0 + 1) 0 = rising 0 (omega arith) in omega (arith, next)),
)

-- there are no more than the numbers they are among
few_that_rise : (xs : List ℕ) (least n : ℕ) → RiseFrom least xs → All (λ q. q < n) xs → least ≤ n → length xs + least ≤ n
few_that_rise [] least n h below most = omega arith
few_that_rise (x ∷ xs) least n h below most =
    let first = All-head (λ q. q < n) x xs below in
    let rest = few_that_rise xs (x + 1) n h.1 (All-tail (λ q. q < n) x xs below) (omega (arith, first)) in
    omega (arith, h.0, rest)

pub few_upper : (d : Deck) (b : Basis) → IsBasisOf d b → length b.upper ≤ column_total d
few_upper d b is =
    let few = few_that_rise b.upper 0 (column_total d) (rise_from b.upper 0 is.rising (λ _. omega arith)) is.upper (omega arith) in
    omega (arith, few)

module _ (d : Deck) (numbered : column_total d < 2 ^ 64) where
  -- ── lists ──

  listed_values : (word : List ℕ) (vs : List ℚ) (names : List (List ℕ)) (rest : List Expected) → length vs ≡ length names → All (FitsWidth 127) vs
      → Reaches d (values word names ++ rest) (so_far word vs names) rest
  listed_values word [] [] rest same fits = refl
  listed_values word [] (name ∷ names) rest same fits = absurd (omega arith)
  listed_values word (v ∷ vs) [] rest same fits = absurd (omega arith)
  listed_values word (v ∷ vs) (name ∷ names) rest same fits =
      ([], (v, All-head (FitsWidth 127) v vs fits, refl, refl), listed_values word vs names rest (omega arith) (All-tail (FitsWidth 127) v vs fits))

  told_values : (word : List ℕ) (vs : List ℚ) (names : List (List ℕ)) (rest : List Expected) → length vs ≡ length names → All (FitsWidth 127) vs
      → Reaches d (values word names ++ rest) (value_lines word vs names) rest
  told_values word vs names rest same fits =
      subst (λ ls. Reaches d (values word names ++ rest) ls rest) (so_far_all word vs names same) (listed_values word vs names rest same fits)

  told_basics : (xs : List ℕ) (rest : List Expected) → All (λ q. q < column_total d) xs
      → Reaches d (repeated basic (length xs) ++ rest) (map (number_line (codes "BASIC")) xs) rest
  told_basics [] rest below = refl
  told_basics (x ∷ xs) rest below = (
    repeated basic (length xs),
    (x, All-head (λ q. q < column_total d) x xs below, refl, refl),
    told_basics xs rest (All-tail (λ q. q < column_total d) x xs below),
  )

  told_columns : (xs : List ℕ) (least : ℕ) (rest : List Expected) → RiseFrom least xs → All (λ q. q < column_total d) xs
      → Reaches d (repeated (at least) (length xs) ++ rest) (map (number_line (codes "AT")) xs) rest
  told_columns [] least rest rise below = refl
  told_columns (x ∷ xs) least rest rise below = (
    repeated (at (x + 1)) (length xs),
    (x, rise.0, All-head (λ q. q < column_total d) x xs below, refl, refl),
    told_columns xs (x + 1) rest rise.1 (All-tail (λ q. q < column_total d) x xs below),
  )

  told_entries : (log : List Entry) (rest : List Expected) → All (IsWithin (column_total d) (length d.rows)) log
      → Reaches d (repeated entry (length log) ++ rest) (map entry_line log) rest
  told_entries [] rest within = refl
  told_entries (e ∷ log) rest within = (
    repeated entry (length log),
    (e, All-head (IsWithin (column_total d) (length d.rows)) e log within, refl, refl),
    told_entries log rest (All-tail (IsWithin (column_total d) (length d.rows)) e log within),
  )

  -- ── parts ──

  column_values : (word : List ℕ) (vs : List ℚ) (rest : List Expected) → length vs ≡ length d.columns → All (FitsWidth 127) vs
      → Reaches d (values word (column_names d) ++ rest) (value_lines word vs (column_names d)) rest
  column_values word vs rest same fits = told_values word vs (column_names d) rest (same ∙ sym (names_length d)) fits

  row_values : (word : List ℕ) (vs : List ℚ) (rest : List Expected) → length vs ≡ length d.rows → All (FitsWidth 127) vs
      → Reaches d (values word (row_names d) ++ rest) (value_lines word vs (row_names d)) rest
  row_values word vs rest same fits = told_values word vs (row_names d) rest (same ∙ sym (row_names_length d)) fits

  -- two lists of values
  two_lists : (E F rest : List Expected) (ls ms : List (List ℕ)) → Reaches d (E ++ (F ++ rest)) ls (F ++ rest) → Reaches d (F ++ rest) ms rest
      → Reaches d ((E ++ F) ++ rest) (ls ++ ms) rest
  two_lists E F rest ls ms first second =
      reaches_then d ((E ++ F) ++ rest) (F ++ rest) rest ls ms (subst (λ G. Reaches d G ls (F ++ rest)) (sym (append_assoc E F rest)) first) second

  told_outcome : (o : Outcome) (rest : List Expected) → HasLengthsOf d o → AreNarrow o → Reaches d (kind ∷ rest) (outcome_lines d o) rest
  told_outcome (optimal x y v) rest lengths narrow = (
    objective ∷ values (codes "VALUE") (column_names d) ++ values (codes "PRICE") (row_names d),
    expected.optimal,
    (
      [],
      (v, narrow.2, refl, refl),
      two_lists (values (codes "VALUE") (column_names d)) (values (codes "PRICE") (row_names d)) rest
          (value_lines (codes "VALUE") x (column_names d)) (value_lines (codes "PRICE") y (row_names d))
          (column_values (codes "VALUE") x (values (codes "PRICE") (row_names d) ++ rest) lengths.0 narrow.0)
          (row_values (codes "PRICE") y rest lengths.1 narrow.1),
    ),
  )
  told_outcome (infeasible y) rest lengths narrow =
      (values (codes "FARKAS") (row_names d), expected.infeasible, row_values (codes "FARKAS") y rest lengths narrow)
  told_outcome (unbounded x ray) rest lengths narrow = (
    values (codes "VALUE") (column_names d) ++ values (codes "RAY") (column_names d),
    expected.unbounded,
    two_lists (values (codes "VALUE") (column_names d)) (values (codes "RAY") (column_names d)) rest
        (value_lines (codes "VALUE") x (column_names d)) (value_lines (codes "RAY") ray (column_names d))
        (column_values (codes "VALUE") x (values (codes "RAY") (column_names d) ++ rest) lengths.0 narrow.0)
        (column_values (codes "RAY") ray rest lengths.1 narrow.1),
  )

  told_basis : (b : Basis) (rest : List Expected) → IsBasisOf d b → Reaches d (basis ∷ upper ∷ rest) (basis_lines (Some b)) rest
  told_basis b rest is =
      let few : length b.basic < 2 ^ 64 = omega (arith, is.one_each) in
      let most = few_upper d b is in
      reaches_then d (basis ∷ upper ∷ rest) (upper ∷ rest) rest
      (number_lines (codes "BASIS") (codes "BASIC") b.basic) (number_lines (codes "UPPER") (codes "AT") b.upper)
      (subst (λ n. Reaches d (basis ∷ upper ∷ rest) (number_line (codes "BASIS") n ∷ map (number_line (codes "BASIC")) b.basic) (upper ∷ rest)) (sym is.one_each) (
        repeated basic (length d.rows),
        (count_told (codes "BASIS") (length d.rows) (omega (arith, few, is.one_each)), refl),
        subst (λ n. Reaches d (repeated basic n ++ (upper ∷ rest)) (map (number_line (codes "BASIC")) b.basic) (upper ∷ rest)) is.one_each
            (told_basics b.basic (upper ∷ rest) is.basic),
      )) (
        repeated (at 0) (length b.upper),
        (length b.upper, most, count_told (codes "UPPER") (length b.upper) (omega (arith, most)), refl),
        told_columns b.upper 0 rest (rise_from b.upper 0 is.rising (λ _. omega arith)) is.upper,
      )

  abbrev pub HasFew : Option (List Entry) → Type 0
  HasFew log = IfSome log (λ entries. length entries < 2 ^ 64)

  told_log : (log : Option (List Entry)) → IfSome log (All (IsWithin (column_total d) (length d.rows))) → HasFew log
      → Reaches d (log_or_end ∷ []) (log_lines log ++ codes "END" ∷ []) []
  told_log None within few = ([], inl (refl, refl), refl)
  told_log (Some log) within few = (
    repeated entry (length log) ++ end ∷ [],
    inr (length log, count_told (codes "LOG") (length log) few, refl),
    subst (λ E. Reaches d E (map entry_line log ++ codes "END" ∷ []) []) (sym (append-nil (repeated entry (length log) ++ end ∷ [])))
        (reaches_then d (repeated entry (length log) ++ end ∷ []) (end ∷ []) [] (map entry_line log) (codes "END" ∷ [])
        (told_entries log (end ∷ []) within) ([], (refl, refl), refl)),
  )

  -- ── the whole ──

  of_basis : Option Basis → List Expected → List Expected
  of_basis None rest = rest
  of_basis (Some b) rest = basis ∷ upper ∷ rest

  told_version : (b : Option Basis) (ls : List (List ℕ)) → Reaches d (title ∷ kind ∷ of_basis b (log_or_end ∷ [])) ls []
      → Reaches d (version ∷ []) (version_line b ∷ ls) []
  unfolding of_basis
  told_version None ls reaches = (title ∷ kind ∷ log_or_end ∷ [], inl (refl, refl), reaches)
  told_version (Some b) ls reaches = (title ∷ kind ∷ basis ∷ upper ∷ log_or_end ∷ [], inr (refl, refl), reaches)

  told_told : (b : Option Basis) (rest : List Expected) → IfSome b (IsBasisOf d) → Reaches d (of_basis b rest) (basis_lines b) rest
  unfolding of_basis
  told_told None rest is = refl
  told_told (Some b) rest is = told_basis b rest is

  -- the lines of a report, as they follow one another
  abbrev pub behind_version : Report → List (List ℕ)
  behind_version report =
      (codes "DECK " ++ d.name) ∷ (outcome_lines d report.outcome ++ (basis_lines report.basis ++ (log_lines report.log ++ codes "END" ∷ [])))

  pub report_lines-parts : (report : Report) → report_lines d report ≡ version_line report.basis ∷ behind_version report
  report_lines-parts report =
      append_assoc (((version_line report.basis ∷ (codes "DECK " ++ d.name) ∷ outcome_lines d report.outcome) ++ basis_lines report.basis)) (log_lines report.log) (codes "END" ∷ [])
      ∙ append_assoc (version_line report.basis ∷ (codes "DECK " ++ d.name) ∷ outcome_lines d report.outcome) (basis_lines report.basis)
      (log_lines report.log ++ codes "END" ∷ [])

  pub told_report : (report : Report) → IsReportOf d report → HasFew report.log → Reaches d (version ∷ []) (report_lines d report) []
  told_report report is few =
      subst (λ ls. Reaches d (version ∷ []) ls []) (sym (report_lines-parts report))
      (told_version report.basis (behind_version report) (
        [],
        (refl, refl),
        reaches_then d (kind ∷ of_basis report.basis (log_or_end ∷ [])) (of_basis report.basis (log_or_end ∷ [])) [] (outcome_lines d report.outcome)
            (basis_lines report.basis ++ (log_lines report.log ++ codes "END" ∷ []))
            (told_outcome report.outcome (of_basis report.basis (log_or_end ∷ [])) is.lengths is.narrow)
            (reaches_then d (of_basis report.basis (log_or_end ∷ [])) (log_or_end ∷ []) [] (basis_lines report.basis) (log_lines report.log ++ codes "END" ∷ [])
            (told_told report.basis (log_or_end ∷ []) is.basis) (told_log report.log is.log few)),
      ))
