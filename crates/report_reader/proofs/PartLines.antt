-- The parts of a report, from the calls that take their lines.
use Rattle.std.proofs.Common.{◌≡◌, ℕ, ◌-◌, ◌^◌, ◌<◌, List, [], ◌∷◌, ◌++◌, length, map, Option, None, Some, IfSome, Ok, Bool, true, false, refl, sym, ◌∙◌, ap, ap₂, subst, arith, append-nil, append_assoc}
use Rattle.std.specs.Prelude.{codes, is_some}
use Rattle.std.specs.List.{All}
use Rattle.std.proofs.lemmas.List.{length-map}
use Rattle.rational.specs.Rational.{ℚ}
use Rattle.rational.specs.Width.{FitsWidth}
use Rattle.lp_model.specs.Basis.{Basis}
use Rattle.lp_model.specs.Deck.{Deck}
use Rattle.lp_model.specs.declared.Entry.{Entry}
use Rattle.lp_model.specs.Outcome.{Outcome as Stated}
use Rattle.lp_text.specs.Fraction.{fraction_text}
use Rattle.lp_text.specs.Lines.{Line}
use Rattle.lp_text.specs.Report.{Report, report_lines, version_line, basis_lines, column_names, entry_line, log_lines, number_line, number_lines, outcome_lines, row_names, value_lines}
use Rattle.deck_model.specs.Outcome.{HasLengthsOf, outcome_of}
use Rattle.deck_model.specs.declared.outcome.Outcome.{Outcome}
use Rattle.mps_cards.specs.ReaderState.{ReaderState}
use Rattle.report_lines.specs.Judged.{IsCountLine, IsWithin}
use Rattle.report_lines.specs.FirstFlaw as expected
use Rattle.report_lines.specs.FirstFlaw.{Expected, bytes_of, column_total, repeated, sizes, values}
use Rattle.report_reader.specs.Reading.{AreNarrow, IsBasisOf, IsReportOf, IsRising}
use Rattle.report_reader.specs.Inner.Lines.{after_count, log_line, version_of}
use Rattle.report_reader.specs.Inner.Reads.{Moves, Reads}
use Rattle.report_reader.proofs.OneLine.{count_line}
use Rattle.report_reader.proofs.Taking.{SoFar, also}

-- ── the names of a deck ──

pub names_length : (d : Deck) → length (column_names d) ≡ length d.columns
names_length d = length-map d.columns (λ c. c.name)

pub row_names_length : (d : Deck) → length (row_names d) ≡ length d.rows
row_names_length d = length-map d.rows (λ r. r.name)

-- ── what the lines of parts say ──

abbrev pub IsValues : List ℕ → List (List ℕ) → List ℚ → List (List ℕ) → Type 0
IsValues word names v ls = ((length v ≡ length names) × All (FitsWidth 127) v) × (ls ≡ value_lines word v names)

-- the lists have the deck's lengths, and their fractions are those of 128 bits
abbrev IsOutcomeOf : Deck → Stated → Type 0
IsOutcomeOf d o = HasLengthsOf d o × AreNarrow o

-- the lines behind that of the outcome's kind
abbrev pub IsOutcome : Deck → List ℕ → Outcome → List (List ℕ) → Type 0
IsOutcome d kind o ls = IsOutcomeOf d (outcome_of o) × (kind ∷ ls ≡ outcome_lines d (outcome_of o))

-- the line of the objective
abbrev pub IsObjective : ℚ → List (List ℕ) → Type 0
IsObjective v ls = (ls ≡ (codes "OBJECTIVE " ++ fraction_text v) ∷ []) × FitsWidth 127 v

-- the lines of the objective and of a point
abbrev pub IsObjectiveAnd : Deck → ℚ → List ℚ → List (List ℕ) → Type 0
IsObjectiveAnd d v x ls = ((length x ≡ length (column_names d)) × All (FitsWidth 127) x × FitsWidth 127 v) × (ls ≡ (codes "OBJECTIVE " ++ fraction_text v) ∷ value_lines (codes "VALUE") x (column_names d))

abbrev pub IsFinished : Deck → Option (List Entry) → List (List ℕ) → Type 0
IsFinished d log ls = IfSome log (All (IsWithin (column_total d) (length d.rows))) × (ls ≡ log_lines log ++ codes "END" ∷ [])

abbrev pub IsBasis : Deck → Bool → Option Basis → List (List ℕ) → Type 0
IsBasis d tells b ls = (is_some b ≡ tells) × IfSome b (IsBasisOf d) × (ls ≡ basis_lines b)

abbrev pub IsCounted : Option ℕ → List (List ℕ) → Type 0
IsCounted count ls = (line : List ℕ) × (ls ≡ line ∷ []) × log_line line count

-- ── the whole ──

version_is : (b : Option Basis) (tells : Bool) → is_some b ≡ tells → version_of tells ≡ version_line b
version_is None true e = absurd (cc)
version_is None false e = refl
version_is (Some b) true e = refl
version_is (Some b) false e = absurd (cc)

abbrev pub IsHead : Deck → Bool → List (List ℕ) → Type 0
IsHead d tells ls = ls ≡ version_of tells ∷ (codes "DECK " ++ d.name) ∷ []

abbrev pub IsHeadAnd : Deck → Bool → Stated → List (List ℕ) → Type 0
IsHeadAnd d tells o ls = IsOutcomeOf d o × (ls ≡ version_of tells ∷ (codes "DECK " ++ d.name) ∷ outcome_lines d o)

abbrev pub IsUpToLog : Deck → Bool → Stated → Option Basis → List (List ℕ) → Type 0
IsUpToLog d tells o b ls =
    IsOutcomeOf d o × (is_some b ≡ tells) × IfSome b (IsBasisOf d) × (ls ≡ version_of tells ∷ (codes "DECK " ++ d.name) ∷ outcome_lines d o ++ basis_lines b)

abbrev pub IsWhole : Deck → Report → List (List ℕ) → Type 0
IsWhole d report ls = IsReportOf d report × (ls ≡ report_lines d report)

pub whole_lines : (d : Deck) (tells : Bool) (o : Stated) (b : Option Basis) (log : Option (List Entry)) (ls ms : List (List ℕ)) → IsUpToLog d tells o
    b ls → IsFinished d log ms
    → IsWhole d (record { outcome = o; basis = b; log = log }) (ls ++ ms)
whole_lines d tells o b log ls ms h k = (
  record { lengths = h.0.0; narrow = h.0.1; basis = h.2; log = k.0 },
  ap₂ (λ (p q : List (List ℕ)). p ++ q) h.3 k.1
      ∙ ap (λ v. (v ∷ (codes "DECK " ++ d.name) ∷ outcome_lines d o ++ basis_lines b) ++ (log_lines log ++ codes "END" ∷ [])) (version_is b tells h.1)
      ∙ sym (append_assoc (version_line b ∷ (codes "DECK " ++ d.name) ∷ outcome_lines d o ++ basis_lines b) (log_lines log) (codes "END" ∷ [])),
)

module _ {S : Type 0} (d : Deck) (remaining : S → Option (List ℕ)) (fault_count : S → ℕ) (before : ReaderState) (old : S) where
  -- ── the log ──

  -- so many lines were taken that their count is no count of 64 bits that stands still
  few_lines : (count : ℕ) (log : List Entry) (mid after : ReaderState) (left left' : Option (List ℕ)) (lines : List Line) → Moves mid after left left' lines
      → bytes_of lines ≡ map entry_line log → length log ≡ count → count < 2 ^ 64 - 1
  few_lines count log mid after left left' lines moves is n =
      let as_many : length lines ≡ length log = sym (length-map lines (λ l. l.bytes)) ∙ ap length is ∙ length-map log entry_line in
      omega (arith, as_many, n, moves.sized, moves.since, moves.ready.within)

  abbrev pub IsLog : List Entry → List (List ℕ) → Type 0
  IsLog log ls = All (IsWithin (column_total d) (length d.rows)) log × (ls ≡ log_lines (Some log))

  pub logged : (mid after : ReaderState) (source new : S) (count : ℕ) (log : List Entry)
      → SoFar d remaining fault_count before old mid source (expected.log_or_end ∷ []) (after_count (Some count)) (IsCounted (Some count))
      → Reads d remaining fault_count mid after source new (repeated expected.entry count) (λ _. [])
      (λ log ls. (length log ≡ count) × All (IsWithin (column_total d) (length d.rows)) log × (ls ≡ map entry_line log)) (Ok log)
      → SoFar d remaining fault_count before old after new (expected.log_or_end ∷ []) (expected.end ∷ []) (IsLog log)
  logged mid after source new count log so_far reads =
      also d remaining fault_count before old mid after source new (expected.log_or_end ∷ []) (repeated expected.entry count) (expected.end ∷ [])
      (after_count (Some count)) refl (λ _. []) (IsCounted (Some count))
      (λ log ls. (length log ≡ count) × All (IsWithin (column_total d) (length d.rows)) log × (ls ≡ map entry_line log)) so_far (IsLog log)
      (λ ls ms a b. (b.1, ap₂ (λ (x y : List (List ℕ)). x ++ y) (a.1 ∙ ap (λ l. l ∷ []) (is_line a.0 a.2)) b.2)) reads
    where
      is_line : (line : List ℕ) → IsCountLine (codes "LOG") line count → line ≡ number_line (codes "LOG") (length log)
      is_line line h =
          let holds = reads.found.holds in
          count_line (codes "LOG") line count h (few_lines count log mid after (remaining source) (remaining new) reads.found.lines reads.found.moves holds.2 holds.0)
          ∙ ap (number_line (codes "LOG")) (sym holds.0)

  -- ── the basis ──

  abbrev pub IsTold : List ℕ → List (List ℕ) → Type 0
  IsTold basic ls = (length basic ≡ length d.rows) × All (λ q. q < column_total d) basic × (ls ≡ number_lines (codes "BASIS") (codes "BASIC") basic)

  pub basic_told : (mid after : ReaderState) (source new : S) (basic : List ℕ)
      → SoFar d remaining fault_count before old mid source (expected.basis ∷ expected.upper ∷ []) (repeated expected.basic (length d.rows) ++ expected.upper ∷ [])
      (λ ls. ls ≡ number_line (codes "BASIS") (length d.rows) ∷ [])
      → Reads d remaining fault_count mid after source new (repeated expected.basic (length d.rows)) (λ _. [])
      (λ b ls. (length b ≡ length d.rows) × All (λ q. q < column_total d) b × (ls ≡ map (number_line (codes "BASIC")) b)) (Ok basic)
      → SoFar d remaining fault_count before old after new (expected.basis ∷ expected.upper ∷ []) (expected.upper ∷ []) (IsTold basic)
  basic_told mid after source new basic so_far reads =
      also d remaining fault_count before old mid after source new (expected.basis ∷ expected.upper ∷ []) (repeated expected.basic (length d.rows)) (expected.upper ∷ [])
      (repeated expected.basic (length d.rows) ++ expected.upper ∷ []) refl (λ _. []) (λ ls. ls ≡ number_line (codes "BASIS") (length d.rows) ∷ [])
      (λ b ls. (length b ≡ length d.rows) × All (λ q. q < column_total d) b × (ls ≡ map (number_line (codes "BASIC")) b)) so_far (IsTold basic)
      (λ ls ms a b. (b.0, b.1, ap₂ (λ (x y : List (List ℕ)). x ++ y) (a ∙ ap (λ n. number_line (codes "BASIS") n ∷ []) (sym b.0)) b.2)) reads

  abbrev pub IsToldWith : List ℕ → ℕ → List (List ℕ) → Type 0
  IsToldWith basic count ls = (length basic ≡ length d.rows) × All (λ q. q < column_total d) basic
      × (ls ≡ number_lines (codes "BASIS") (codes "BASIC") basic ++ number_line (codes "UPPER") count ∷ [])

  pub upper_counted : (mid after : ReaderState) (source new : S) (basic : List ℕ) (count : ℕ)
      → SoFar d remaining fault_count before old mid source (expected.basis ∷ expected.upper ∷ []) (expected.upper ∷ []) (IsTold basic)
      → Reads d remaining fault_count mid after source new (expected.upper ∷ []) (λ count. repeated (expected.at 0) count)
      (λ count ls. ls ≡ number_line (codes "UPPER") count ∷ []) (Ok count)
      → SoFar d remaining fault_count before old after new (expected.basis ∷ expected.upper ∷ []) (repeated (expected.at 0) count) (IsToldWith basic count)
  upper_counted mid after source new basic count so_far reads =
      subst (λ F. SoFar d remaining fault_count before old after new (expected.basis ∷ expected.upper ∷ []) F (IsToldWith basic count))
      (append-nil (repeated (expected.at 0) count))
      (also d remaining fault_count before old mid after source new (expected.basis ∷ expected.upper ∷ []) (expected.upper ∷ []) [] (expected.upper ∷ []) refl
      (λ count. repeated (expected.at 0) count) (IsTold basic) (λ count ls. ls ≡ number_line (codes "UPPER") count ∷ []) so_far (IsToldWith basic count)
      (λ ls ms a b. (a.0, a.1, ap₂ (λ (x y : List (List ℕ)). x ++ y) a.2 b)) reads)

  abbrev pub IsToldBasis : Basis → List (List ℕ) → Type 0
  IsToldBasis b ls = IsBasisOf d b × (ls ≡ basis_lines (Some b))

  pub basis_told : (mid after : ReaderState) (source new : S) (basic : List ℕ) (count : ℕ) (upper : List ℕ)
      → SoFar d remaining fault_count before old mid source (expected.basis ∷ expected.upper ∷ []) (repeated (expected.at 0) count) (IsToldWith basic count)
      → Reads d remaining fault_count mid after source new (repeated (expected.at 0) count) (λ _. [])
      (λ u ls. (length u ≡ count) × All (λ q. q < column_total d) u × IsRising u × (ls ≡ map (number_line (codes "AT")) u)) (Ok upper)
      → SoFar d remaining fault_count before old after new (expected.basis ∷ expected.upper ∷ []) [] (IsToldBasis (record { basic = basic; upper = upper }))
  basis_told mid after source new basic count upper so_far reads =
      also d remaining fault_count before old mid after source new (expected.basis ∷ expected.upper ∷ []) (repeated (expected.at 0) count) []
      (repeated (expected.at 0) count)
      (sym (append-nil (repeated (expected.at 0) count))) (λ _. []) (IsToldWith basic count)
      (λ u ls. (length u ≡ count) × All (λ q. q < column_total d) u × IsRising u × (ls ≡ map (number_line (codes "AT")) u)) so_far
      (IsToldBasis (record { basic = basic; upper = upper }))
      (λ ls ms a b. (
        record { one_each = a.0; basic = a.1; upper = b.1; rising = b.2 },
        ap₂ (λ (x y : List (List ℕ)). x ++ y) (a.2 ∙ ap (λ n. number_lines (codes "BASIS") (codes "BASIC") basic ++ number_line (codes "UPPER") n ∷ []) (sym b.0)) b.3
            ∙ append_assoc (number_lines (codes "BASIS") (codes "BASIC") basic) (number_line (codes "UPPER") (length upper) ∷ []) (map (number_line (codes "AT")) upper),
      )) reads
