-- The report: the text that states an outcome.
use Rattle.std.specs.Prelude.{ℕ, List, [], ◌∷◌, ◌++◌, map, length, Option, Some, None, codes, get_or}
use Rattle.std.specs.Fmt.{decimal}
use Rattle.rational.specs.Rational.{ℚ}
use Rattle.rational.specs.Sum.{at}
use Rattle.lp_model.specs.declared.Entry.{Entry}
use Rattle.lp_model.specs.declared.Entry.TheVariants.{Flip, Swap, Turn}
use Rattle.lp_model.specs.declared.Side.{Side}
use Rattle.lp_model.specs.declared.Side.TheVariants as side
use Rattle.lp_model.specs.Basis.{Basis}
use Rattle.lp_model.specs.Deck.{Deck}
use Rattle.rational.specs.Sparse.{upto}
use Rattle.lp_model.specs.Outcome.{Outcome, infeasible, optimal, unbounded}
use Rattle.lp_text.specs.Fraction.{fraction_text}
use Rattle.lp_text.specs.Lines.{text_of}

-- a word, a value and a name
abbrev pub value_line : List ℕ → ℚ → List ℕ → List ℕ
value_line word v name = word ++ 32 ∷ fraction_text v ++ 32 ∷ name

-- a line for each name, with the value of its index
abbrev pub value_lines : List ℕ → List ℚ → List (List ℕ) → List (List ℕ)
value_lines word values names = map (λ j. value_line word (at values j) (get_or names j [])) (upto (length names))

abbrev pub column_names : Deck → List (List ℕ)
column_names d = map (λ c. c.name) d.columns

abbrev pub row_names : Deck → List (List ℕ)
row_names d = map (λ r. r.name) d.rows

abbrev pub outcome_lines : Deck → Outcome → List (List ℕ)
outcome_lines d (optimal x y v) = codes "OPTIMAL" ∷ (codes "OBJECTIVE " ++ fraction_text v) ∷ value_lines (codes "VALUE") x (column_names d) ++ value_lines (codes "PRICE") y (row_names d)
outcome_lines d (infeasible y) = codes "INFEASIBLE" ∷ value_lines (codes "FARKAS") y (row_names d)
outcome_lines d (unbounded x r) = codes "UNBOUNDED" ∷ value_lines (codes "VALUE") x (column_names d) ++ value_lines (codes "RAY") r (column_names d)

abbrev pub side_word : Side → List ℕ
side_word side.Lower = codes "LOWER"
side_word side.Upper = codes "UPPER"

abbrev pub entry_line : Entry → List ℕ
entry_line (Flip q) = codes "FLIP " ++ decimal q
entry_line (Swap q p end) = codes "SWAP " ++ decimal q ++ 32 ∷ decimal p ++ 32 ∷ side_word end
entry_line Turn = codes "TURN"

-- the log's lines, where a log is given
abbrev pub log_lines : Option (List Entry) → List (List ℕ)
log_lines None = []
log_lines (Some log) = (codes "LOG " ++ decimal (length log)) ∷ map entry_line log

-- a word and a number
abbrev pub number_line : List ℕ → ℕ → List ℕ
number_line word n = word ++ 32 ∷ decimal n

-- a word with how many numbers follow, and each of them behind another word
abbrev pub number_lines : List ℕ → List ℕ → List ℕ → List (List ℕ)
number_lines count_word word numbers = number_line count_word (length numbers) ∷ map (number_line word) numbers

-- the basis's lines, where a basis is given
abbrev pub basis_lines : Option Basis → List (List ℕ)
basis_lines None = []
basis_lines (Some basis) = number_lines (codes "BASIS") (codes "BASIC") basis.basic ++ number_lines (codes "UPPER") (codes "AT") basis.upper

-- a report that tells a basis is of version 2
abbrev pub version_line : Option Basis → List ℕ
version_line None = codes "LPCERT 1"
version_line (Some basis) = codes "LPCERT 2"

-- what a report states of a deck
pub record Report : Type 0 where
  pub outcome : Outcome
  pub basis : Option Basis
  pub log : Option (List Entry)

abbrev pub report_lines : Deck → Report → List (List ℕ)
report_lines d report =
    version_line report.basis ∷ (codes "DECK " ++ d.name) ∷ outcome_lines d report.outcome ++ basis_lines report.basis ++ log_lines report.log ++ codes "END" ∷ []

-- the text of a report of a deck
abbrev pub text_of_report : Deck → Report → List ℕ
text_of_report d report = text_of (report_lines d report)

-- the report of a deck's outcome without a basis, with its log where one is given
abbrev pub report_text : Deck → Outcome → Option (List Entry) → List ℕ
report_text d o log = text_of_report d (record { outcome = o; basis = None; log = log })
