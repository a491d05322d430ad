-- The first flaw of a text that is read as a report, with the number of its line: each line is judged by what is expected in its place.
use Rattle.std.specs.Prelude.{◌≡◌, ◌≢◌, ◌⊎◌, ℕ, zero, suc, ◌+◌, ◌<◌, ◌≤◌, List, [], ◌∷◌, ◌++◌, codes, length, map, sum}
use Rattle.std.specs.List.{All}
use Rattle.rational.specs.Rational.{ℚ}
use Rattle.rational.specs.Width.{FitsWidth}
use Rattle.lp_model.specs.Deck.{Deck}
use Rattle.lp_model.specs.declared.Entry.{Entry}
use Rattle.lp_text.specs.Fraction.{fraction_text}
use Rattle.lp_text.specs.Limits.{report_limit, report_line_limit}
use Rattle.lp_text.specs.Lines.{Line, size_of}
use Rattle.lp_text.specs.Report.{column_names, entry_line, number_line, row_names, value_line}
use Rattle.report_lines.specs.Judged.{IsCountFlaw, IsCountLine, IsEntryFlaw, IsFixedFlaw, IsIndexFlaw, IsObjectiveFlaw, IsTitleFlaw, IsValueFlaw, IsWithin, part}
use Rattle.report_lines.specs.declared.flaw.Flaw.{Flaw}
use Rattle.report_lines.specs.declared.flaw.Flaw.TheVariants as flaw

-- how many columns the method has: the structurals, and a logical and an artificial for each row
abbrev pub column_total : Deck → ℕ
column_total d = length d.columns + length d.rows + length d.rows

-- what is expected in a line
pub data Expected : Type 0 where
  version : Expected
  title : Expected
  kind : Expected
  objective : Expected
  value : List ℕ → List ℕ → Expected
  basis : Expected
  -- a basic column, and so many more after it
  basic : ℕ → Expected
  upper : Expected
  -- a column not below the bound, and so many more after it
  at : ℕ → ℕ → Expected
  -- the log's count, or the end
  log_or_end : Expected
  -- an entry, and so many more after it
  entry : ℕ → Expected
  end : Expected

abbrev pub values : List ℕ → List (List ℕ) → List Expected
values word names = map (λ name. value word name) names

-- the first of so many lines, each of which expects the next
abbrev pub repeated : (ℕ → Expected) → ℕ → List Expected
repeated expected zero = []
repeated expected (suc more) = expected more ∷ []

-- the lines that follow a line of a kind
pub data Follows (d : Deck) : List ℕ → List Expected → Type 0 where
  optimal : Follows d (codes "OPTIMAL") (objective ∷ values (codes "VALUE") (column_names d) ++ values (codes "PRICE") (row_names d))
  infeasible : Follows d (codes "INFEASIBLE") (values (codes "FARKAS") (row_names d))
  unbounded : Follows d (codes "UNBOUNDED") (values (codes "VALUE") (column_names d) ++ values (codes "RAY") (column_names d))

-- a line is as expected, and these are expected next in its place
abbrev pub Meets : Deck → Expected → List ℕ → List Expected → Type 0
Meets d version line next =
    ((line ≡ codes "LPCERT 1") × (next ≡ title ∷ kind ∷ log_or_end ∷ [])) ⊎ ((line ≡ codes "LPCERT 2") × (next ≡ title ∷ kind ∷ basis ∷ upper ∷ log_or_end ∷ []))
Meets d title line next = (line ≡ codes "DECK " ++ d.name) × (next ≡ [])
Meets d kind line next = Follows d line next
Meets d objective line next = (v : ℚ) × FitsWidth 127 v × (line ≡ codes "OBJECTIVE " ++ fraction_text v) × (next ≡ [])
Meets d (value word name) line next = (v : ℚ) × FitsWidth 127 v × (line ≡ value_line word v name) × (next ≡ [])
Meets d basis line next = IsCountLine (codes "BASIS") line (length d.rows) × (next ≡ repeated basic (length d.rows))
Meets d (basic more) line next = (q : ℕ) × (q < column_total d) × (line ≡ number_line (codes "BASIC") q) × (next ≡ repeated basic more)
Meets d upper line next = (count : ℕ) × (count ≤ column_total d) × IsCountLine (codes "UPPER") line count × (next ≡ repeated (at 0) count)
Meets d (at least more) line next =
    (q : ℕ) × (least ≤ q) × (q < column_total d) × (line ≡ number_line (codes "AT") q) × (next ≡ repeated (at (q + 1)) more)
Meets d log_or_end line next =
    ((line ≡ codes "END") × (next ≡ [])) ⊎ ((count : ℕ) × IsCountLine (codes "LOG") line count × (next ≡ repeated entry count ++ end ∷ []))
Meets d (entry more) line next =
    (e : Entry) × IsWithin (column_total d) (length d.rows) e × (line ≡ entry_line e) × (next ≡ repeated entry more)
Meets d end line next = (line ≡ codes "END") × (next ≡ [])

-- the count stands, and is none that the deck has
abbrev pub IsOtherCount : List ℕ → List ℕ → (ℕ → Type 0) → Flaw → Type 0
IsOtherCount word line IsDecks found = (found ≡ flaw.Number) × (count : ℕ) × IsCountLine word line count × ¬ IsDecks count

-- the flaw of a line that is not as expected
abbrev pub HasFlaw : Deck → Expected → List ℕ → Flaw → Type 0
HasFlaw d version line found = (found ≡ flaw.Word) × (line ≢ codes "LPCERT 1") × (line ≢ codes "LPCERT 2")
HasFlaw d title line found = IsTitleFlaw line d.name found
HasFlaw d kind line found = (found ≡ flaw.Word) × ((next : List Expected) → ¬ Follows d line next)
HasFlaw d objective line found = IsObjectiveFlaw line found
HasFlaw d (value word name) line found = IsValueFlaw line word name found
HasFlaw d basis line found = IsCountFlaw (codes "BASIS") line found ⊎ IsOtherCount (codes "BASIS") line (λ count. count ≡ length d.rows) found
HasFlaw d (basic more) line found = IsIndexFlaw (codes "BASIC") 0 (column_total d) line found
HasFlaw d upper line found = IsCountFlaw (codes "UPPER") line found ⊎ IsOtherCount (codes "UPPER") line (λ count. count ≤ column_total d) found
HasFlaw d (at least more) line found = IsIndexFlaw (codes "AT") least (column_total d) line found
HasFlaw d log_or_end line found =
    ((found ≡ flaw.Word) × (line ≢ codes "END") × (part line ≢ codes "LOG")) ⊎ ((part line ≡ codes "LOG") × IsCountFlaw (codes "LOG") line found)
HasFlaw d (entry more) line found = IsEntryFlaw (column_total d) (length d.rows) line found
HasFlaw d end line found = IsFixedFlaw line (codes "END") found

-- what stands wrong in a line where these are expected; behind the last line there should be none
abbrev pub HasLineFlaw : Deck → List Expected → List ℕ → Flaw → Type 0
HasLineFlaw d [] line found = found ≡ flaw.Rest
HasLineFlaw d (expected ∷ others) line found = HasFlaw d expected line found

-- the lines are as expected, one after another, and then these are expected
abbrev pub Reaches : Deck → List Expected → List (List ℕ) → List Expected → Type 0
Reaches d expected [] left = expected ≡ left
Reaches d [] (line ∷ lines) left = ⊥
Reaches d (expected ∷ others) (line ∷ lines) left = (next : List Expected) × Meets d expected line next × Reaches d (next ++ others) lines left

-- the flaw of the next line, where these are expected and so many bytes stand before it
abbrev pub HasNextFlaw : Deck → List Expected → ℕ → List Line → Flaw → Type 0
HasNextFlaw d [] used [] found = ⊥
HasNextFlaw d (expected ∷ others) used [] found = found ≡ flaw.Missing
HasNextFlaw d expected used (line ∷ lines) found =
    ((report_limit < used + size_of line) × (found ≡ flaw.Bytes))
    ⊎ ((used + size_of line ≤ report_limit) × (report_line_limit < length line.bytes) × (found ≡ flaw.Long))
    ⊎ ((used + size_of line ≤ report_limit) × (length line.bytes ≤ report_line_limit) × HasLineFlaw d expected line.bytes found)

-- how many bytes the lines have, and the lines without their line feeds
abbrev pub sizes : List Line → ℕ
sizes lines = sum (map size_of lines)

abbrev pub bytes_of : List Line → List (List ℕ)
bytes_of lines = map (λ line. line.bytes) lines

-- the lines are no more, and none is longer, than a report's may be
pub record IsWithinLimits (lines : List Line) : Type 0 where
  pub few : sizes lines ≤ report_limit
  pub short : All (λ line. length line.bytes ≤ report_line_limit) lines

-- the line of this number, counted from 1, has the first flaw of the lines of a text that should be a report of the deck
pub record HasFirstFlaw (d : Deck) (lines : List Line) (number : ℕ) (found : Flaw) : Type 0 where
  pub before : List Line
  pub rest : List Line
  pub split : lines ≡ before ++ rest
  pub number_is : number ≡ length before + 1
  pub within : IsWithinLimits before
  pub expected : List Expected
  pub met : Reaches d (version ∷ []) (bytes_of before) expected
  pub flaw : HasNextFlaw d expected (sizes before) rest found
