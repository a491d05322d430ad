-- What is wrong with a line of a report, by the line that is expected in its place.
use Rattle.std.specs.Prelude.{◌≡◌, ◌≢◌, ◌⊎◌, ℕ, ◌+◌, ◌-◌, ◌^◌, ◌<◌, ◌≤◌, min, true, false, List, ◌∷◌, ◌++◌, codes, drop, length, take_while, Bool, not, ◌==◌}
use Rattle.lp_model.specs.declared.Entry.{Entry}
use Rattle.lp_model.specs.declared.Entry.TheVariants.{Flip, Swap, Turn}
use Rattle.lp_model.specs.declared.Side.{Side}
use Rattle.rational.specs.Rational.{ℚ}
use Rattle.rational.specs.Width.{FitsWidth}
use Rattle.lp_text.specs.Digits.{digits_value}
use Rattle.lp_text.specs.Fraction.{fraction_text}
use Rattle.lp_text.specs.Report.{side_word, value_line}
use Rattle.report_lines.specs.Numbers.{is_plain}
use Rattle.report_lines.specs.declared.flaw.Flaw.{Flaw}
use Rattle.report_lines.specs.declared.flaw.Flaw.TheVariants.{Name, Number, Word}

-- ── the parts of a line ──

abbrev pub is_no_blank : ℕ → Bool
is_no_blank c = not (c == 32)

-- what stands before the first blank, or the whole text where there is none
abbrev pub part : List ℕ → List ℕ
part text = take_while is_no_blank text

-- what follows the first blank; nothing where there is none
abbrev pub after_part : List ℕ → List ℕ
after_part text = drop (length (part text) + 1) text

-- ── numbers ──

-- it is the text of the fraction, which fits the width
pub record IsTextOf (text : List ℕ) (v : ℚ) : Type 0 where
  pub text_is : fraction_text v ≡ text
  pub fits : FitsWidth 127 v

-- it is no such text
abbrev pub IsNoFraction : List ℕ → Type 0
IsNoFraction text = (v : ℚ) → FitsWidth 127 v → fraction_text v ≢ text

-- ── flaws ──

-- of a line that has a fixed text
abbrev pub IsFixedFlaw : List ℕ → List ℕ → Flaw → Type 0
IsFixedFlaw line text Word = line ≢ text
IsFixedFlaw line text other = ⊥

-- of the line of the deck's name
abbrev pub IsTitleFlaw : List ℕ → List ℕ → Flaw → Type 0
IsTitleFlaw line name Word = part line ≢ codes "DECK"
IsTitleFlaw line name Name = (part line ≡ codes "DECK") × (line ≢ codes "DECK " ++ name)
IsTitleFlaw line name other = ⊥

-- of the line of the objective's value
abbrev pub IsObjectiveFlaw : List ℕ → Flaw → Type 0
IsObjectiveFlaw line Word = part line ≢ codes "OBJECTIVE"
IsObjectiveFlaw line Number = (part line ≡ codes "OBJECTIVE") × IsNoFraction (after_part line)
IsObjectiveFlaw line other = ⊥

-- of a line of a word, a value and a name
abbrev pub IsValueFlaw : List ℕ → List ℕ → List ℕ → Flaw → Type 0
IsValueFlaw line word name Word = part line ≢ word
IsValueFlaw line word name Number = (part line ≡ word) × IsNoFraction (part (after_part line))
IsValueFlaw line word name Name = (v : ℚ) × (part line ≡ word) × IsTextOf (part (after_part line)) v × (line ≢ value_line word v name)
IsValueFlaw line word name other = ⊥

-- ── numbers of columns and positions ──

-- a word and a count, which is told up to 2^64 - 1
pub record IsCountLine (word line : List ℕ) (count : ℕ) : Type 0 where
  pub text : List ℕ
  pub line_is : line ≡ word ++ 32 ∷ text
  pub plain : is_plain text ≡ true
  pub count_is : count ≡ min (digits_value text) (2 ^ 64 - 1)

-- the flaw of such a line
abbrev pub IsCountFlaw : List ℕ → List ℕ → Flaw → Type 0
IsCountFlaw word line Word = part line ≢ word
IsCountFlaw word line Number = (part line ≡ word) × (is_plain (after_part line) ≡ false)
IsCountFlaw word line other = ⊥

-- of a line of a word and a number that is at least the first bound and below the second
abbrev pub IsIndexFlaw : List ℕ → ℕ → ℕ → List ℕ → Flaw → Type 0
IsIndexFlaw word least below line Word = part line ≢ word
IsIndexFlaw word least below line Number = (part line ≡ word) × (is_plain (after_part line) ≡ false)
IsIndexFlaw word least below line Name =
    (part line ≡ word) × (is_plain (after_part line) ≡ true) × ((digits_value (after_part line) < least) ⊎ (below ≤ digits_value (after_part line)))
IsIndexFlaw word least below line other = ⊥

-- ── entries of the log ──

-- the entry's column and its position are in range
abbrev pub IsWithin : ℕ → ℕ → Entry → Type 0
IsWithin columns positions (Flip q) = q < columns
IsWithin columns positions (Swap q p end) = (q < columns) × (p < positions)
IsWithin columns positions Turn = Unit {0}

abbrev pub IsSide : List ℕ → Type 0
IsSide text = (end : Side) × (text ≡ side_word end)

abbrev pub IsNoSide : List ℕ → Type 0
IsNoSide text = (end : Side) → text ≢ side_word end

-- what follows the first two parts of a text
abbrev pub third : List ℕ → List ℕ
third text = after_part (after_part text)

-- the flaw of a swap's line, whose numbers and side follow the word
abbrev pub IsSwapFlaw : ℕ → ℕ → List ℕ → Flaw → Type 0
IsSwapFlaw columns positions line Word = (part line ≢ codes "SWAP") ⊎ IsNoSide (third (after_part line))
IsSwapFlaw columns positions line Number =
    (part line ≡ codes "SWAP") × IsSide (third (after_part line)) × ((is_plain (part (after_part line)) ≡ false) ⊎ (is_plain (part (third line)) ≡ false))
IsSwapFlaw columns positions line Name =
    (part line ≡ codes "SWAP") × IsSide (third (after_part line)) × (is_plain (part (after_part line)) ≡ true) × (is_plain (part (third line)) ≡ true)
    × ((columns ≤ digits_value (part (after_part line))) ⊎ (positions ≤ digits_value (part (third line))))
IsSwapFlaw columns positions line other = ⊥

-- the flaw of an entry's line: that of a flip's where the word is so, else that of a swap's
abbrev pub IsEntryFlaw : ℕ → ℕ → List ℕ → Flaw → Type 0
IsEntryFlaw columns positions line flaw =
    (line ≢ codes "TURN")
    × (((part line ≡ codes "FLIP") × IsIndexFlaw (codes "FLIP") 0 columns line flaw) ⊎ ((part line ≢ codes "FLIP") × IsSwapFlaw columns positions line flaw))
