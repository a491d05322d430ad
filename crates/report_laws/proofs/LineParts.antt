-- The parts of the lines that a report may have.
use Rattle.std.proofs.Common.{◌≡◌, ℕ, ◌-◌, ◌^◌, ◌<◌, min, List, ◌∷◌, ◌++◌, true, refl, sym, ◌∙◌, ap, append_assoc, arith}
use Rattle.std.specs.Prelude.{codes}
use Rattle.std.specs.Fmt.{decimal}
use Rattle.rational.specs.Rational.{ℚ}
use Rattle.rational.specs.Width.{FitsWidth}
use Rattle.lp_model.specs.declared.Side.{Side}
use Rattle.lp_text.specs.Digits.{digits_value}
use Rattle.lp_text.specs.Fraction.{fraction_text}
use Rattle.lp_text.specs.Report.{number_line, side_word, value_line}
use Rattle.report_lines.specs.Judged.{IsCountLine, after_part, part, third}
use Rattle.report_lines.specs.Numbers.{is_plain}
use Rattle.report_laws.proofs.Parts.{IsUnbroken, after_joined, part_joined}
use Rattle.report_laws.proofs.Numbers.{decimal_plain, decimal_unbroken, decimal_value, fraction_unbroken}

-- ── a word, a value and a name ──

module _ (word name line : List ℕ) (v : ℚ) (unbroken : IsUnbroken word) (line_is : line ≡ value_line word v name) where
  joined : line ≡ word ++ 32 ∷ (fraction_text v ++ 32 ∷ name)
  joined = line_is ∙ append_assoc word (32 ∷ fraction_text v) (32 ∷ name)

  pub value_word : part line ≡ word
  value_word = ap part joined ∙ part_joined word (fraction_text v ++ 32 ∷ name) unbroken

  pub value_number : FitsWidth 127 v → part (after_part line) ≡ fraction_text v
  value_number fits =
      ap (λ l. part (after_part l)) joined
      ∙ ap part (after_joined word (fraction_text v ++ 32 ∷ name) unbroken)
      ∙ part_joined (fraction_text v) name (fraction_unbroken v fits)

-- ── a word and a number ──

module _ (word line : List ℕ) (n : ℕ) (unbroken : IsUnbroken word) (below : n < 2 ^ 64) (line_is : line ≡ number_line word n) where
  number_after : after_part line ≡ decimal n
  number_after = ap after_part line_is ∙ after_joined word (decimal n) unbroken

  pub number_word : part line ≡ word
  number_word = ap part line_is ∙ part_joined word (decimal n) unbroken

  pub number_plain : is_plain (after_part line) ≡ true
  number_plain = ap is_plain number_after ∙ decimal_plain n below

  pub number_value : digits_value (after_part line) ≡ n
  number_value = ap digits_value number_after ∙ decimal_value n below

-- ── a word and a count ──

module _ (word line : List ℕ) (n : ℕ) (unbroken : IsUnbroken word) (is : IsCountLine word line n) where
  count_after : after_part line ≡ is.text
  count_after = ap after_part is.line_is ∙ after_joined word is.text unbroken

  pub count_word : part line ≡ word
  count_word = ap part is.line_is ∙ part_joined word is.text unbroken

  pub count_plain : is_plain (after_part line) ≡ true
  count_plain = ap is_plain count_after ∙ is.plain

  pub count_value : n ≡ min (digits_value (after_part line)) (2 ^ 64 - 1)
  count_value = is.count_is ∙ ap (λ t. min (digits_value t) (2 ^ 64 - 1)) (sym count_after)

-- a line has one count
pub one_count : (word line : List ℕ) (m n : ℕ) → IsUnbroken word → IsCountLine word line m → IsCountLine word line n → m ≡ n
one_count word line m n unbroken h k = count_value word line m unbroken h ∙ sym (count_value word line n unbroken k)

-- the line of a number is that of its count
pub count_told : (word : List ℕ) (n : ℕ) → n < 2 ^ 64 → IsCountLine word (number_line word n) n
count_told word n below =
    let value = decimal_value n below in
    record { text = decimal n; line_is = refl; plain = decimal_plain n below; count_is = omega (arith, value) }

-- ── a swap ──

module _ (line : List ℕ) (q p : ℕ) (end : Side) (column_below : q < 2 ^ 64) (position_below : p < 2 ^ 64)
    (line_is : line ≡ codes "SWAP " ++ decimal q ++ 32 ∷ decimal p ++ 32 ∷ side_word end) where
  behind : List ℕ
  behind = decimal p ++ 32 ∷ side_word end

  swap_joined : line ≡ codes "SWAP" ++ 32 ∷ (decimal q ++ 32 ∷ behind)
  unfolding behind
  swap_joined =
      line_is
      ∙ append_assoc (codes "SWAP " ++ decimal q) (32 ∷ decimal p) (32 ∷ side_word end)
      ∙ append_assoc (codes "SWAP ") (decimal q) (32 ∷ (decimal p ++ 32 ∷ side_word end))

  swap_after : after_part line ≡ decimal q ++ 32 ∷ behind
  swap_after = ap after_part swap_joined ∙ after_joined (codes "SWAP") (decimal q ++ 32 ∷ behind) refl

  swap_third : third line ≡ behind
  swap_third = ap after_part swap_after ∙ after_joined (decimal q) behind (decimal_unbroken q (omega arith))

  pub swap_word : part line ≡ codes "SWAP"
  swap_word = ap part swap_joined ∙ part_joined (codes "SWAP") (decimal q ++ 32 ∷ behind) refl

  swap_column : part (after_part line) ≡ decimal q
  swap_column = ap part swap_after ∙ part_joined (decimal q) behind (decimal_unbroken q (omega arith))

  swap_position : part (third line) ≡ decimal p
  unfolding behind
  swap_position = ap part swap_third ∙ part_joined (decimal p) (side_word end) (decimal_unbroken p (omega arith))

  pub swap_side : third (after_part line) ≡ side_word end
  unfolding behind
  swap_side = ap after_part swap_third ∙ after_joined (decimal p) (side_word end) (decimal_unbroken p (omega arith))

  pub column_plain : is_plain (part (after_part line)) ≡ true
  column_plain = ap is_plain swap_column ∙ decimal_plain q column_below

  pub column_value : digits_value (part (after_part line)) ≡ q
  column_value = ap digits_value swap_column ∙ decimal_value q column_below

  pub position_plain : is_plain (part (third line)) ≡ true
  position_plain = ap is_plain swap_position ∙ decimal_plain p position_below

  pub position_value : digits_value (part (third line)) ≡ p
  position_value = ap digits_value swap_position ∙ decimal_value p position_below
