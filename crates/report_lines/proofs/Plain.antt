-- Plain numbers and their texts.
use Rattle.std.proofs.Common.{◌≡◌, ℕ, ◌+◌, ◌-◌, ◌*◌, ◌^◌, ◌<◌, List, [], ◌∷◌, length, take, get_or, min, true, not, fold, rules, sym, ◌∙◌, ap, arith}
use Rattle.std.proofs.lemmas.List.{take_more}
use Rattle.std.proofs.lemmas.List.Sums.{fold-append}
use Rattle.std.specs.Prelude.{◌==◌, ◌||◌, slice_index}
use Rattle.std.specs.Fmt.{decimal}
use Rattle.std.specs.List.{list_all}
use Rattle.std.proofs.lemmas.Bool.{and_parts, ltb-true}
use Rattle.std.proofs.lemmas.Bool.Decides.{nat_tests}
use Rattle.std.proofs.lemmas.Fmt.{decimal-digits_value}
use Rattle.std.proofs.lemmas.Str.Parse.{IsNumeralModel, numerals_by_fold}
use Rattle.report_lines.specs.Numbers.{is_plain}
use Rattle.lp_text.specs.Digits.{digits_value, is_digit}

one_more : (text : List ℕ) (i d : ℕ) → i < length text → digits_value (take (i + 1) text) ≡ 10 * digits_value (take i text) + (get_or text i d - 48)
one_more text i d h = ap digits_value (take_more text i d h) ∙ fold-append (λ n c. 10 * n + (c - 48)) 0 (take i text) (get_or text i d ∷ [])

caps : (n d : ℕ) → min (min (min n (2 ^ 64 - 1) * 10) (2 ^ 64 - 1) + d) (2 ^ 64 - 1) ≡ min (10 * n + d) (2 ^ 64 - 1)
caps n d = omega arith

pub capped_after : (text : List ℕ) (i d : ℕ) → i < length text
    → min (min (min (digits_value (take i text)) (2 ^ 64 - 1) * 10) (2 ^ 64 - 1) + (get_or text i d - 48)) (2 ^ 64 - 1) ≡ min (digits_value (take (i + 1) text)) (2 ^ 64 - 1)
capped_after text i d h = caps (digits_value (take i text)) (get_or text i d - 48) ∙ ap (λ n. min n (2 ^ 64 - 1)) (sym (one_more text i d h))

own : IsNumeralModel (λ ds. list_all is_digit ds ≡ true) digits_value
own = numerals_by_fold (λ ds. list_all is_digit ds ≡ true) (search rules) (λ n ds. fold (λ n c. 10 * n + (c - 48)) n ds) (search rules)

lead_of : (text : List ℕ) → (length text == 1 || not (slice_index text 0 == 48)) ≡ true → get_or text 0 0 ≡ 48 → length text ≡ 1
lead_of text e zero = grind (arith, nat_tests)

-- a plain number below 2^64 is the text of its value
pub plain_decimal : (text : List ℕ) → is_plain text ≡ true → digits_value text < 2 ^ 64 → decimal (digits_value text) ≡ text
plain_decimal text plain small =
    let parts = and_parts _ _ plain in
    let front = and_parts _ _ parts.0 in
    decimal-digits_value own text parts.1 (ltb-true 0 (length text) front.0) (lead_of text front.1) small

pub index_text : (text : List ℕ) (value : ℕ) → is_plain text ≡ true → value ≡ min (digits_value text) (2 ^ 64 - 1) → value < 2 ^ 32 → text ≡ decimal value
index_text text value plain is small =
    let same : digits_value text ≡ value = omega arith in
    sym (plain_decimal text plain (omega arith)) ∙ ap decimal same
