-- Lines with a value.
use Rattle.std.proofs.Common.{◌≡◌, ◌≢◌, ℕ, ◌^◌, ◌<◌, List, [], ◌∷◌, ◌++◌, length, drop, Option, Some, None, Bor, ℤ, pos, negsuc, nat_abs, Bool, true, false, sym, ◌∙◌, ap, arith, append_assoc, length-append}
use Rattle.std.specs.Prelude.{◌==◌, if◌then◌else◌}
use Rattle.std.specs.Fmt.{decimal, signed_decimal}
use Rattle.std.proofs.lemmas.Fmt.{decimal_is_IsNumeral_wide}
use Rattle.std.proofs.lemmas.List.{append_cancel_left}
use Rattle.std.specs.Option.{option_map}
use Rattle.report_lines.specs.Inner.{Splits}
use Rattle.report_lines.specs.Judged.{IsNoFraction, part}

signed_some : (p : ℤ) → nat_abs p < 2 ^ 127 → 0 < length (signed_decimal p)
signed_some (pos n) below = (decimal_is_IsNumeral_wide n (omega arith)).0.0
signed_some (negsuc n) below = omega arith

-- no fraction has the empty text
pub no_fraction : IsNoFraction []
no_fraction v fits e = each (v.denominator == 1) e
  where
    some : 0 < length (signed_decimal v.numerator)
    some = signed_some v.numerator fits.numerator_below

    each : (b : Bool) → (if b then signed_decimal v.numerator else signed_decimal v.numerator ++ 47 ∷ decimal v.denominator) ≡ [] → ⊥
    each true e = let none : length (signed_decimal v.numerator) ≡ 0 = ap length e in omega (arith, some)
    each false e =
        let none : length (signed_decimal v.numerator ++ 47 ∷ decimal v.denominator) ≡ 0 = ap length e in
        omega (arith, some, length-append (signed_decimal v.numerator) (47 ∷ decimal v.denominator))

-- nor where no blank follows the word
pub no_number : (text : List ℕ) → text ≡ [] → IsNoFraction text
no_number text e v fits is = no_fraction v fits (is ∙ e)

pub no_part : (text : List ℕ) → text ≡ [] → IsNoFraction (part text)
no_part text e v fits is = no_fraction v fits (is ∙ ap part e)

-- ---- lines of a value

tail_is : (line word rest tail : List ℕ) → line ≡ part line ++ 32 ∷ rest → part line ≡ word → line ≡ word ++ 32 ∷ tail → rest ≡ tail
tail_is line word rest tail line_is word_is same =
    ap (drop 1) (append_cancel_left word (32 ∷ rest) (32 ∷ tail) (ap (λ (w : List ℕ). w ++ 32 ∷ rest) (sym word_is) ∙ sym line_is ∙ same))

-- another name
other_name : (line word rest name given text : List ℕ) → line ≡ part line ++ 32 ∷ rest → part line ≡ word
    → rest ≡ part rest ++ 32 ∷ given → text ≡ part rest → given ≢ name → line ≢ word ++ 32 ∷ (text ++ 32 ∷ name)
other_name line word rest name given text line_is word_is rest_is text_is other same =
    let tail : rest ≡ text ++ 32 ∷ name = tail_is line word rest (text ++ 32 ∷ name) line_is word_is same in
    other (ap (drop 1) (append_cancel_left text (32 ∷ given) (32 ∷ name) (ap (λ (t : List ℕ). t ++ 32 ∷ given) text_is ∙ sym rest_is ∙ tail)))

-- no name
missing_name : (line word rest name text : List ℕ) → line ≡ part line ++ 32 ∷ rest → part line ≡ word
    → rest ≡ part rest → text ≡ part rest → line ≢ word ++ 32 ∷ (text ++ 32 ∷ name)
missing_name line word rest name text line_is word_is rest_is text_is same =
    let tail : rest ≡ text ++ 32 ∷ name = tail_is line word rest (text ++ 32 ∷ name) line_is word_is same in
    let long : length text ≡ length (text ++ 32 ∷ name) = ap length (text_is ∙ sym rest_is ∙ tail) in
    omega (arith, length-append text (32 ∷ name))

-- ---- the same as the code has the name

abbrev bytes_of : Option (Bor (List ℕ)) → Option (List ℕ)
bytes_of given = option_map (λ g. g.now) given

module _ (line word rest name text : List ℕ) (given : Option (Bor (List ℕ))) (line_is : line ≡ part line ++ 32 ∷ rest) (word_is : part line ≡ word) (text_is : text ≡ part rest) where
  pub value_misnamed : Splits rest given → bytes_of given ≢ Some name → line ≢ (word ++ 32 ∷ text) ++ 32 ∷ name
  value_misnamed splits other same = each given splits other (same ∙ append_assoc word (32 ∷ text) (32 ∷ name))
    where
      each : (g : Option (Bor (List ℕ))) → Splits rest g → bytes_of g ≢ Some name → line ≢ word ++ 32 ∷ (text ++ 32 ∷ name)
      each None splits other = missing_name line word rest name text line_is word_is splits.0 text_is
      each (Some g) splits other = other_name line word rest name g.now text line_is word_is splits.0 text_is (λ e. other (ap Some e))
