-- A number from its text.
use Rattle.std.proofs.Common.{◌≡◌, ℕ, ◌^◌, ◌<◌, ◌≤◌, List, None, Some, Result, Ok, Err, Bor, MatchResult, sym, ◌∙◌, ap, subst, arith}
use Rattle.std.specs.Fmt.{decimal}
use Rattle.std.specs.Result.{result_ok}
use Rattle.std.specs.Str.{IsUtf8}
use Rattle.std.specs.Str.Parse.{ParsesUnsigned}
use Rattle.std.proofs.lemmas.Fmt.{IsAscii-decimal_wide, parse-decimal_wide}
use Rattle.std.proofs.lemmas.Str.{IsUtf8-from_ascii}

pub utf8_decimal : (n : ℕ) (bs : List ℕ) → n < 2 ^ 127 → decimal n ≡ bs → IsUtf8 bs
utf8_decimal n bs below is = subst IsUtf8 is (IsUtf8-from_ascii (decimal n) (IsAscii-decimal_wide n (omega arith)))

-- bytes that are UTF-8 are a text
pub no_refusal : {E : Type 0} {U : Type 0} (P : Bor (List ℕ) → Type 0) (Q : E → Type 0) (r : Result (Bor (List ℕ)) E)
    → MatchResult r P (λ e. ¬ U × Q e) → U → None ≡ result_ok r → ⊥
no_refusal P Q (Ok s) cases u none = cc
no_refusal P Q (Err e) cases u none = cases.0 u

-- and the text is the bytes
pub same_text : {E : Type 0} (U : Type 0) (Q : E → Type 0) (bs : List ℕ) (text : Bor (List ℕ)) (r : Result (Bor (List ℕ)) E)
    → MatchResult r (λ s. (s.now ≡ bs) × U) Q → Some text ≡ result_ok r → text.now ≡ bs
same_text U Q bs text (Ok s) cases is = let same : text ≡ s = cc in ap (λ (b : Bor (List ℕ)). b.now) same ∙ cases.0
same_text U Q bs text (Err e) cases is = cc

-- what is read of the text of a number
pub number_read : {E : Type 0} (n : ℕ) (bs text : List ℕ) (r : Result ℕ E) → n < 2 ^ 127 → decimal n ≡ bs → text ≡ bs → ParsesUnsigned 128 10 text r → result_ok r ≡ Some n
number_read n bs text r below is same parses = ap (λ q. result_ok q) (parse-decimal_wide 128 n text r (omega arith) (omega arith) (same ∙ sym is) parses)

pub past_limit : (m n : ℕ) → n < 2 ^ 127 → 2 ^ 127 ≤ m → Some m ≡ Some n → ⊥
past_limit m n below past is = let same : m ≡ n = cc in omega arith
