-- A number digit by digit, up to the largest of 32 bits.
use Rattle.std.proofs.Common.{◌≡◌, ℕ, ◌+◌, ◌-◌, ◌*◌, ◌^◌, ◌<◌, List, [], ◌∷◌, length, take, get_or, min, sym, ◌∙◌, ap, arith}
use Rattle.std.proofs.lemmas.List.{take_more}
use Rattle.std.proofs.lemmas.List.Sums.{fold-append}
use Rattle.lp_text.specs.Digits.{digits_value}

one_more : (text : List ℕ) (i d : ℕ) → i < length text → digits_value (take (i + 1) text) ≡ 10 * digits_value (take i text) + (get_or text i d - 48)
one_more text i d h = ap digits_value (take_more text i d h) ∙ fold-append (λ n c. 10 * n + (c - 48)) 0 (take i text) (get_or text i d ∷ [])

caps : (n d : ℕ) → min (min (min n (2 ^ 32 - 1) * 10) (2 ^ 32 - 1) + d) (2 ^ 32 - 1) ≡ min (10 * n + d) (2 ^ 32 - 1)
caps n d = omega arith

pub capped_after : (text : List ℕ) (i d : ℕ) → i < length text
    → min (min (min (digits_value (take i text)) (2 ^ 32 - 1) * 10) (2 ^ 32 - 1) + (get_or text i d - 48)) (2 ^ 32 - 1) ≡ min (digits_value (take (i + 1) text)) (2 ^ 32 - 1)
capped_after text i d h = caps (digits_value (take i text)) (get_or text i d - 48) ∙ ap (λ n. min n (2 ^ 32 - 1)) (sym (one_more text i d h))
