-- Decimal digits.
use Rattle.std.specs.Prelude.{ℕ, ◌+◌, ◌-◌, ◌*◌, List, Bool, ◌&&◌, nat_le, fold}

abbrev pub is_digit : ℕ → Bool
is_digit c = nat_le 48 c && nat_le c 57

-- digits as a number
abbrev pub digits_value : List ℕ → ℕ
digits_value digits = fold (λ n c. 10 * n + (c - 48)) 0 digits
