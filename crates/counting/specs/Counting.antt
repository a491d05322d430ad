-- How often numbers stand in lists.
use Rattle.std.specs.Prelude.{◌≡◌, ℕ, ◌-◌, List, ◌==◌, if◌then◌else◌, nat_lt, count_by}
use Rattle.std.specs.List.{range_with_len}

-- 1 where y is x, else 0
abbrev pub one_if : ℕ → ℕ → ℕ
one_if x y = if y == x then 1 else 0

-- how often x stands in the list
abbrev pub times : ℕ → List ℕ → ℕ
times x xs = count_by (λ y. y == x) xs

-- how often x stands among the numbers below n: once where it is below n, else never
abbrev pub once_below : ℕ → ℕ → ℕ
once_below x n = if nat_lt x n then 1 else 0

-- each number below n stands in the list once, and no other stands in it
abbrev pub HasEachOnce : List ℕ → ℕ → Type 0
HasEachOnce xs n = (x : ℕ) → times x xs ≡ once_below x n

-- the numbers from a up to below b
abbrev pub numbers_between : ℕ → ℕ → List ℕ
numbers_between a b = range_with_len a (b - a)
