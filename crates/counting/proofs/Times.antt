-- Laws of counting.
use Rattle.std.proofs.Common.{◌≡◌, ℕ, zero, suc, ◌+◌, ◌<◌, ◌≤◌, List, ◌++◌, ap, arith}
use Rattle.std.specs.List.{range_with_len}
use Rattle.std.proofs.lemmas.Bool.Decides.{nat_tests}
use Rattle.std.proofs.lemmas.List.Sums.{sum_by-cons, sum_by-append}
use Rattle.counting.specs.Counting.{one_if, times, once_below}

pub one_if-same : (x y : ℕ) → x ≡ y → one_if x y ≡ 1
one_if-same x y e = grind (arith, nat_tests)

pub once_below-in : (x n : ℕ) → x < n → once_below x n ≡ 1
once_below-in x n less = grind (arith, nat_tests)

pub once_below-out : (x n : ℕ) → n ≤ x → once_below x n ≡ 0
once_below-out x n above = grind (arith, nat_tests)

pub once_below-le : (x n : ℕ) → once_below x n ≤ 1
once_below-le x n = grind (arith, nat_tests)

-- one number more
pub once_below-next : (x n : ℕ) → once_below x (n + 1) ≡ once_below x n + one_if x n
once_below-next x n = grind (arith, nat_tests)

pub times-append : (x : ℕ) (xs ys : List ℕ) → times x (xs ++ ys) ≡ times x xs + times x ys
times-append x xs ys = sum_by-append (one_if x) xs ys

-- the k numbers from n on carry the bound from n to n + k
pub times-range_with_len : (x n k : ℕ) → times x (range_with_len n k) + once_below x n ≡ once_below x (n + k)
times-range_with_len x n zero = omega (arith, ap (once_below x) (let same : n ≡ n + 0 = omega arith in same))
times-range_with_len x n (suc k) =
    omega (
      arith,
      sum_by-cons (one_if x) n (range_with_len (n + 1) k),
      once_below-next x n,
      times-range_with_len x (n + 1) k,
      ap (once_below x) (let same : n + 1 + k ≡ n + suc k = omega arith in same),
    )
