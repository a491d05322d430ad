-- Counts of calls and of faults: numbers of 64 bits, each of which stands still at its type's end.
use Rattle.std.specs.Prelude.{ℕ, ◌+◌, ◌-◌, ◌^◌, ◌≤◌, min}

-- one more, or the largest number of 64 bits where the count stands there
abbrev pub one_more : ℕ → ℕ
one_more n = min (n + 1) (2 ^ 64 - 1)

-- the count rose: it is at least one more, or it stands at the largest number of 64 bits
abbrev pub Rose : ℕ → ℕ → Type 0
Rose old new = one_more old ≤ new
