-- The counts of an arithmetic, which stand still at the largest `u64`.
use Rattle.std.specs.Prelude.{ℕ, ◌+◌, ◌-◌, ◌^◌, min, max, Result, Ok, Err}

-- a count raised by so many, at most to 2^64 - 1; it never falls
abbrev pub raised : ℕ → ℕ → ℕ
raised count by = max count (min (count + by) (2 ^ 64 - 1))

-- the count of unfit results after a call: raised by one exactly at a refusal
abbrev pub unfit_after : {A E : Type 0} → ℕ → Result A E → ℕ
unfit_after count (Ok answer) = count
unfit_after count (Err refusal) = raised count 1
