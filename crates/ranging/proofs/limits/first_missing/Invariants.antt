use Rattle.std.proofs.Common.{◌≢◌, ◌<◌, ℕ, None, get_or}
use Rattle.ranging.proofs.limits.first_missing.Given as goal

-- none is missing before
abbrev pub invariant-loop-k : goal.invariant-loop-k
invariant-loop-k l = (k : ℕ) → k < l.k → get_or l.limits k None ≢ None
