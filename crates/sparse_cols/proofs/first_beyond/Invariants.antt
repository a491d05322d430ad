use Rattle.std.proofs.Common.{◌≡◌, drop}
use Rattle.sparse_cols.specs.Fault.{first_beyond}
use Rattle.sparse_cols.proofs.first_beyond.Given as goal

-- what is left has the answer
abbrev pub invariant-loop-i : goal.invariant-loop-i
invariant-loop-i g l = first_beyond l.len (drop l.i-index l.pairs) ≡ first_beyond l.len l.pairs
