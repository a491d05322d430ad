use Rattle.std.proofs.Common.{◌≡◌, ◌-◌, drop}
use Rattle.sparse_cols.specs.Fault.{first_repeated}
use Rattle.sparse_cols.proofs.first_repeated.Given as goal

-- what is left from the pair before on has the answer
abbrev pub invariant-loop-k : goal.invariant-loop-k
invariant-loop-k g l = first_repeated (drop (l.k - 1) l.pairs) ≡ first_repeated l.pairs
