use Rattle.std.proofs.Common.{◌≡◌, ◌++◌, drop}
use Rattle.sparse_cols.specs.Work.{gathered_from}
use Rattle.sparse_cols.proofs.work.Work.gather.Given as goal

-- the pairs so far and those of what is left are all pairs
abbrev pub invariant-loop-i : goal.invariant-loop-i
invariant-loop-i g l =
    l.pairs.items ++ gathered_from l.i (drop l.i l.value-items) ≡ gathered_from 0 l.value-items
