use Rattle.std.proofs.Common.{◌≡◌, drop}
use Rattle.upper_form.specs.Flags.{meets}
use Rattle.upper_form.proofs.meets.Given as goal

-- what is left has the answer
abbrev pub invariant-loop-k : goal.invariant-loop-k
invariant-loop-k l = meets l.flags (drop l.k l.column.pairs) ≡ meets l.flags l.column.pairs
