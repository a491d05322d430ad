use Rattle.std.proofs.Common.{◌≡◌, drop, length}
use Rattle.ft_update.specs.Inner.Rows.{placed}
use Rattle.ft_update.proofs.columns.place.Given as goal

-- what is left to place leads to the same vector
abbrev pub invariant-loop-i : goal.invariant-loop-i
invariant-loop-i l = record {
  length : length l.v.items ≡ length l.fn.v.items;
  left : placed l.v.items (drop l.i-index l.taken) ≡ placed l.fn.v.items l.taken;
}
