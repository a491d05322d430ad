use Rattle.std.proofs.Common.{◌≡◌, ◌++◌, length, map}
use Rattle.std.specs.List.{Contains}
use Rattle.std.specs.Option.{IfSome}
use Rattle.chain_links.specs.Lists.{rest}
use Rattle.cross_links.specs.Matrix.{col, col_pairs, entry_at, pair_in}
use Rattle.markowitz_lu.proofs.lines.read_col.Given as goal

-- what is read and what is left are all of the column
abbrev pub invariant-loop-next : goal.invariant-loop-next
invariant-loop-next l = record {
  next_in : IfSome l.next (Contains (col l.cross l.c));
  read : l.buffer.items ++ map (λ k. pair_in (entry_at l.cross k)) (rest l.next (col l.cross l.c)) ≡ col_pairs l.cross l.c;
}

abbrev pub decreases-loop-next : goal.decreases-loop-next
decreases-loop-next l = length (rest l.next (col l.cross l.c))
