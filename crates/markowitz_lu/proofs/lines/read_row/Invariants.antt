use Rattle.std.proofs.Common.{◌≡◌, ◌++◌, length, map}
use Rattle.std.specs.List.{Contains}
use Rattle.std.specs.Option.{IfSome}
use Rattle.chain_links.specs.Lists.{rest}
use Rattle.cross_links.specs.Matrix.{row, entry_at}
use Rattle.markowitz_lu.specs.Inner.Lines.{place_in, row_pairs}
use Rattle.markowitz_lu.proofs.lines.read_row.Given as goal

-- what is read and what is left are all of the row
abbrev pub invariant-loop-next : goal.invariant-loop-next
invariant-loop-next l = record {
  next_in : IfSome l.next (Contains (row l.cross l.r));
  read : l.buffer.items ++ map (λ k. place_in (entry_at l.cross k)) (rest l.next (row l.cross l.r)) ≡ row_pairs l.cross l.r;
}

abbrev pub decreases-loop-next : goal.decreases-loop-next
decreases-loop-next l = length (rest l.next (row l.cross l.r))
