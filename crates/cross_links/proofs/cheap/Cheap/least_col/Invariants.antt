-- The columns before the next are not less.
use Rattle.std.proofs.Common.{◌<◌, ◌≤◌, length}
use Rattle.std.specs.List.{Contains}
use Rattle.std.specs.Option.{IfSome}
use Rattle.chain_links.specs.Lists.{rest}
use Rattle.count_chain.specs.Chains.{list_at, IsChained}
use Rattle.cross_links.proofs.Search.{Walked}
use Rattle.cross_links.proofs.cheap.Cheap.least_col.Given as goal

abbrev pub invariant-columns : goal.invariant-columns
invariant-columns l = record {
  held : Contains (list_at l.self.lone l.r) l.least;
  walked : Walked (list_at l.self.lone l.r) l.next (λ d. l.least ≤ d);
  item : IfSome l.next (λ d. d < l.self.lone.items);
  chained : IsChained l.self.lone;
}

abbrev pub decreases-columns : goal.decreases-columns
decreases-columns l = length (rest l.next (list_at l.self.lone l.r))
