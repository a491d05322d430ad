use Rattle.std.proofs.Common.{◌≡◌, ◌<◌, ℕ, None, Some, get_or, length}
use Rattle.rational.specs.Sum.{at}
use Rattle.ranging.specs.Inner.Found.{own_limit}
use Rattle.ranging.proofs.limits.own_limits.Given as goal

-- the structurals below j have their own limits
abbrev pub invariant-loop-j : goal.invariant-loop-j
invariant-loop-j l = record {
  count : length l.limits.items ≡ l.j;
  own : (j : ℕ) → j < l.j → get_or l.limits.items j None ≡ Some (own_limit l.inst l.state (at l.costs j) j);
}
