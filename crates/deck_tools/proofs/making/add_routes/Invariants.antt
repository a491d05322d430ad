use Rattle.std.proofs.Common.{◌≡◌}
use Rattle.deck_tools.proofs.NewNames.{routed}
use Rattle.deck_tools.proofs.making.add_routes.Given as goal

-- so many routes are there
abbrev pub invariant-loop-k : goal.invariant-loop-k
invariant-loop-k l = l.deck ≡ routed l.n l.k
