use Rattle.std.proofs.Common.{◌≡◌, ◌+◌, ◌*◌, ◌/◌, ◌%◌, ◌^◌}
use Rattle.frac_text.proofs.Decimals.{IsBroken}
use Rattle.frac_text.proofs.spelling.places.Given as goal

-- the digits so far, and the rest, which is not 0 at any place so far
abbrev pub invariant-loop-before : goal.invariant-loop-before
invariant-loop-before l = record {
  whole_is : l.whole ≡ l.size * 10 ^ l.before / l.denom;
  rest_is : l.rest ≡ l.size * 10 ^ l.before % l.denom;
  broken : IsBroken l.size l.denom (l.before + 1);
}
