use Rattle.std.proofs.Common.{◌≡◌, ℕ, ◌+◌, ◌/◌, ◌%◌, ◌^◌, ◌<◌}
use Rattle.frac_text.proofs.spelling.trimmed.Given as goal

-- so many zeros are taken off
abbrev pub invariant-loop-zeros : goal.invariant-loop-zeros
invariant-loop-zeros l = record {
  rest_is : l.rest ≡ l.size / 10 ^ l.zeros;
  whole : l.size % 10 ^ l.zeros ≡ 0;
  ends : (j : ℕ) → j < l.zeros → l.size % 10 ^ (j + 1) ≡ 0;
}
