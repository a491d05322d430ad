use Rattle.std.proofs.Common.{◌≡◌, ◌<◌, ◌≤◌, ◌^◌, ◌/◌, ◌++◌}
use Rattle.lp_text.specs.Digits.{digits_value}
use Rattle.number_fields.proofs.digits.front.Given as goal

abbrev pub invariant-loop-place : goal.invariant-loop-place
invariant-loop-place l = (l.number ≡ digits_value (l.whole ++ l.decimals) / 10 ^ l.place) × (l.number < 2 ^ 127) × (l.places ≤ l.place)

abbrev pub decreases-loop-place : goal.decreases-loop-place
decreases-loop-place l = l.place
