use Rattle.std.proofs.Common.{◌≡◌, ◌^◌, ◌*◌, ◌%◌, ◌++◌}
use Rattle.lp_text.specs.Digits.{digits_value}
use Rattle.number_fields.specs.Parts.{IsProper}
use Rattle.number_fields.proofs.digits.last_part.Given as goal

abbrev pub invariant-loop-place : goal.invariant-loop-place
invariant-loop-place l = (l.numer * 10 ^ l.place ≡ digits_value (l.whole ++ l.decimals) % 10 ^ l.place * l.denom) × IsProper l.numer l.denom
