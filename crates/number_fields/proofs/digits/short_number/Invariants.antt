use Rattle.std.proofs.Common.{◌≡◌, take, ◌++◌}
use Rattle.lp_text.specs.Digits.{digits_value}
use Rattle.number_fields.proofs.digits.short_number.Given as goal

abbrev pub invariant-loop-byte : goal.invariant-loop-byte
invariant-loop-byte l = l.number ≡ digits_value (take l.byte-index l.whole)

abbrev pub invariant-loop-decimal : goal.invariant-loop-decimal
invariant-loop-decimal l = l.number ≡ digits_value (l.whole ++ take l.decimal-index l.decimals)
