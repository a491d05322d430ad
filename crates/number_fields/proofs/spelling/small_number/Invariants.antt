use Rattle.std.proofs.Common.{◌≡◌, take, min}
use Rattle.lp_text.specs.Digits.{digits_value}
use Rattle.number_fields.proofs.spelling.small_number.Given as goal

abbrev pub invariant-loop-byte : goal.invariant-loop-byte
invariant-loop-byte l = l.number ≡ min (digits_value (take l.byte-index l.text)) 31
