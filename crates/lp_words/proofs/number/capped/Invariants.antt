use Rattle.std.proofs.Common.{◌≡◌, ◌^◌, ◌-◌, min, take}
use Rattle.lp_text.specs.Digits.{digits_value}
use Rattle.lp_words.proofs.number.capped.Given as goal

-- the number of the digits so far
abbrev pub invariant-loop-byte : goal.invariant-loop-byte
invariant-loop-byte l = l.number ≡ min (digits_value (take l.byte-index l.text)) (2 ^ 32 - 1)
