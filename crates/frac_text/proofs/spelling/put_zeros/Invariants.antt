use Rattle.std.proofs.Common.{◌≡◌, ◌++◌, replicate}
use Rattle.frac_text.proofs.spelling.put_zeros.Given as goal

-- so many zeros stand there
abbrev pub invariant-loop : goal.invariant-loop
invariant-loop l = l.text.items ≡ l.fn.text.items ++ replicate l.counter 48
