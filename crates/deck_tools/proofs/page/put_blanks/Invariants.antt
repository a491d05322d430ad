use Rattle.std.proofs.Common.{◌≡◌, ◌++◌, replicate}
use Rattle.deck_tools.proofs.page.put_blanks.Given as goal

-- so many blanks stand there
abbrev pub invariant-loop : goal.invariant-loop
invariant-loop l = l.line.items ≡ l.fn.line.items ++ replicate l.counter 32
