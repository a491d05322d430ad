use Rattle.std.proofs.Common.{◌≡◌, map, option_and_then, length}
use Rattle.std.specs.String.{string_bytes}
use Rattle.lp_words.specs.Words.{nothing_given, settings_of, with_all}
use Rattle.lp_words.proofs.given.Given.of.Given as goal

-- what the words give is what is given so far with what the rest of them sets
abbrev pub invariant-loop-rest : goal.invariant-loop-rest
invariant-loop-rest l = option_and_then (with_all nothing_given) (settings_of (map string_bytes l.words)) ≡ option_and_then (with_all l.given) (settings_of (map string_bytes l.rest))

abbrev pub decreases-loop-rest : goal.decreases-loop-rest
decreases-loop-rest l = length l.rest
