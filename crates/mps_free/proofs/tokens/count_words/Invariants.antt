use Rattle.std.proofs.Common.{◌≡◌, ◌+◌, ◌≤◌, length}
use Rattle.lp_text.specs.Cards.{words_of}
use Rattle.mps_free.proofs.tokens.count_words.Given as goal

abbrev pub invariant-words : goal.invariant-words
invariant-words l = (l.count + length (words_of l.rest) ≡ length (words_of l.fn.text)) × (l.count + length l.rest ≤ length l.fn.text)

abbrev pub decreases-words : goal.decreases-words
decreases-words l = length l.rest
