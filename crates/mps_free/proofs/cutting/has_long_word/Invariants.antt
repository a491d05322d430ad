use Rattle.std.proofs.Common.{◌≡◌, length, nat_lt}
use Rattle.std.specs.List.{list_any}
use Rattle.lp_text.specs.Cards.{words_of}
use Rattle.lp_text.specs.Limits.{token_limit}
use Rattle.mps_free.proofs.cutting.has_long_word.Given as goal

abbrev pub invariant-words : goal.invariant-words
invariant-words l = list_any (λ word. nat_lt token_limit (length word)) (words_of l.rest) ≡ list_any (λ word. nat_lt token_limit (length word)) (words_of l.fn.text)

abbrev pub decreases-words : goal.decreases-words
decreases-words l = length l.rest
