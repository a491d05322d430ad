use Rattle.std.proofs.Common.{◌≡◌, drop}
use Rattle.lp_text.specs.Cards.{words_of}
use Rattle.mps_cards.proofs.words.word_at.Given as goal

abbrev pub invariant-words : goal.invariant-words
invariant-words l = words_of l.rest ≡ drop (l.counter) (words_of l.text)
