use Rattle.std.proofs.Common.{ap, drop, sym, ◌∙◌}
use Rattle.std.proofs.lemmas.List.{drop-drop}
use Rattle.lp_text.specs.Cards.{words_of}
use Rattle.mps_cards.proofs.words.word_at.Goals as goal

pub words-preserved : goal.words-preserved
words-preserved c =
    ap (drop 1) (sym c.in-Some.ensures.words ∙ c.words.invariant) ∙ drop-drop 1 c.words.counter (words_of c.args.text.now)
