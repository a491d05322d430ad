use Rattle.std.proofs.Common.{arith, ap, refl, length, drop, ◌-◌}
use Rattle.std.proofs.lemmas.List.{length-drop, length-take}
use Rattle.mps_cards.proofs.WordLemmas.{length-without_leading, words-none, words-split}
use Rattle.mps_cards.proofs.words.split_word.Goals as goal

pub returns-then-end-eq0-clause-words : goal.returns-then-end-eq0-clause-words
returns-then-end-eq0-clause-words c =
    words-none c.args.text.now c.skip_blanks-text.result.now c.first_place-end.result c.skip_blanks-text.ensures c.first_place-end.ensures.found c.if-end-eq0.true

pub returns-clause-words : goal.returns-clause-words
returns-clause-words c =
    let found = c.first_place-end.ensures in
    words-split c.args.text.now c.skip_blanks-text.result.now _ c.first_place-end.result refl c.skip_blanks-text.ensures found.within found.before found.found c.if-end-eq0.false

pub returns-clause-shorter : goal.returns-clause-shorter
returns-clause-shorter c =
    let front = c.skip_blanks-text.result.now in
    let end = c.first_place-end.result in
    omega (arith, length-take (length front - end) (drop end front), length-drop end front, length-without_leading c.args.text.now, ap length c.skip_blanks-text.ensures)
