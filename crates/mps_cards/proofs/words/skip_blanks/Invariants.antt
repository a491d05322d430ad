use Rattle.std.proofs.Common.{◌≡◌, length}
use Rattle.lp_text.specs.Cards.{without_leading}
use Rattle.mps_cards.proofs.words.skip_blanks.Given as goal

-- the blanks before the text are all that it has lost
abbrev pub invariant-leading : goal.invariant-leading
invariant-leading l = without_leading l.text ≡ without_leading l.fn.text

abbrev pub decreases-leading : goal.decreases-leading
decreases-leading l = length l.text
