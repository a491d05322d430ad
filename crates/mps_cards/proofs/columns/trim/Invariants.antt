use Rattle.std.proofs.Common.{◌≡◌, length, reverse}
use Rattle.lp_text.specs.Cards.{trimmed, without_leading}
use Rattle.mps_cards.proofs.columns.trim.Given as goal

-- the blanks around the text are all that it has lost
abbrev pub invariant-trailing : goal.invariant-trailing
invariant-trailing l = reverse (without_leading (reverse l.text)) ≡ trimmed l.fn.text

abbrev pub decreases-trailing : goal.decreases-trailing
decreases-trailing l = length l.text
