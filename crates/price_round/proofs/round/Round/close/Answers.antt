use Rattle.std.proofs.Common.{ap, arith}
use Rattle.counting.specs.Counting.{times}
use Rattle.price_round.proofs.Allowed.{glances}
use Rattle.price_round.proofs.Codes.{least_of_all}
use Rattle.price_round.proofs.round.Round.close.Goals as goal

pub load-code-requires : goal.load-code-requires
load-code-requires c =
    let token = c.gather-token.ensures in
    (token.table.0, omega arith, glances _ _ _ _ token.all.1 token.table.1)

pub choice_of-requires : goal.choice_of-requires
choice_of-requires c =
    let token = c.gather-token.ensures in
    let known = c.load-code.ensures.2.whole _ token.table.1 token.all.0 in
    least_of_all _ _ _ _ known.0 _ (λ x. ap (times x) token.all.2) token.all.3 known.1
