use Rattle.std.proofs.Common.{◌∙◌, ap, arith}
use Rattle.price_round.proofs.Allowed.{glances}
use Rattle.price_round.proofs.Codes.{sees}
use Rattle.price_round.proofs.round.Round.glance.Goals as goal

pub load-code-requires : goal.load-code-requires
load-code-requires c =
    let one = c.args.seat.now.one in
    (c.requires.0, omega arith, glances _ _ _ _ (omega arith) c.requires.1)

pub returns-in-Some-clause-stopper : goal.returns-in-Some-clause-stopper
returns-in-Some-clause-stopper c =
    let tells = c.load-code.ensures.2 in
    let is = c.in-Some.ensures in
    (_, ap (λ m. m.0.seen) tells.view ∙ is.1, sees _ _ _ _ is.0 is.1 (tells.code _ c.requires.1))
