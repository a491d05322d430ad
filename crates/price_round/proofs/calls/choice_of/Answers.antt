use Rattle.std.proofs.Common.{ap, sym}
use Rattle.price_round.proofs.Codes.{choice_some}
use Rattle.price_round.proofs.calls.choice_of.Goals as goal

pub returns-in-Some : goal.returns-in-Some
returns-in-Some c =
    let round = c.args.round.now in
    let is = c.in-Some.ensures in
    let made = choice_some _ round.few _ c.requires c.in-Some.column c.in-Some.unfit is.0 is.1 in
    record { number = ap (λ t. t.number) (sym round.of_ticket); stopper = made.stopper; none_fits = made.none_fits }
