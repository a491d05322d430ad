use Rattle.std.proofs.Common.{◌≡◌, ◌∙◌, cond, ap, arith}
use Rattle.price_round.specs.Seats.{held_of, done_of}
use Rattle.price_round.proofs.Allowed.{claims}
use Rattle.price_round.proofs.Views.{times-below}
use Rattle.price_round.proofs.round.Round.claim.Goals as goal

pub fetch_add-found-requires : goal.fetch_add-found-requires
fetch_add-found-requires c =
    let seat = c.args.seat.now in
    let one = seat.one in
    let fresh : seat.seat.me.0.nones ≡ 0 = seat.over_is ∙ ap (λ b. cond b 1 0) c.if-seat.false in
    (c.requires.0, omega arith, claims _ _ _ _ (omega arith) c.requires.1 (omega arith))

pub returns-then-found-chunks-clause-above : goal.returns-then-found-chunks-clause-above
returns-then-found-chunks-clause-above c =
    let tells = c.fetch_add-found.ensures.2 _ c.requires.1 in
    let given = tells.0 (omega arith) in (
      times-below _ (held_of c.args.seat.now) (λ x more. given.1 x (omega arith)),
      times-below _ (done_of c.args.seat.now) (λ x more. given.1 x (omega arith)),
    )
