use Rattle.std.proofs.Common.{arith, subst}
use Rattle.price_round.specs.Inner.{IsCut}
use Rattle.price_round.specs.Rounds.{glanced}
use Rattle.price_round.proofs.Allowed.{cuts}
use Rattle.price_round.proofs.survey.cut_at.Goals as goal

pub split_seat-requires : goal.split_seat-requires
split_seat-requires g c =
    let v = c.args.token.now.me.0 in
    let named = c.requires.named in
    let rest = subst (λ r. IsCut v (glanced v.seen r) (glanced v.seen c.args.piece.now.value.me.0)) named.0 c.requires.cut in
    let cut = subst (λ p. IsCut v (glanced v.seen g.J.Pieces.rest) (glanced v.seen p)) named.1 rest in
    (c.requires.table, omega arith, cuts _ _ _ _ _ cut)
