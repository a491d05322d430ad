use Rattle.std.proofs.Common.{ap, arith, sym, subst}
use Rattle.price_round.specs.Rounds.{kept_part, fresh_part}
use Rattle.price_round.proofs.Allowed.{cuts}
use Rattle.price_round.proofs.Seated.{fresh_cut}
use Rattle.price_round.specs.Inner.{IsCut}
use Rattle.price_round.proofs.calls.deal.Goals as goal

pub split_seat-seat-requires : goal.split_seat-seat-requires
split_seat-seat-requires c =
    let i = c.loop.invariant in
    let p = i.3.0 in
    let parts = i.3.1 in
    let cut = subst (λ v. IsCut v (kept_part v) (fresh_part v)) (sym (ap (λ m. m.0) i.3.2)) (fresh_cut _ p (omega arith)) in
    (i.0, omega arith, cuts _ _ _ _ _ cut)
