use Rattle.std.proofs.Common.{◌≡◌, ◌<◌, ◌⊎◌, ℕ, min, arith, sym, subst}
use Rattle.counting.specs.Counting.{times}
use Rattle.price_round.specs.Rounds.{no_code, NoneBelow, IsCodeIn}
use Rattle.price_round.specs.Seats.{plan_of, seen_of, held_of, found_code}
use Rattle.price_round.proofs.Allowed.{offers}
use Rattle.price_round.proofs.Offers.{may_offer}
use Rattle.price_round.proofs.Views.{times-contains}
use Rattle.price_round.proofs.calls.offer_at.Goals as goal

pub fetch_min-requires : goal.fetch_min-requires
fetch_min-requires g c =
    let seat = c.args.seat.now in
    let plan = plan_of c.args.round.now in
    let one = seat.one in
    let Fit : ℕ → ℕ → Type 0 = λ k n. ((n ≡ no_code) ⊎ IsCodeIn plan k n) × NoneBelow plan k (min (seen_of seat) n) in
    let may = subst (λ n. Fit g.J.Aim.chunk n) (sym c.code_of.ensures) (subst (λ k. Fit k (found_code c.args.found)) c.requires.aim
    (may_offer c.args.round.now seat c.args.chunk c.args.found c.requires.found)) in
    let holds = subst (λ k. 0 < times k (held_of seat)) c.requires.aim (times-contains (held_of seat) c.args.chunk c.requires.held) in
    (c.requires.round.0, omega arith, offers _ _ _ _ (omega arith) c.requires.round.1 g.J.Aim.chunk _ holds may.0 may.1)
