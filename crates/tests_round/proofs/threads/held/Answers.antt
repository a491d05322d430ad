use Rattle.std.proofs.Common.{◌≡◌, ◌∷◌, [], refl, sym, subst, arith}
use Rattle.std.specs.Prelude.{All}
use Rattle.std.proofs.lemmas.List.Elements.{All-push}
use Rattle.price_round.specs.declared.round.Seat.{Seat}
use Rattle.price_round.specs.Seats.{held_of, IsSeatOf}
use Rattle.tests_round.proofs.threads.held.Goals as goal

pub offer-requires-clause-held : goal.offer-requires-clause-held
offer-requires-clause-held g c =
    let chunk = c.in-Some-claim.chunk in
    let held : held_of c.claim.new.seat ≡ chunk ∷ held_of c.in-Some.first = c.in-Some-claim.ensures.chunk.1 in
    (0, rw held (omega arith), rw held refl)

pub close-requires-clause-seats : goal.close-requires-clause-seats
close-requires-clause-seats g c =
    subst (All (IsSeatOf c.in_ok-round.round)) (sym c.in_ok-push.ensures.items)
    (All-push (IsSeatOf c.in_ok-round.round) _ _ c.in_ok-seats.ensures.round c.work.ensures.round)

pub close-requires-clause-offered : goal.close-requires-clause-offered
close-requires-clause-offered g c =
    subst (All (λ (s : Seat). held_of s ≡ [])) (sym c.in_ok-push.ensures.items)
    (All-push (λ (s : Seat). held_of s ≡ []) _ _ c.in_ok-seats.ensures.free c.work.ensures.free)
