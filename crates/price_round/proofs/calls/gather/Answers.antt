use Rattle.std.proofs.Common.{[], ◌≡◌, ◌+◌, ◌++◌, ◌∙◌, ap, arith}
use Rattle.price_round.specs.Seats.{held_of, IsSeatOf}
use Rattle.price_round.specs.declared.round.Seat.{Seat}
use Rattle.price_round.proofs.Allowed.{joins}
use Rattle.price_round.proofs.Seated.{some_ended, all_last, nones_last}
use Rattle.price_round.proofs.calls.gather.Goals as goal

pub loop-seat-init : goal.loop-seat-init
loop-seat-init c =
    let last = c.in-Some.field-0 in
    let items = c.in-Some.ensures.items in
    let seats = all_last _ _ last items (IsSeatOf c.args.round.now) c.requires.seats in
    let offered = all_last _ _ last items (λ (s : Seat). held_of s ≡ []) c.requires.offered in
    let one = last.one in
    let ended = some_ended c.args.seats.items c.requires.ended in
    let nones = nones_last _ _ last items in
    let cases = c.in-Some.ensures.cases in
    let count = c.requires.count in
    (seats.1.0, seats.1.1, offered.1, omega arith, omega arith, omega arith, seats.0, offered.0)

pub join_seat-requires : goal.join_seat-requires
join_seat-requires c =
    let i = c.loop-seat.invariant in
    let last = c.in-Some-pop.field-0 in
    let seats = all_last _ _ last c.in-Some-pop.ensures.items (IsSeatOf c.args.round.now) i.6 in
    (i.0, seats.1.0, last.empty, omega arith, joins _ _ _ _ _ i.4)

pub loop-seat-preserved : goal.loop-seat-preserved
loop-seat-preserved c =
    let i = c.loop-seat.invariant in
    let last = c.in-Some-pop.field-0 in
    let items = c.in-Some-pop.ensures.items in
    let seats = all_last _ _ last items (IsSeatOf c.args.round.now) i.6 in
    let offered = all_last _ _ last items (λ (s : Seat). held_of s ≡ []) i.7 in
    let made = c.join_seat.ensures.2 in
    let one = last.one in
    let nones = nones_last _ _ last items in
    let cases = c.in-Some-pop.ensures.cases in
    let parts : c.join_seat.new.seat.me.0.parts ≡ c.loop-seat.token.me.0.parts + last.seat.me.0.parts = ap (λ m. m.0.parts) made in
    let nones' : c.join_seat.new.seat.me.0.nones ≡ c.loop-seat.token.me.0.nones + last.seat.me.0.nones = ap (λ m. m.0.nones) made in
    let count = i.3 in
    let some = i.5 in (
      c.join_seat.ensures.0 ∙ i.0,
      ap (λ m. m.0.plan) made ∙ i.1,
      ap (λ m. m.0.held) made ∙ (ap (λ h. h ++ held_of last) i.2 ∙ offered.1),
      omega arith,
      omega arith,
      omega arith,
      seats.0,
      offered.0,
    )
