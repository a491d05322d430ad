-- A number that is not 0 is refused where the deck is full.
use Rattle.std.proofs.Common.{◌≡◌, ◌≢◌, false, true, refl, arith}
use Rattle.rational.specs.Rational.{zero_ℚ}
use Rattle.mps_reader.proofs.Room.{room-none, room-zero}
use Rattle.mps_reader.proofs.draft.Draft.check_room.Goals as goal

pub returns-then-is_zero : goal.returns-then-is_zero
returns-then-is_zero c = room-zero c.args.self.now.deck c.args.value (c.is_zero.ensures.0 c.if-is_zero.true)

pub returns-then-entries-ge-ENTRY_LIMIT : goal.returns-then-entries-ge-ENTRY_LIMIT
returns-then-entries-ge-ENTRY_LIMIT c =
    let other : c.args.value ≢ zero_ℚ = λ e. let zero : c.is_zero.result ≡ true = c.is_zero.ensures.1 e in let none : c.is_zero.result ≡ false = c.if-is_zero.false in cc (zero, none) in
    (room-none c.args.self.now.deck c.args.value other (omega (arith, c.entries.ensures)), refl)
