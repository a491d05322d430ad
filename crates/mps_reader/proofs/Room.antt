-- Room for one number more.
use Rattle.std.proofs.Common.{◌≡◌, ◌≢◌, ◌≤◌, ◌||◌, true, false, nat_lt, ap, ap₂}
use Rattle.std.proofs.lemmas.Bool.{le-ltb}
use Rattle.rational.specs.Rational.{ℚ, zero_ℚ}
use Rattle.rational.proofs.OrderLaws.{eq_ℚ-decides, eq_ℚ-other}
use Rattle.lp_model.specs.Deck.{Deck}
use Rattle.lp_model.specs.Edit.{entry_count}
use Rattle.lp_text.specs.Limits.{entry_limit}
use Rattle.mps_reader.specs.Inner.Placed.{has_room_in}

pub room-zero : (d : Deck) (v : ℚ) → v ≡ zero_ℚ → has_room_in d v ≡ true
room-zero d v is = ap (λ b. b || nat_lt (entry_count d) entry_limit) ((eq_ℚ-decides v zero_ℚ).1 is)

pub room-none : (d : Deck) (v : ℚ) → v ≢ zero_ℚ → entry_limit ≤ entry_count d → has_room_in d v ≡ false
room-none d v other many = ap₂ (λ a b. a || b) (eq_ℚ-other v other) (le-ltb (entry_count d) entry_limit many)
