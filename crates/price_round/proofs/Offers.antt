-- What may be offered is what the rule asks.
use Rattle.std.proofs.Common.{◌≡◌, ℕ, ◌<◌, ◌⊎◌, Bool, false, Some, None, min, refl, arith, ⊎_elim, inl, inr}
use Rattle.std.specs.Prelude.{Option}
use Rattle.price_round.specs.declared.round.Round.{Round}
use Rattle.price_round.specs.declared.round.Seat.{Seat}
use Rattle.price_round.specs.Rounds.{chunk_start, code_of, no_code, NoneBelow, IsCodeIn}
use Rattle.price_round.specs.Seats.{IsFirstIn, MayOffer, found_code, plan_of, seen_of}
use Rattle.price_round.proofs.Codes.{code_of-range, first_least}

pub may_offer : (round : Round) (seat : Seat) (chunk : ℕ) (found : Option (ℕ × Bool)) → MayOffer round seat chunk found
    → ((found_code found ≡ no_code) ⊎ IsCodeIn (plan_of round) chunk (found_code found)) × NoneBelow (plan_of round) chunk (min (seen_of seat) (found_code found))
may_offer round seat chunk None may = (
  inl refl,
  λ j unfit from to stops. ⊎_elim
      (λ (nothing : IsFirstIn round chunk None). absurd (nothing j from to unfit stops))
      (λ (lower : seen_of seat < code_of (chunk_start chunk) false). omega (arith, code_of-range j unfit)) may,
)
may_offer round seat chunk (Some (column, unfit)) may = (
  inr (record { column = column; unfit = unfit; from = may.0; to = may.1; stops = may.2; code_is = refl }),
  λ j t from to stops. omega (arith, first_least (plan_of round) (chunk_start chunk) column unfit may.2 may.3 j t from stops),
)
