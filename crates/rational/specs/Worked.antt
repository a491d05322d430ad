-- Worked values: the numbers that a calculation works, in the order in which it works them, and its answer. A product of a zero
-- factor is skipped: nothing is listed for it, neither the product nor what would have been added or taken off.
use Rattle.std.specs.Prelude.{ℕ, Bool, ◌||◌, List, [], ◌∷◌, ◌++◌, map, Option, Some, None, if◌then◌else◌}
use Rattle.std.specs.List.{list_all}
use Rattle.rational.specs.Rational.{ℚ, zero_ℚ, ◌+ℚ◌, ◌-ℚ◌, ◌*ℚ◌, ◌/ℚ◌, eq_ℚ}
use Rattle.rational.specs.Width.{fits_width}

-- the worked values in order, and the answer
pub record Worked (A : Type 0) : Type 0 where
  pub values : List ℚ
  pub answer : A

-- an answer for which nothing is worked
unfoldable pub done : {A : Type 0} → A → Worked A
done a = record { values = []; answer = a }

-- one worked value, which is the answer
unfoldable pub work : ℚ → Worked ℚ
work a = record { values = a ∷ []; answer = a }

-- a calculation, and then one that goes on from its answer
unfoldable pub bind : {A B : Type 0} → Worked A → (A → Worked B) → Worked B
bind c f = record { values = c.values ++ (f c.answer).values; answer = (f c.answer).answer }

-- the answer at a width: there is one where each worked value fits
unfoldable pub settle : {A : Type 0} → ℕ → Worked A → Option A
settle w c = if list_all (fits_width w) c.values then Some c.answer else None

-- whether a product has a zero factor
unfoldable pub is_skipped : ℚ → ℚ → Bool
unfolding zero_ℚ eq_ℚ
is_skipped a b = eq_ℚ a zero_ℚ || eq_ℚ b zero_ℚ

-- x less the product of a and b
unfoldable pub less : ℚ → ℚ → ℚ → Worked ℚ
unfolding is_skipped bind work done ◌-ℚ◌ ◌*ℚ◌
less x a b = if is_skipped a b then done x else bind (work (a *ℚ b)) (λ product. work (x -ℚ product))

-- the sum of x and the product of a and b
unfoldable pub more : ℚ → ℚ → ℚ → Worked ℚ
unfolding is_skipped bind work done ◌+ℚ◌ ◌*ℚ◌
more x a b = if is_skipped a b then done x else bind (work (a *ℚ b)) (λ product. work (x +ℚ product))

-- x less the product, unless it is left out
unfoldable pub less_unless : Bool → ℚ → ℚ → ℚ → Worked ℚ
unfolding less done
less_unless out x a b = if out then done x else less x a b

-- a divided by b
unfoldable pub quotient : ℚ → ℚ → Worked ℚ
unfolding work ◌/ℚ◌
quotient a b = work (a /ℚ b)

-- the worked values of a calculation, all at one place of a listing
abbrev pub placed : {P A : Type 0} → P → Worked A → List (P × ℚ)
placed place c = map (λ value. (place, value)) c.values

-- the values of a listing, without their places
abbrev pub listed : {P : Type 0} → List (P × ℚ) → List ℚ
listed listing = map (λ entry. entry.1) listing
