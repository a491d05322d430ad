-- What an outcome proves, and what an answer of the checker tells of it.
use Rattle.std.specs.Prelude.{◌≡◌, ℕ, ◌+◌, ◌<◌, List, length, true, false, Option, Some, None, Result, Ok, Err}
use Rattle.std.specs.List.{All, AllByRecursion, list_all}
use Rattle.lp_model.specs.Basis.{Basis}
use Rattle.lp_model.specs.Certificate.{Farkas, Proves, Ray, reduced_cost, weighted_column}
use Rattle.lp_model.specs.Deck.{Deck, column, objective}
use Rattle.lp_model.specs.Outcome.{Outcome, optimal, infeasible, unbounded}
use Rattle.rational.specs.Rational.{ℚ, zero_ℚ}
use Rattle.rational.specs.Sum.{at}
use Rattle.rational.specs.Width.{fits_width}
use Rattle.cert_check.specs.declared.verdict.Verdict.{Verdict}
use Rattle.cert_check.specs.declared.verdict.Verdict.TheVariants.{Yes, No}
use Rattle.cert_check.specs.declared.verdict.CheckFault.{CheckFault}
use Rattle.cert_check.specs.declared.verdict.CheckFault.TheVariants.{Memory, Overflow}
use Rattle.cert_check.specs.Items.{is_among, is_at_rest, is_basis}
use Rattle.cert_check.specs.Walk.{Item, walk}

-- the lists of an outcome prove it, and the stated objective is that of the point
abbrev pub IsProved : Deck → Outcome → Type 0
IsProved d (optimal x y stated) = Proves d x y × (objective d x ≡ stated)
IsProved d (infeasible y) = Farkas d y
IsProved d (unbounded x r) = Ray d x r

-- the numbers of a basis are columns of the deck's equations: its own, and a logical and an artificial of each row
pub record IsWithin (d : Deck) (b : Basis) : Type 0 where
  pub basic : All (λ j. j < length d.columns + length d.rows + length d.rows) b.basic
  pub upper : All (λ j. j < length d.columns + length d.rows + length d.rows) b.upper

-- each column that is not basic has its value where the basis tells it to stand
abbrev pub StandsBy : Deck → Basis → List ℚ → Type 0
StandsBy d b x = (j : ℕ) → j < length d.columns → is_among j b.basic ≡ false → is_at_rest (column d j).bounds (is_among j b.upper) (at x j) ≡ true

-- a number of each basic column is 0
abbrev pub IsZeroAt : Deck → Basis → (ℕ → ℚ) → Type 0
IsZeroAt d b f = (j : ℕ) → j < length d.columns → is_among j b.basic ≡ true → f j ≡ zero_ℚ

-- a basis agrees with an outcome. That its columns are independent is not asked
abbrev pub Agrees : Deck → Outcome → Basis → Type 0
Agrees d (optimal x y stated) b = (is_basis b ≡ true) × StandsBy d b x × IsZeroAt d b (reduced_cost d y)
Agrees d (infeasible y) b = (is_basis b ≡ true) × IsZeroAt d b (weighted_column d y)
Agrees d (unbounded x r) b = (is_basis b ≡ true) × StandsBy d b x

-- the outcome is proved, and where a basis is told it agrees
abbrev pub Holds : Deck → Outcome → Option Basis → Type 0
Holds d o None = IsProved d o
Holds d o (Some b) = IsProved d o × Agrees d o b

-- each worked value of each item fits the width
abbrev pub AllFit : ℕ → List Item → Type 0
AllFit w items = AllByRecursion (λ item. list_all (fits_width w) item.sums.values ≡ true) items

-- an acceptance shows that all holds, and that all worked values fit; a rule that is refused shows that not all holds, and an overflow that not all
-- fit. So where all holds and fits the answer is an acceptance, wherever there is memory
abbrev pub Tells : ℕ → Deck → Outcome → Option Basis → Result Verdict CheckFault → Type 0
Tells w d o b (Ok Yes) = Holds d o b × AllFit w (walk d o b)
Tells w d o b (Ok (No rule)) = ¬ Holds d o b
Tells w d o b (Err (Overflow rule)) = ¬ AllFit w (walk d o b)
Tells w d o b (Err Memory) = Unit {0}
