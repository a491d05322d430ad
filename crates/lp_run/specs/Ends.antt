-- The outcome of a whole run: what the final state gives.
use Rattle.std.specs.Prelude.{◌≡◌, ℕ, List, [], ◌∷◌, map, ◌==◌, if◌then◌else◌}
use Rattle.lp_model.specs.declared.Entry.{Entry}
use Rattle.lp_model.specs.declared.Sense.{Sense}
use Rattle.lp_model.specs.declared.Sense.TheVariants.{Max, Min}
use Rattle.lp_model.specs.Outcome.{Outcome, infeasible, optimal, unbounded}
use Rattle.rational.specs.Rational.{ℚ, zero_ℚ, ◌+ℚ◌, ◌*ℚ◌, neg_ℚ}
use Rattle.rational.specs.Sparse.{upto}
use Rattle.rational.specs.Sum.{sum_ℚ, at}
use Rattle.lp_run.specs.Instance.{Instance, structural, structural_count}
use Rattle.lp_run.specs.State.{State, rest}
use Rattle.lp_run.specs.Solution.{reduced}
use Rattle.lp_run.specs.Step.{EndsFree, EndsInfeasible, EndsOptimal, direction}
use Rattle.lp_run.specs.Run.{IsRun}

-- the value of the position in which column j is basic; another one where it is in none
abbrev pub by_position : List ℕ → List ℚ → ℕ → ℚ → ℚ
by_position [] values j otherwise = otherwise
by_position (k ∷ basis) [] j otherwise = otherwise
by_position (k ∷ basis) (v ∷ values) j otherwise = if k == j then v else by_position basis values j otherwise

-- the values of the structurals
abbrev pub point : Instance → State → List ℚ → List ℚ
point inst s β = map (λ j. by_position s.basis β j (rest inst s j)) (upto (structural_count inst))

-- the ray along which column q moves without end in the direction t: q itself, and each basic structural against it
abbrev pub ray : Instance → State → ℕ → ℚ → List ℚ → List ℚ
ray inst s q t α = map (λ j. by_position s.basis (map (λ a. neg_ℚ t *ℚ a) α) j (if j == q then t else zero_ℚ)) (upto (structural_count inst))

-- the objective at a point: the constant and the cost of the structurals
abbrev pub objective_at : Instance → List ℚ → ℚ
objective_at inst x = inst.constant +ℚ sum_ℚ (structural_count inst) (λ j. (structural inst j).cost *ℚ at x j)

-- prices as the sense counts them
abbrev pub prices_in : Sense → List ℚ → List ℚ
prices_in Min y = y
prices_in Max y = map neg_ℚ y

-- the outcome that a final state gives
abbrev pub Yields : Instance → State → Outcome → Type 0
Yields inst s (optimal x y v) = (z β : List ℚ) × EndsOptimal inst s z β × (y ≡ prices_in inst.sense z) × (x ≡ point inst s β) × (v ≡ objective_at inst x)
Yields inst s (infeasible y) = (β : List ℚ) × EndsInfeasible inst s y β
Yields inst s (unbounded x r) = (y β α : List ℚ) × (q : ℕ) × EndsFree inst s y β α q × (x ≡ point inst s β) × (r ≡ ray inst s q (direction (reduced inst s y q)) α)

-- the instance's whole run is the log, and its outcome is o
abbrev pub HasOutcome : Instance → List Entry → Outcome → Type 0
HasOutcome inst log o = (s : State) × IsRun inst log s × Yields inst s o
