-- The factors along a run. They are made for the basis of the start, updated at each exchange, and made anew for the new basis where they
-- have had the most updates. Where a basis is dependent there are none; along a run none is.
use Rattle.std.specs.Prelude.{ℕ, ◌+◌, ◌≤◌, ◌==◌, List, [], ◌∷◌, Option, Some, None, if◌then◌else◌}
use Rattle.lp_model.specs.declared.Entry.{Entry}
use Rattle.lp_model.specs.declared.Entry.TheVariants.{Flip, Swap, Turn}
use Rattle.rational.specs.Rational.{ℚ}
use Rattle.rational.specs.Worked.{Worked, done, bind}
use Rattle.lp_run.specs.Instance.{Instance, coefficient, row_count}
use Rattle.lp_run.specs.Solution.{basis_entry}
use Rattle.lp_run.specs.State.{State, after, start_of}
use Rattle.factor_model.specs.Eta.{apply}
use Rattle.factor_model.specs.Factoring.{made_factors}
use Rattle.factor_model.specs.Factors.{Factors, AreFactors, most_updates, updated}
use Rattle.factor_model.specs.Vectors.{vector}

-- the factors of a state's basis, made at a number of the log
abbrev pub made_anew : Instance → State → ℕ → Worked (Option Factors)
made_anew inst s base = made_factors (row_count inst) (basis_entry inst s) base

-- column q of the equations as a vector
abbrev pub entering_column : Instance → ℕ → List ℚ
entering_column inst q = vector (row_count inst) (λ i. coefficient inst i q)

-- the factors after column q came into position p, which led to the state s of number k: the spike is worked where q's column is solved for
abbrev pub exchanged : Instance → State → ℕ → Factors → ℕ → ℕ → Worked (Option Factors)
exchanged inst s k f p q =
    if f.updates == most_updates then made_anew inst s k
    else bind (updated f p (apply (entering_column inst q) f.etas).answer) (λ g. done (Some g))

-- the factors after an entry of the log, the one before number k, which led to the state s
abbrev pub followed : Instance → State → ℕ → Factors → Entry → Worked (Option Factors)
followed inst s k f (Swap q p end) = exchanged inst s k f p q
followed inst s k f (Flip q) = done (Some f)
followed inst s k f Turn = done (Some f)

-- the same, where there are factors
abbrev pub followed_if : Instance → State → ℕ → Entry → Option Factors → Worked (Option Factors)
followed_if inst s k e None = done None
followed_if inst s k e (Some f) = followed inst s k f e

-- the factors after these entries, from the state s of number k on
abbrev pub built_from : Instance → State → ℕ → List Entry → Option Factors → Worked (Option Factors)
built_from inst s k [] f = done f
built_from inst s k (e ∷ log) f = bind (followed_if inst (after s e) (k + 1) e f) (λ g. built_from inst (after s e) (k + 1) log g)

-- the factors after the entries of a log
abbrev pub built : Instance → List Entry → Worked (Option Factors)
built inst log = bind (made_anew inst (start_of inst) 0) (λ f. built_from inst (start_of inst) 0 log f)

-- there are factors, they are factors of the state's basis, and have had no more updates than they may
abbrev pub StandFor : Instance → State → Option Factors → Type 0
StandFor inst s None = ⊥
StandFor inst s (Some f) = AreFactors (row_count inst) f (basis_entry inst s) × (f.updates ≤ most_updates)
