-- What a call that works values in order answers: `Unfit` exactly where one of them does not fit the width, else the calculation's
-- answer, in its result (`Settles`) or in a buffer (`Leaves`).
use Rattle.std.specs.Prelude.{◌≡◌, ℕ, Some, None, Result, MatchResult}
use Rattle.rational.specs.Worked.{Worked, settle}
use Rattle.exact_frac.specs.declared.unfit.Unfit.{Unfit}

-- the result is the calculation's answer
abbrev pub Settles : {A : Type 0} → ℕ → Worked A → Result A Unfit → Type 0
Settles w c result = MatchResult result (λ answer. settle w c ≡ Some answer) (λ _. settle w c ≡ None)

-- the answer is what a buffer holds at the return
abbrev pub Leaves : {A B : Type 0} → ℕ → Worked A → Result B Unfit → A → Type 0
Leaves w c result left = MatchResult result (λ _. settle w c ≡ Some left) (λ _. settle w c ≡ None)
