-- The factors of the start's basis work no value: each of its columns has one entry, in the row of its own position.
use Rattle.std.proofs.Common.{◌≡◌, ◌≢◌, ℕ, ◌<◌, [], Some, None, ◌∙◌, ap, cond}
use Rattle.std.specs.List.{list_all}
use Rattle.rational.specs.Rational.{zero_ℚ}
use Rattle.rational.specs.Width.{fits_width}
use Rattle.rational.specs.Worked.{Worked, settle}
use Rattle.rational.proofs.SparseLaws.{at_index-other}
use Rattle.lp_run.specs.Instance.{Instance, row_count}
use Rattle.lp_run.specs.Solution.{basis_entry}
use Rattle.lp_run.specs.State.{start_of}
use Rattle.lp_run.proofs.Start.{pivot_sign, start_basis_entry}
use Rattle.factor_model.proofs.DiagonalLaws.{made-unworked}
use Rattle.factor_run.specs.Built.{made_anew}

-- a calculation that works no value has its answer at each width
unworked-settles : {A : Type 0} (w : ℕ) (c : Worked A) → c.values ≡ [] → settle w c ≡ Some c.answer
unfolding settle
unworked-settles w c none = ap (λ values. cond (list_all (fits_width w) values) (Some c.answer) None) none

module _ (inst : Instance) where
  start-diagonal : (i p : ℕ) → i < row_count inst → p < row_count inst → i ≢ p → basis_entry inst (start_of inst) i p ≡ zero_ℚ
  start-diagonal i p within below other = start_basis_entry inst i p below ∙ at_index-other i p (pivot_sign inst p) other

  -- making the factors of the start's basis works no value
  pub start-unworked : (made_anew inst (start_of inst) 0).values ≡ []
  start-unworked = made-unworked (row_count inst) (basis_entry inst (start_of inst)) start-diagonal 0

-- so they are made at each width
pub start-settled : (w : ℕ) (inst : Instance) → settle w (made_anew inst (start_of inst) 0) ≡ Some (made_anew inst (start_of inst) 0).answer
start-settled w inst = unworked-settles w (made_anew inst (start_of inst) 0) (start-unworked inst)

pub start-settles : (w : ℕ) (inst : Instance) → settle w (made_anew inst (start_of inst) 0) ≡ None → ⊥
start-settles w inst none = let some = start-settled w inst in absurd cc
