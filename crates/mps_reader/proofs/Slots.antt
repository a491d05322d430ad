-- Marks of rows, and the numbers of rows.
use Rattle.std.proofs.Common.{◌≡◌, ℕ, zero, suc, Bool, false, List, [], replicate, Option, Some, None, is_some, refl, ap, ◌∙◌}
use Rattle.sparse_cols.specs.Work.{value_in}
use Rattle.mps_reader.specs.Inner.Standing.{is_marked}

cleared : (n k : ℕ) → value_in {V = Bool} (replicate n None) k ≡ None
cleared zero k = refl
cleared (suc n) zero = refl
cleared (suc n) (suc k) = cleared n k

-- where marks are clear, no row is marked
pub unmarked : (n : ℕ) (slot : Option ℕ) → is_marked (replicate n None) slot ≡ false
unmarked n None = refl
unmarked n (Some k) = ap is_some (cleared n k)

-- no marks mark no row
pub unmarked_none : (marks : List (Option Bool)) (slot : Option ℕ) → marks ≡ [] → is_marked marks slot ≡ false
unmarked_none marks slot e = ap (λ m. is_marked m slot) e ∙ by slot
  where
    by : (o : Option ℕ) → is_marked [] o ≡ false
    by None = refl
    by (Some k) = refl
