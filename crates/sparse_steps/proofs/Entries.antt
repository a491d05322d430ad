-- Entries that are looked up.
use Rattle.std.proofs.Common.{◌≡◌, ℕ, List, [], ◌∷◌, Bool, true, false, Some, cond, eqb, refl}
use Rattle.std.specs.Option.{unwrap_or}
use Rattle.rational.specs.Rational.{ℚ, zero_ℚ}
use Rattle.rational.specs.Sparse.{entry_at}
use Rattle.sparse_cols.specs.Sparse.{value_at}

-- an entry that is looked up, or 0
pub entry_from : (pairs : List (ℕ × ℚ)) (i : ℕ) → unwrap_or (value_at pairs i) zero_ℚ ≡ entry_at pairs i
entry_from [] i = refl
entry_from ((k, v) ∷ pairs) i = by_test (eqb k i) (entry_from pairs i)
  where
    by_test : (b : Bool) → unwrap_or (value_at pairs i) zero_ℚ ≡ entry_at pairs i → unwrap_or (cond b (Some v) (value_at pairs i)) zero_ℚ ≡ cond b v (entry_at pairs i)
    by_test true h = refl
    by_test false h = h
