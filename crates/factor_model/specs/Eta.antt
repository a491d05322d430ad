-- Operations on a vector, one after another: the eta file of a factorisation.
use Rattle.std.specs.Prelude.{ℕ, ◌<◌, List, [], ◌∷◌, length, map, reverse, slice_set, sum_by}
use Rattle.std.specs.List.{All}
use Rattle.rational.specs.Rational.{ℚ}
use Rattle.rational.specs.Sum.{at}
use Rattle.rational.specs.Worked.{Worked, done, bind}
use Rattle.rational.specs.Lines.{gather, subtract}
use Rattle.sparse_cols.specs.Sparse.{IsRising}
use Rattle.factor_model.specs.declared.Op.{Op}
use Rattle.factor_model.specs.declared.Op.TheVariants.{Column, Row}

-- the vector after one operation
abbrev pub operate : Op → List ℚ → Worked (List ℚ)
operate (Column p k) v = subtract p (at v p) v k.pairs
operate (Row p k) v = bind (gather p v (at v p) k.pairs) (λ rest. done (slice_set v p rest))

-- the vector after all operations, in order
abbrev pub apply : List ℚ → List Op → Worked (List ℚ)
apply v [] = done v
apply v (op ∷ ops) = bind (operate op v) (λ u. apply u ops)

-- the operation whose matrix is the transposed one
abbrev pub transposed : Op → Op
transposed (Column p k) = Row p k
transposed (Row p k) = Column p k

-- the vector after the transposed operations, in reverse order
abbrev pub apply_back : List ℚ → List Op → Worked (List ℚ)
apply_back v ops = apply v (map transposed (reverse ops))

-- the operation reads and writes items below n
abbrev pub IsOp : ℕ → Op → Type 0
IsOp n (Column p k) = (p < n) × IsRising n 0 k.pairs
IsOp n (Row p k) = (p < n) × IsRising n 0 k.pairs

-- and so does each of these
abbrev pub AreOps : ℕ → List Op → Type 0
AreOps n ops = All (IsOp n) ops

-- how many entries an operation has
abbrev pub entries : Op → ℕ
entries (Column p k) = length k.pairs
entries (Row p k) = length k.pairs

-- how many entries all operations have
abbrev pub stored : List Op → ℕ
stored ops = sum_by entries ops
