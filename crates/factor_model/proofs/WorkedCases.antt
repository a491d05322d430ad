-- Small factors, computed.
use Rattle.std.proofs.Common.{◌≡◌, ℕ, zero, suc, ℤ, pos, negsuc, List, [], ◌∷◌, Some, refl}
use Rattle.rational.specs.Rational.{ℚ, whole, zero_ℚ, one_ℚ, eq_ℚ}
use Rattle.rational.specs.Sum.{at}
use Rattle.rational.specs.Worked.{done, work, bind, settle, less, less_unless, quotient, is_skipped}
use Rattle.rational.specs.Width.{fits_width}
use Rattle.sparse_cols.specs.Sparse.{Sparse}
use Rattle.factor_model.specs.declared.Op.TheVariants.{Column, Row}
use Rattle.factor_model.specs.Upper.{place_one, solve_one, back_item}
use Rattle.factor_model.specs.Update.{multiplier}
use Rattle.factor_model.specs.Factors.{Factors, ftran, btran, updated}
use Rattle.factor_model.specs.Factoring as factoring
use Rattle.factor_model.specs.Factoring.{Elimination, Factored, eliminated_by, pivoted, factored, least, start}

-- a whole number
n : ℤ → ℚ
unfolding whole
n a = whole a

column : List (ℕ × ℚ) → Sparse ℚ
column pairs = record { length = 2; pairs = pairs }

-- ---- an update: the columns (1, 0) and (1, 1), of which the first becomes (3, 2)

before : Factors
unfolding n column
before = record {
  etas = [];
  upper = record {
    columns = column ((0, n (pos 1)) ∷ []) ∷ column ((0, n (pos 1)) ∷ (1, n (pos 1)) ∷ []) ∷ [];
    rows = 0 ∷ 1 ∷ [];
    order = 0 ∷ 1 ∷ [];
  };
  updates = 0;
  base = 0;
}

after : Factors
unfolding n column
after = record {
  etas = Row 0 (column ((1, n (pos 1)) ∷ [])) ∷ [];
  upper = record {
    columns = column ((0, n (pos 1)) ∷ (1, n (pos 2)) ∷ []) ∷ column ((1, n (pos 1)) ∷ []) ∷ [];
    rows = 0 ∷ 1 ∷ [];
    order = 1 ∷ 0 ∷ [];
  };
  updates = 1;
  base = 0;
}

spike_of_new : (ftran before (n (pos 3) ∷ n (pos 2) ∷ [])).answer ≡ (n (pos 3) ∷ n (pos 2) ∷ [], n (pos 1) ∷ n (pos 2) ∷ [])
unfolding before n column bind done quotient less less_unless work place_one solve_one is_skipped
spike_of_new = refl

one_update : settle 127 (updated before 0 (n (pos 3) ∷ n (pos 2) ∷ [])) ≡ Some after
unfolding before after n column bind done quotient less work multiplier is_skipped settle fits_width eq_ℚ zero_ℚ
one_update = refl

for_column : (ftran after (n (pos 1) ∷ n (pos 1) ∷ [])).answer.1 ≡ n (pos 0) ∷ n (pos 1) ∷ []
unfolding after n column bind done quotient less less_unless work place_one solve_one is_skipped
for_column = refl

for_row : (btran after (n (pos 1) ∷ n (pos 1) ∷ [])).answer ≡ n (negsuc 0) ∷ n (pos 2) ∷ []
unfolding after n column bind done quotient less less_unless work back_item is_skipped
for_row = refl

-- ---- factoring

-- the columns (1, 2) and (2, 4) are dependent: the second row less twice the first is 0
dependent : ℕ → ℕ → ℚ
unfolding n
dependent i p = at (at_column p) i
  where
    at_column : ℕ → List ℚ
    at_column zero = n (pos 1) ∷ n (pos 2) ∷ []
    at_column (suc p) = n (pos 2) ∷ n (pos 4) ∷ []

combination : (factored 2 dependent).answer ≡ factoring.singular (n (negsuc 1) ∷ n (pos 1) ∷ [])
unfolding dependent n bind done quotient less less_unless work is_skipped eliminated_by pivoted eq_ℚ zero_ℚ one_ℚ
combination = refl

-- the rows {0}, {0, 1} and {0, 2}: the first pivot stands in row 0 and position 0
three : ℕ → ℕ → ℚ
unfolding n
three i p = at (at_row i) p
  where
    at_row : ℕ → List ℚ
    at_row zero = n (pos 1) ∷ n (pos 0) ∷ n (pos 0) ∷ []
    at_row (suc zero) = n (pos 1) ∷ n (pos 1) ∷ n (pos 0) ∷ []
    at_row (suc (suc i)) = n (pos 1) ∷ n (pos 0) ∷ n (pos 1) ∷ []

first_pivot : least (start 3 three) ≡ Some (0, 0)
unfolding three n eq_ℚ zero_ℚ
first_pivot = refl

-- its first operation takes row 0 from both others, and the form is the unit matrix
sparse_of : List (ℕ × ℚ) → Sparse ℚ
sparse_of pairs = record { length = 3; pairs = pairs }

factors_of_three : (factored 3 three).answer
    ≡ factoring.whole
    (Column 0 (sparse_of ((1, n (pos 1)) ∷ (2, n (pos 1)) ∷ [])) ∷ Column 1 (sparse_of []) ∷ Column 2 (sparse_of []) ∷ [])
    (record {
      columns = sparse_of ((0, n (pos 1)) ∷ []) ∷ sparse_of ((1, n (pos 1)) ∷ []) ∷ sparse_of ((2, n (pos 1)) ∷ []) ∷ [];
      rows = 0 ∷ 1 ∷ 2 ∷ [];
      order = 0 ∷ 1 ∷ 2 ∷ [];
    })
unfolding three n sparse_of bind done quotient less less_unless work is_skipped eliminated_by pivoted eq_ℚ zero_ℚ one_ℚ
factors_of_three = refl
