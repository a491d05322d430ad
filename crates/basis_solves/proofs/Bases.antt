-- The columns of a basis: they are those of its matrix, they store no 0, and they are independent.
use Rattle.std.proofs.Common.{◌≡◌, ◌≢◌, ℕ, ◌+◌, ◌<◌, List, [], ◌∷◌, length, map, get_or, Option, Some, None, pos, refl, sym, ◌∙◌, ap, subst}
use Rattle.std.specs.Prelude.{slice_index_or}
use Rattle.std.specs.List.{All, AllByRecursion}
use Rattle.std.proofs.lemmas.List.{get_or-map, length-map}
use Rattle.std.proofs.lemmas.List.Elements.{All-from_get_or, All-from_recursion, All-map}
use Rattle.lp_model.specs.declared.Side.{Side}
use Rattle.lp_model.specs.declared.Side.TheVariants as side
use Rattle.rational.specs.Rational.{ℚ, zero_ℚ, one_ℚ, neg_ℚ, ◌*ℚ◌}
use Rattle.rational.specs.Sparse.{IsSparse}
use Rattle.rational.specs.Sum.{at}
use Rattle.rational.specs.Worked.{done, settle}
use Rattle.rational.proofs.RationalRing.{ring_ℚ}
use Rattle.rational.proofs.Ring.{◌≐◌, ◌⊗◌, ⊝◌, 𝟘, 𝟙}
use Rattle.rational.proofs.Settling.{settle-bind_none}
use Rattle.rational.proofs.SumLaws.{sum-cong}
use Rattle.sparse_cols.specs.Sparse.{Sparse}
use Rattle.lp_run.specs.Instance.{Instance, IsWellFormed, coefficient, column_count, column_kind, passed_side, row_count, sign_past, structural}
use Rattle.lp_run.specs.Solution.{basis_entry}
use Rattle.lp_run.specs.State.{State}
use Rattle.lp_run.proofs.Start.{each_column, kind_of_artificial, kind_of_logical, kind_of_structural}
use Rattle.bland_ratio.specs.Pricing.{kind_entries}
use Rattle.factor_model.specs.Edits.{column_in}
use Rattle.factor_model.specs.Factoring.{IsDependence, factored, fresh, made_factors}
use Rattle.factor_model.specs.Factors.{AreFactors, Factors}
use Rattle.factor_model.specs.Vectors.{entry}
use Rattle.factor_model.proofs.FactoredSame.{factored-same, made-same, represents-same}
use Rattle.factor_run.specs.Built.{made_anew}
use Rattle.factor_run.proofs.Bases.{entries_are}
use Rattle.markowitz_lu.specs.Columns.{HasNoZero, matrix_of}
use Rattle.basis_solves.specs.Bases.{FactorsFrom, IsBasis, sparse_column}

-- ── no column stores a 0 ──

one_apart : one_ℚ ≢ zero_ℚ
unfolding one_ℚ zero_ℚ
one_apart e = let same : pos 1 ≡ pos 0 = ap (λ (a : ℚ). a.numerator) e in absurd cc

sign_apart : (o : Option Side) → sign_past o ≢ zero_ℚ
sign_apart None e = one_apart e
sign_apart (Some side.Lower) e =
    let square : neg_ℚ one_ℚ *ℚ neg_ℚ one_ℚ ≡ one_ℚ = ring_ℚ 0 ((⊝ 𝟙) ⊗ (⊝ 𝟙) ≐ 𝟙) tt in
    let none : zero_ℚ *ℚ neg_ℚ one_ℚ ≡ zero_ℚ = ring_ℚ 1 (λ x. 𝟘 ⊗ x ≐ 𝟘) tt (neg_ℚ one_ℚ) in
    one_apart (sym square ∙ ap (λ a. a *ℚ neg_ℚ one_ℚ) e ∙ none)
sign_apart (Some side.Upper) e = one_apart e

abbrev AreApart : List (ℕ × ℚ) → Type 0
AreApart pairs = AllByRecursion (λ pair. pair.1 ≢ zero_ℚ) pairs

stored_apart : (m from : ℕ) (pairs : List (ℕ × ℚ)) → IsSparse m from pairs → AreApart pairs
stored_apart m from [] h = tt
stored_apart m from ((k, v) ∷ pairs) h = (h.2, stored_apart m (k + 1) pairs h.3)

no_zero : (inst : Instance) → IsWellFormed inst → (q : ℕ) → q < column_count inst → HasNoZero (sparse_column inst q)
no_zero inst h q b =
    All-from_recursion (λ pair. pair.1 ≢ zero_ℚ) (kind_entries inst (column_kind inst q))
    (each_column inst (λ j. AreApart (kind_entries inst (column_kind inst j)))
    (λ k b. subst (λ kind. AreApart (kind_entries inst kind)) (sym (kind_of_structural inst k b)) (stored_apart (row_count inst) 0 (structural inst k).entries (h.sparse k b)))
    (λ i b. subst (λ kind. AreApart (kind_entries inst kind)) (sym (kind_of_logical inst i b)) (one_apart, tt))
    (λ i b. subst (λ kind. AreApart (kind_entries inst kind)) (sym (kind_of_artificial inst i)) (sign_apart (passed_side inst i), tt))
    q b)

-- ── the columns of a basis ──

pub all_within : (inst : Instance) (s : State) (basis : List ℕ) → IsBasis inst s basis → All (λ q. q < column_count inst) basis
all_within inst s basis h =
    All-from_get_or (λ q. q < column_count inst) basis 0
    (λ p b. subst (λ (xs : List ℕ). get_or xs p 0 < column_count inst) h.is (h.within p (subst (λ n. p < n) h.positions b)))

module _ (inst : Instance) (basis : List ℕ) (columns : List (Sparse ℚ)) (are : columns ≡ map (sparse_column inst) basis) where
  pub columns_count : length columns ≡ length basis
  columns_count = ap (λ xs. length xs) are ∙ length-map basis (sparse_column inst)

  pub columns_long : All (λ (column : Sparse ℚ). column.length ≡ row_count inst) columns
  columns_long = subst (All (λ (column : Sparse ℚ). column.length ≡ row_count inst)) (sym are)
      (All-map (λ (column : Sparse ℚ). column.length ≡ row_count inst) (sparse_column inst) basis (λ k d b. refl))

  pub columns_no_zero : IsWellFormed inst → All (λ q. q < column_count inst) basis → All HasNoZero columns
  columns_no_zero h within = subst (All HasNoZero) (sym are) (All-map HasNoZero (sparse_column inst) basis (λ k d b. no_zero inst h (slice_index_or basis k d) (within k d b)))

  module _ (s : State) (h : IsBasis inst s basis) where
    agree : (i p : ℕ) → i < row_count inst → p < row_count inst → matrix_of columns i p ≡ basis_entry inst s i p
    agree i p i_lt p_lt =
        let none : Sparse ℚ = record { length = 0; pairs = [] } in
        let there : column_in columns p ≡ sparse_column inst (get_or basis p 0) = ap (λ xs. get_or xs p none) are
        ∙ get_or-map (sparse_column inst) basis p 0 none (subst (λ n. p < n) (sym h.positions) p_lt) in
        ap (λ (c : Sparse ℚ). entry c.pairs i) there ∙ entries_are inst (get_or basis p 0) i ∙ ap (λ b. coefficient inst i (get_or b p 0)) (sym h.is)

    pub made_from : (w number : ℕ) (f : Factors) → settle w (made_factors (row_count inst) (matrix_of columns) number) ≡ Some (Some f) → AreFactors (row_count inst) f (matrix_of columns)
        → FactorsFrom w inst s number f
    made_from w number f settled factors = record {
      made = ap (λ c. settle w c) (sym (made-same (row_count inst) (matrix_of columns) (basis_entry inst s) agree number)) ∙ settled;
      factors = represents-same (row_count inst) (matrix_of columns) (basis_entry inst s) agree f.etas f.upper factors;
    }

    pub not_made : (w number : ℕ) → settle w (factored (row_count inst) (matrix_of columns)) ≡ None → settle w (made_anew inst s number) ≡ None
    not_made w number none =
        settle-bind_none w (factored (row_count inst) (basis_entry inst s)) (λ made. done (fresh number made))
        (ap (λ c. settle w c) (sym (factored-same (row_count inst) (matrix_of columns) (basis_entry inst s) agree)) ∙ none)

    -- the basis is regular
    pub not_dependent : (y : List ℚ) → IsDependence (row_count inst) (matrix_of columns) y → ⊥
    not_dependent y shows =
        shows.nonzero.2
        (h.regular.rows (at y)
        (λ p b. sum-cong (row_count inst) (λ i. at y i *ℚ basis_entry inst s i p) (λ i. at y i *ℚ matrix_of columns i p) (λ i lt. ap (λ x. at y i *ℚ x) (sym (agree i p lt b))) ∙ shows.vanishes p b)
        shows.nonzero.0 shows.nonzero.1)
