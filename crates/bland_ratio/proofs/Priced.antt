-- The reduced cost of a column as it is worked, against its definition.
use Rattle.std.proofs.Common.{◌≡◌, ◌≢◌, ℕ, ◌+◌, ◌<◌, ◌≤◌, List, [], ◌∷◌, Some, None, Option, Result, Ok, Err, cond, eqb, eq-eqb, ne_eqb, refl, sym, ◌∙◌, ap, ap₂, subst, arith}
use Rattle.std.proofs.lemmas.Int.{ints}
use Rattle.lp_run.specs.declared.ColumnKind.{ColumnKind}
use Rattle.lp_run.specs.declared.ColumnKind.TheVariants as column
use Rattle.lp_model.specs.declared.Phase.{Phase}
use Rattle.exact_frac.specs.declared.unfit.Unfit.{Unfit}
use Rattle.exact_frac.specs.Settles.{Settles}
use Rattle.rational.specs.Rational.{ℚ, zero_ℚ, one_ℚ, ◌-ℚ◌, ◌*ℚ◌}
use Rattle.rational.specs.Lines.{gather}
use Rattle.rational.specs.Sparse.{IsSparse, at_index, entry_at}
use Rattle.rational.specs.Sum.{at, sum_ℚ}
use Rattle.rational.specs.Worked.{Worked, bind, done, less, less_unless, settle}
use Rattle.rational.proofs.Linear.{linear, ◌≐◌, ◌⟹◌}
use Rattle.rational.proofs.RationalRing.{ring_ℚ}
use Rattle.rational.proofs.Ring.{◌≐◌, ◌⊕◌, ◌⊖◌, ◌⊗◌, 𝟘}
use Rattle.rational.proofs.Settling.{less_answer, less_unless-in, settle-bind, settle-bind_none, settle-done}
use Rattle.rational.proofs.SparseLaws.{at_index-other}
use Rattle.rational.proofs.SumLaws.{at_or_other, sum-change, sum-cong, sum-none}
use Rattle.sparse_cols.specs.Sparse.{IsRising}
use Rattle.lp_run.specs.Instance.{Instance, IsWellFormed, column_count, column_kind, cost, kind_coefficient, passed_side, row_count, sign_past, structural, structural_count}
use Rattle.lp_run.specs.Solution.{reduced}
use Rattle.lp_run.specs.State.{State}
use Rattle.lp_run.proofs.Start.{each_column, kind_of_artificial, kind_of_logical, kind_of_structural}
use Rattle.bland_ratio.specs.Pricing.{kind_entries, priced}

-- ── the entries of a column ──

sparse_rising : (m from : ℕ) (pairs : List (ℕ × ℚ)) → IsSparse m from pairs → IsRising m from pairs
sparse_rising m from [] h = tt
sparse_rising m from ((k, v) ∷ pairs) h = (h.0, h.1, sparse_rising m (k + 1) pairs h.3)

pub rising_entries : (inst : Instance) → IsWellFormed inst → (j : ℕ) → j < column_count inst → IsRising (row_count inst) 0 (kind_entries inst (column_kind inst j))
rising_entries inst h j =
    each_column inst (λ j. IsRising (row_count inst) 0 (kind_entries inst (column_kind inst j)))
    (λ k b. subst (λ kind. IsRising (row_count inst) 0 (kind_entries inst kind)) (sym (kind_of_structural inst k b)) (sparse_rising (row_count inst) 0 (structural inst k).entries (h.sparse k b)))
    (λ i b. subst (λ kind. IsRising (row_count inst) 0 (kind_entries inst kind)) (sym (kind_of_logical inst i b)) (omega arith, b, tt))
    (λ i b. subst (λ kind. IsRising (row_count inst) 0 (kind_entries inst kind)) (sym (kind_of_artificial inst i)) (omega arith, b, tt))
    j

-- the structural's entries, as they are gathered
pub gathers : (inst : Instance) → IsWellFormed inst → (j k n : ℕ) (pairs : List (ℕ × ℚ)) → j < column_count inst → column.Structural k ≡ column_kind inst j → n ≡ row_count inst
    → pairs ≡ (structural inst k).entries → IsRising n 0 pairs
gathers inst h j k n pairs below kind long same =
    subst (λ n. IsRising n 0 pairs) (sym long)
    (subst (IsRising (row_count inst) 0) (sym same) (subst (λ kind. IsRising (row_count inst) 0 (kind_entries inst kind)) (sym kind) (rising_entries inst h j below)))

-- a structural is one of the instance, and so is the row of a logical or of an artificial
abbrev pub KindWithin : Instance → ColumnKind → Type 0
KindWithin inst (column.Structural k) = k < structural_count inst
KindWithin inst (column.Logical i) = i < row_count inst
KindWithin inst (column.Artificial i) = i < row_count inst

pub kind_within : (inst : Instance) (j : ℕ) (kind : ColumnKind) → j < column_count inst → kind ≡ column_kind inst j → KindWithin inst kind
kind_within inst j kind below same =
    subst (KindWithin inst) (sym same)
    (each_column inst (λ j. KindWithin inst (column_kind inst j))
    (λ k b. subst (KindWithin inst) (sym (kind_of_structural inst k b)) b)
    (λ i b. subst (KindWithin inst) (sym (kind_of_logical inst i b)) b)
    (λ i b. subst (KindWithin inst) (sym (kind_of_artificial inst i)) b)
    j below)

turned : (i k : ℕ) (v : ℚ) → at_index i k v ≡ at_index k i v
turned i k v = at_or_other (λ i. at_index i k v ≡ at_index k i v) k i refl (λ other. at_index-other i k v other ∙ sym (at_index-other k i v (λ e. other (sym e))))

pub coefficient_entry : (inst : Instance) (i : ℕ) (kind : ColumnKind) → kind_coefficient inst i kind ≡ entry_at (kind_entries inst kind) i
coefficient_entry inst i (column.Structural k) = refl
coefficient_entry inst i (column.Logical k) = turned i k one_ℚ
coefficient_entry inst i (column.Artificial k) = turned i k (sign_past (passed_side inst k))

-- no entry stands before the first row
entry_before : (m from : ℕ) (pairs : List (ℕ × ℚ)) (i : ℕ) → IsRising m from pairs → i < from → entry_at pairs i ≡ zero_ℚ
entry_before m from [] i h below = refl
entry_before m from ((k, v) ∷ pairs) i h below =
    let other : k ≢ i = omega (arith, h.0) in
    ap (λ t. cond t v (entry_at pairs i)) (ne_eqb k i other) ∙ entry_before m (k + 1) pairs i h.2 (omega (arith, h.0))

-- ── what the calculations come to ──

module _ (skip m : ℕ) (past : m ≤ skip) (y : List ℚ) where
  -- the products of the entries with the vector's items are taken away
  gather-answer : (from : ℕ) (c : ℚ) (pairs : List (ℕ × ℚ)) → IsRising m from pairs → (gather skip y c pairs).answer ≡ c -ℚ sum_ℚ m (λ i. at y i *ℚ entry_at pairs i)
  unfolding bind done
  gather-answer from c [] h =
      linear 2 (λ c s. s ≐ 𝟘 ⟹ c ≐ c ⊖ s) (omega (arith, ints)) c (sum_ℚ m (λ i. at y i *ℚ zero_ℚ)) (sum-none m _ (λ i b. ring_ℚ 1 (λ a. a ⊗ 𝟘 ≐ 𝟘) tt (at y i)))
  gather-answer from c ((k, e) ∷ pairs) h =
      ap (λ r. (gather skip y r pairs).answer) (ap (λ (c : Worked ℚ). c.answer) (less_unless-in (eqb k skip) c e (at y k) (ne_eqb k skip (omega (arith, h.1)))) ∙ less_answer c e (at y k))
      ∙ gather-answer (k + 1) (c -ℚ e *ℚ at y k) pairs h.2
      ∙ linear 6 (λ c p s f g z. s ≐ f ⊕ (g ⊖ z) ⟹ g ≐ p ⟹ z ≐ 𝟘 ⟹ c ⊖ p ⊖ f ≐ c ⊖ s) (omega (arith, ints)) c (e *ℚ at y k)
      (sum_ℚ m (λ i. at y i *ℚ entry_at ((k, e) ∷ pairs) i)) (sum_ℚ m (λ i. at y i *ℚ entry_at pairs i)) (at y k *ℚ entry_at ((k, e) ∷ pairs) k) (at y k *ℚ entry_at pairs k)
      (sum-change m k (λ i. at y i *ℚ entry_at pairs i) (λ i. at y i *ℚ entry_at ((k, e) ∷ pairs) i) h.1
      (λ i b other. ap (λ t. at y i *ℚ cond t e (entry_at pairs i)) (ne_eqb k i (λ same. other (sym same)))))
      (ap (λ t. at y k *ℚ cond t e (entry_at pairs k)) (eq-eqb k k refl) ∙ ring_ℚ 2 (λ y e. y ⊗ e ≐ e ⊗ y) tt (at y k) e)
      (ap (λ v. at y k *ℚ v) (entry_before m (k + 1) pairs k h.2 (omega arith)) ∙ ring_ℚ 1 (λ a. a ⊗ 𝟘 ≐ 𝟘) tt (at y k))

-- a reduced cost that is worked is the reduced cost
pub priced-answer : (inst : Instance) → IsWellFormed inst → (s : State) (y : List ℚ) (j : ℕ) → j < column_count inst → (priced inst s.phase y j).answer ≡ reduced inst s y j
priced-answer inst h s y j below =
    gather-answer (row_count inst) (row_count inst) (omega arith) y 0 (cost inst s.phase j) (kind_entries inst (column_kind inst j)) (rising_entries inst h j below)
    ∙ ap (λ sum. cost inst s.phase j -ℚ sum) (sum-cong (row_count inst) _ _ (λ i b. ap (λ v. at y i *ℚ v) (sym (coefficient_entry inst i (column_kind inst j)))))

-- ── a column of one entry ──

ends_there : (w : ℕ) (c : Worked ℚ) → settle w (bind c (λ r. done r)) ≡ settle w c
ends_there w c = by (settle w c) refl
  where
    by : (o : Option ℚ) → settle w c ≡ o → settle w (bind c (λ r. done r)) ≡ settle w c
    by None e = settle-bind_none w c (λ r. done r) e ∙ sym e
    by (Some a) e = settle-bind w c (λ r. done r) a e ∙ settle-done w a ∙ sym e

one_entry : (w m : ℕ) (y : List ℚ) (c e : ℚ) (i : ℕ) → i < m → settle w (gather m y c ((i, e) ∷ [])) ≡ settle w (less c e (at y i))
one_entry w m y c e i below =
    let other : i ≢ m = omega arith in
    ends_there w (less_unless (eqb i m) c e (at y i)) ∙ ap (settle w) (less_unless-in (eqb i m) c e (at y i) (ne_eqb i m other))

pub one_settles : (w : ℕ) (inst : Instance) (phase : Phase) (y : List ℚ) (j i : ℕ) (kind : ColumnKind) (e x a b : ℚ) (r : Result ℚ Unfit)
    → kind ≡ column_kind inst j → kind_entries inst kind ≡ (i, e) ∷ [] → i < row_count inst → x ≡ cost inst phase j → a ≡ e → b ≡ at y i
    → Settles w (less x a b) r → Settles w (priced inst phase y j) r
one_settles w inst phase y j i kind e x a b r same entries below start entry price h = by r h
  where
    there : settle w (priced inst phase y j) ≡ settle w (less x a b)
    there =
        ap (λ pairs. settle w (gather (row_count inst) y (cost inst phase j) pairs)) (ap (kind_entries inst) (sym same) ∙ entries)
        ∙ one_entry w (row_count inst) y (cost inst phase j) e i below
        ∙ ap (λ x. settle w (less x e (at y i))) (sym start) ∙ ap₂ (λ a b. settle w (less x a b)) (sym entry) (sym price)

    by : (r : Result ℚ Unfit) → Settles w (less x a b) r → Settles w (priced inst phase y j) r
    by (Ok d) h = there ∙ h
    by (Err unfit) h = there ∙ h
