-- Applying the transposed operations in reverse order is the transposed matrix: (apply_back y)·v = y·(apply v).
use Rattle.std.proofs.Common.{◌≡◌, ℕ, ◌<◌, List, [], ◌∷◌, ◌++◌, length, set, map, reverse, sym, ◌∙◌, ap, ap₂, subst}
use Rattle.std.specs.List.{AllByRecursion}
use Rattle.std.proofs.lemmas.List.{length-set, get_or-set_same, get_or-set_other, reverse-append, map-append}
use Rattle.rational.specs.Rational.{ℚ, zero_ℚ, ◌+ℚ◌, ◌-ℚ◌, ◌*ℚ◌}
use Rattle.rational.proofs.AnswerLaws.{answer-bind, answer-done}
use Rattle.rational.proofs.RationalRing.{ring_ℚ}
use Rattle.rational.proofs.Ring.{◌≐◌, ◌⊕◌, ◌⊖◌, ◌⊗◌}
use Rattle.rational.specs.Sum.{at, sum_ℚ}
use Rattle.rational.specs.Worked.{done}
use Rattle.rational.specs.Lines.{gather}
use Rattle.rational.proofs.SumLaws.{sum-cong, sum-sub, sum-scale, sum-change}
use Rattle.sparse_cols.specs.Sparse.{Sparse, IsRising}
use Rattle.factor_model.specs.declared.Op.{Op}
use Rattle.factor_model.specs.declared.Op.TheVariants.{Column, Row}
use Rattle.factor_model.specs.Vectors.{other_entry}
use Rattle.factor_model.specs.Eta.{operate, apply, apply_back, transposed, IsOp}
use Rattle.factor_model.proofs.LineLaws.{answer-gather, answer-subtract, length-subtract}

-- the product of two vectors of n items
abbrev pub inner : ℕ → List ℚ → List ℚ → ℚ
inner n y v = sum_ℚ n (λ i. at y i *ℚ at v i)

inner-comm : (n : ℕ) (y v : List ℚ) → inner n y v ≡ inner n v y
inner-comm n y v = sum-cong n (λ i. at y i *ℚ at v i) (λ i. at v i *ℚ at y i) (λ i lt. ring_ℚ 2 (λ a b. a ⊗ b ≐ b ⊗ a) tt (at y i) (at v i))

pub length-operate : (op : Op) (v : List ℚ) → length (operate op v).answer ≡ length v
length-operate (Column p k) v = length-subtract p (at v p) v k.pairs
length-operate (Row p k) v =
    ap length (answer-bind (gather p v (at v p) k.pairs) (λ rest. done (set v p rest)) ∙ answer-done (set v p (gather p v (at v p) k.pairs).answer))
    ∙ length-set v p (gather p v (at v p) k.pairs).answer

-- one operation on the one side is the transposed one on the other
module _ (n p : ℕ) (k : Sparse ℚ) (lt : p < n) (rising : IsRising n 0 k.pairs) (y v : List ℚ) (ye : length y ≡ n) (ve : length v ≡ n) where
  taken : ℚ
  taken = sum_ℚ n (λ i. other_entry p k.pairs i *ℚ at v i)

  row_column : inner n y (operate (Row p k) v).answer ≡ inner n (operate (Column p k) y).answer v
  unfolding taken
  row_column =
      let rest = (gather p v (at v p) k.pairs).answer in
      let after : (operate (Row p k) v).answer ≡ set v p rest = answer-bind (gather p v (at v p) k.pairs) (λ r. done (set v p r)) ∙ answer-done (set v p rest) in
      let rest_is : rest ≡ at v p -ℚ taken = answer-gather n 0 p v (at v p) k.pairs rising in
      let f : ℕ → ℚ = λ i. at y i *ℚ at v i in
      let g : ℕ → ℚ = λ i. at y i *ℚ at (set v p rest) i in
      ap (λ w. inner n y w) after
      ∙ sum-change n p f g lt (λ i below other. ap (λ a. at y i *ℚ a) (get_or-set_other v p i rest zero_ℚ other))
      ∙ ap (λ a. sum_ℚ n f +ℚ (at y p *ℚ a -ℚ at y p *ℚ at v p)) (get_or-set_same v p rest zero_ℚ (subst (λ m. p < m) (sym ve) lt) ∙ rest_is)
      ∙ ring_ℚ 4 (λ s y v t. s ⊕ (y ⊗ (v ⊖ t) ⊖ y ⊗ v) ≐ s ⊖ y ⊗ t) tt (sum_ℚ n f) (at y p) (at v p) taken
      ∙ ap (λ t. sum_ℚ n f -ℚ t) (sym (sum-scale n (at y p) (λ i. other_entry p k.pairs i *ℚ at v i)))
      ∙ sym (sum-sub n f (λ i. at y p *ℚ (other_entry p k.pairs i *ℚ at v i)))
      ∙ sum-cong n (λ i. at y i *ℚ at v i -ℚ at y p *ℚ (other_entry p k.pairs i *ℚ at v i)) (λ i. at (operate (Column p k) y).answer i *ℚ at v i)
      (λ i below.
      ring_ℚ 4 (λ a b c e. a ⊗ b ⊖ c ⊗ (e ⊗ b) ≐ (a ⊖ e ⊗ c) ⊗ b) tt (at y i) (at v i) (at y p) (other_entry p k.pairs i)
      ∙ ap (λ a. a *ℚ at v i) (sym (answer-subtract 0 p (at y p) y k.pairs (subst (λ m. IsRising m 0 k.pairs) (sym ye) rising) i)))

pub transposes_one : (n : ℕ) (op : Op) → IsOp n op → (y v : List ℚ) → length y ≡ n → length v ≡ n → inner n (operate (transposed op) y).answer v ≡ inner n y (operate op v).answer
transposes_one n (Column p k) within y v ye ve =
    inner-comm n (operate (Row p k) y).answer v ∙ row_column n p k within.0 within.1 v y ve ye ∙ inner-comm n (operate (Column p k) v).answer y
transposes_one n (Row p k) within y v ye ve = sym (row_column n p k within.0 within.1 y v ye ve)

-- ---- all operations

pub answer-apply : (v : List ℚ) (op : Op) (ops : List Op) → (apply v (op ∷ ops)).answer ≡ (apply (operate op v).answer ops).answer
answer-apply v op ops = answer-bind (operate op v) (λ u. apply u ops)

pub length-apply : (v : List ℚ) (ops : List Op) → length (apply v ops).answer ≡ length v
length-apply v [] = ap length (answer-done v)
length-apply v (op ∷ ops) = ap length (answer-apply v op ops) ∙ length-apply (operate op v).answer ops ∙ length-operate op v

pub apply-append : (v : List ℚ) (xs ys : List Op) → (apply v (xs ++ ys)).answer ≡ (apply (apply v xs).answer ys).answer
apply-append v [] ys = ap (λ w. (apply w ys).answer) (sym (answer-done v))
apply-append v (x ∷ xs) ys =
    answer-apply v x (xs ++ ys) ∙ apply-append (operate x v).answer xs ys ∙ ap (λ w. (apply w ys).answer) (sym (answer-apply v x xs))

-- the last operation back is the first one
pub back-first : (y : List ℚ) (op : Op) (ops : List Op) → (apply_back y (op ∷ ops)).answer ≡ (operate (transposed op) (apply_back y ops).answer).answer
back-first y op ops =
    ap (λ rs. (apply y (map transposed rs)).answer) (reverse-append (op ∷ []) ops)
    ∙ ap (λ rs. (apply y rs).answer) (map-append transposed (reverse ops) (op ∷ []))
    ∙ apply-append y (map transposed (reverse ops)) (transposed op ∷ [])
    ∙ answer-apply (apply_back y ops).answer (transposed op) []
    ∙ answer-done (operate (transposed op) (apply_back y ops).answer).answer

pub transposes : (n : ℕ) (ops : List Op) → AllByRecursion (IsOp n) ops → (y v : List ℚ) → length y ≡ n → length v ≡ n → inner n (apply_back y ops).answer v ≡ inner n y (apply v ops).answer
transposes n [] within y v ye ve = ap₂ (inner n) (answer-done y) (sym (answer-done v))
transposes n (op ∷ ops) within y v ye ve =
    ap (λ w. inner n w v) (back-first y op ops)
    ∙ transposes_one n op within.0 (apply_back y ops).answer v (length-apply y (map transposed (reverse ops)) ∙ ye) ve
    ∙ transposes n ops within.1 y (operate op v).answer ye (length-operate op v ∙ ve)
    ∙ ap (λ w. inner n y w) (sym (answer-apply v op ops))
