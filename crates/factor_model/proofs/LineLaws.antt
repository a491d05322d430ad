-- Closed forms: what a sparse column worked into a vector, or out of one item, leaves.
use Rattle.std.proofs.Common.{◌≡◌, ◌≢◌, ℕ, ◌+◌, ◌<◌, Bool, true, false, cond, eqb, List, [], ◌∷◌, length, set, ◌⊎◌, ⊎_elim, refl, sym, ◌∙◌, ap, ap₂, subst, arith}
use Rattle.std.proofs.lemmas.Bool.{cases_eq, eq-eqb, ne_eqb, cond-true, cond-false}
use Rattle.std.proofs.lemmas.List.{length-set, get_or-set_same, get_or-set_other}
use Rattle.rational.specs.Rational.{ℚ, zero_ℚ, ◌-ℚ◌, ◌*ℚ◌, ◌+ℚ◌}
use Rattle.rational.proofs.RationalRing.{ring_ℚ}
use Rattle.rational.proofs.Ring.{◌≐◌, ◌⊙◌≗◌⟹◌, ◌⊕◌, ◌⊖◌, ◌⊗◌, 𝟘, 𝟙}
use Rattle.rational.specs.Sum.{at, sum_ℚ}
use Rattle.rational.specs.Worked.{less_unless}
use Rattle.rational.specs.Lines.{gather, subtract}
use Rattle.rational.proofs.SumLaws.{sum-none, sum-change}
use Rattle.rational.proofs.AnswerLaws.{answer-bind, answer-done, answer-less_unless}
use Rattle.sparse_cols.specs.Sparse.{IsRising}
use Rattle.factor_model.specs.Vectors.{or_zero, entry, other_entry}

-- ---- entries of rising pairs

pub entry-here : (i : ℕ) (e : ℚ) (column : List (ℕ × ℚ)) → entry ((i, e) ∷ column) i ≡ e
entry-here i e column = ap or_zero (cond-true (eqb i i) _ _ (eq-eqb i i refl))

pub entry-there : (i j : ℕ) (e : ℚ) (column : List (ℕ × ℚ)) → j ≢ i → entry ((i, e) ∷ column) j ≡ entry column j
entry-there i j e column other = ap or_zero (cond-false (eqb i j) _ _ (ne_eqb i j (λ h. other (sym h))))

pub entry-below : (n from : ℕ) (column : List (ℕ × ℚ)) (j : ℕ) → IsRising n from column → j < from → entry column j ≡ zero_ℚ
entry-below n from [] j rising lt = refl
entry-below n from (p ∷ column) j rising lt =
    entry-there p.0 j p.1 column (λ e. omega (arith, rising.0)) ∙ entry-below n (p.0 + 1) column j rising.2 (omega (arith, rising.0))

pub other-here : (skip i : ℕ) (e : ℚ) (column : List (ℕ × ℚ)) → other_entry skip ((i, e) ∷ column) i ≡ cond (eqb i skip) zero_ℚ e
other-here skip i e column = ap (λ x. cond (eqb i skip) zero_ℚ x) (entry-here i e column)

pub other-there : (skip i j : ℕ) (e : ℚ) (column : List (ℕ × ℚ)) → j ≢ i → other_entry skip ((i, e) ∷ column) j ≡ other_entry skip column j
other-there skip i j e column other = ap (λ x. cond (eqb j skip) zero_ℚ x) (entry-there i j e column other)

none_either : (b : Bool) → cond b zero_ℚ zero_ℚ ≡ zero_ℚ
none_either true = refl
none_either false = refl

pub other-below : (n from skip : ℕ) (column : List (ℕ × ℚ)) (j : ℕ) → IsRising n from column → j < from → other_entry skip column j ≡ zero_ℚ
other-below n from skip column j rising lt = ap (λ x. cond (eqb j skip) zero_ℚ x) (entry-below n from column j rising lt) ∙ none_either (eqb j skip)

pub other-skip : (skip : ℕ) (column : List (ℕ × ℚ)) → other_entry skip column skip ≡ zero_ℚ
other-skip skip column = cond-true (eqb skip skip) _ _ (eq-eqb skip skip refl)

pub other-other : (skip : ℕ) (column : List (ℕ × ℚ)) (j : ℕ) → j ≢ skip → other_entry skip column j ≡ entry column j
other-other skip column j other = cond-false (eqb j skip) _ _ (ne_eqb j skip other)

-- ---- out of one item

pub answer-gather : (n from skip : ℕ) (v : List ℚ) (r : ℚ) (column : List (ℕ × ℚ)) → IsRising n from column
    → (gather skip v r column).answer ≡ r -ℚ sum_ℚ n (λ i. other_entry skip column i *ℚ at v i)
answer-gather n from skip v r [] rising =
    answer-done r ∙ ring_ℚ 2 (λ r s. 𝟙 ⊙ s ≗ 𝟘 ⟹ r ≐ r ⊖ s) tt r (sum_ℚ n (λ i. other_entry skip [] i *ℚ at v i))
    (sum-none n (λ i. other_entry skip [] i *ℚ at v i) (λ i lt. ap (λ x. x *ℚ at v i) (none_either (eqb i skip)) ∙ ring_ℚ 1 (λ a. 𝟘 ⊗ a ≐ 𝟘) tt (at v i)))
answer-gather n from skip v r (p ∷ column) rising =
    let e = cond (eqb p.0 skip) zero_ℚ p.1 in
    let f : ℕ → ℚ = λ i. other_entry skip column i *ℚ at v i in
    let g : ℕ → ℚ = λ i. other_entry skip (p ∷ column) i *ℚ at v i in
    let rest = (less_unless (eqb p.0 skip) r p.1 (at v p.0)).answer in
    let more : sum_ℚ n g ≡ sum_ℚ n f +ℚ (g p.0 -ℚ f p.0) =
    sum-change n p.0 f g rising.1 (λ i lt other. ap (λ x. x *ℚ at v i) (other-there skip p.0 i p.1 column other)) in
    answer-bind (less_unless (eqb p.0 skip) r p.1 (at v p.0)) (λ left. gather skip v left column)
    ∙ answer-gather n (p.0 + 1) skip v rest column rising.2
    ∙ ap (λ x. x -ℚ sum_ℚ n f) (answer-less_unless (eqb p.0 skip) r p.1 (at v p.0))
    ∙ joined r e (at v p.0) (sum_ℚ n f) (g p.0) (f p.0) (ap (λ x. x *ℚ at v p.0) (other-here skip p.0 p.1 column))
    (ap (λ x. x *ℚ at v p.0) (other-below n (p.0 + 1) skip column p.0 rising.2 (omega arith)))
    ∙ ap (λ s. r -ℚ s) (sym more)
  where
    joined : (r e x s a b : ℚ) → a ≡ e *ℚ x → b ≡ zero_ℚ *ℚ x → r -ℚ e *ℚ x -ℚ s ≡ r -ℚ (s +ℚ (a -ℚ b))
    joined r e x s a b h k =
        ring_ℚ 4 (λ r e x s. r ⊖ e ⊗ x ⊖ s ≐ r ⊖ (s ⊕ (e ⊗ x ⊖ 𝟘 ⊗ x))) tt r e x s ∙ ap₂ (λ u v. r -ℚ (s +ℚ (u -ℚ v))) (sym h) (sym k)

-- ---- into a vector

pub length-subtract : (skip : ℕ) (x : ℚ) (v : List ℚ) (column : List (ℕ × ℚ)) → length (subtract skip x v column).answer ≡ length v
length-subtract skip x v [] = ap length (answer-done v)
length-subtract skip x v (p ∷ column) =
    let item = (less_unless (eqb p.0 skip) (at v p.0) p.1 x).answer in
    ap length (answer-bind (less_unless (eqb p.0 skip) (at v p.0) p.1 x) (λ i. subtract skip x (set v p.0 i) column))
    ∙ length-subtract skip x (set v p.0 item) column ∙ length-set v p.0 item

pub answer-subtract : (from skip : ℕ) (x : ℚ) (v : List ℚ) (column : List (ℕ × ℚ)) → IsRising (length v) from column → (j : ℕ)
    → at (subtract skip x v column).answer j ≡ at v j -ℚ other_entry skip column j *ℚ x
answer-subtract from skip x v [] rising j =
    ap (λ u. at u j) (answer-done v) ∙ ring_ℚ 2 (λ a x. a ≐ a ⊖ 𝟘 ⊗ x) tt (at v j) x ∙ ap (λ e. at v j -ℚ e *ℚ x) (sym (none_either (eqb j skip)))
answer-subtract from skip x v (p ∷ column) rising j =
    let item = (less_unless (eqb p.0 skip) (at v p.0) p.1 x).answer in
    let item_is = answer-less_unless (eqb p.0 skip) (at v p.0) p.1 x in
    let later = subst (λ (n : ℕ). IsRising n (p.0 + 1) column) (sym (length-set v p.0 item)) rising.2 in
    ap (λ u. at u j) (answer-bind (less_unless (eqb p.0 skip) (at v p.0) p.1 x) (λ i. subtract skip x (set v p.0 i) column))
    ∙ answer-subtract (p.0 + 1) skip x (set v p.0 item) column later j
    ∙ ⊎_elim
    (λ (same : j ≡ p.0).
    subst (λ i. at (set v p.0 item) i -ℚ other_entry skip column i *ℚ x ≡ at v i -ℚ other_entry skip (p ∷ column) i *ℚ x) (sym same)
    (ap₂ (λ a e. a -ℚ e *ℚ x) (get_or-set_same v p.0 item zero_ℚ rising.1 ∙ item_is) (other-below (length v) (p.0 + 1) skip column p.0 rising.2 (omega arith))
    ∙ ring_ℚ 3 (λ a e x. a ⊖ e ⊗ x ⊖ 𝟘 ⊗ x ≐ a ⊖ e ⊗ x) tt (at v p.0) (cond (eqb p.0 skip) zero_ℚ p.1) x
    ∙ ap (λ e. at v p.0 -ℚ e *ℚ x) (sym (other-here skip p.0 p.1 column))))
    (λ (other : j ≢ p.0).
    ap₂ (λ a e. a -ℚ e *ℚ x) (get_or-set_other v p.0 j item zero_ℚ other) (sym (other-there skip p.0 j p.1 column other)))
    (cases_eq j p.0)
