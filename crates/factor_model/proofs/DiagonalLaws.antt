-- Factoring a matrix that has entries on its diagonal alone works no value: a pivot has nothing to eliminate.
use Rattle.std.proofs.Common.{◌≡◌, ◌≢◌, ℕ, zero, suc, ◌<◌, List, [], ◌∷◌, ◌++◌, map, reverse, Some, None, inl, inr, ⊎_elim, refl, sym, ◌∙◌, ap, ap₂, subst}
use Rattle.std.specs.List.{AllByRecursion}
use Rattle.std.proofs.lemmas.Bool.{cases_eq}
use Rattle.std.proofs.lemmas.List.{reverse-append}
use Rattle.rational.specs.Rational.{ℚ, zero_ℚ}
use Rattle.rational.specs.Lines.{gather, subtract}
use Rattle.rational.specs.Sum.{at}
use Rattle.rational.specs.Worked.{Worked, done, bind}
use Rattle.factor_model.specs.declared.Op.{Op}
use Rattle.factor_model.specs.declared.Op.TheVariants.{Column, Row}
use Rattle.factor_model.specs.Eta.{apply, apply_back, operate, transposed}
use Rattle.factor_model.specs.Upper.{In}
use Rattle.factor_model.specs.Vectors.{unit_vector}
use Rattle.factor_model.specs.Factoring.{Elimination, Factored, least, eliminate, others, with_pivot, pivoted, eliminated, factored_by, start, factored, made_factors}
use Rattle.factor_model.proofs.EditLaws.{in_others}
use Rattle.factor_model.proofs.PivotLaws.{sweep-none}
use Rattle.factor_model.proofs.FactorStands.{IsActive, all_append, least-cases, eliminated-none, eliminated-some}
use Rattle.factor_model.proofs.FactoredSame.{upto-below}

-- ---- operations without an entry

abbrev IsPlain : Op → Type 0
IsPlain (Column p k) = k.pairs ≡ []
IsPlain (Row p k) = k.pairs ≡ []

plain-transposed : (op : Op) → IsPlain op → IsPlain (transposed op)
plain-transposed (Column p k) plain = plain
plain-transposed (Row p k) plain = plain

plain-map : (ops : List Op) → AllByRecursion IsPlain ops → AllByRecursion IsPlain (map transposed ops)
plain-map [] plain = tt
plain-map (op ∷ ops) plain = (plain-transposed op plain.0, plain-map ops plain.1)

plain-reverse : (ops : List Op) → AllByRecursion IsPlain ops → AllByRecursion IsPlain (reverse ops)
plain-reverse [] plain = tt
plain-reverse (op ∷ ops) plain =
    subst (AllByRecursion IsPlain) (sym (reverse-append (op ∷ []) ops)) (all_append IsPlain (reverse ops) (op ∷ []) (plain-reverse ops plain.1) (plain.0, tt))

operate-plain : (op : Op) (v : List ℚ) → IsPlain op → (operate op v).values ≡ []
unfolding done bind
operate-plain (Column p k) v plain = ap (λ pairs. (subtract p (at v p) v pairs).values) plain
operate-plain (Row p k) v plain = ap (λ pairs. (gather p v (at v p) pairs).values ++ []) plain

apply-plain : (ops : List Op) (v : List ℚ) → AllByRecursion IsPlain ops → (apply v ops).values ≡ []
unfolding done bind
apply-plain [] v plain = refl
apply-plain (op ∷ ops) v plain = ap₂ (λ x y. x ++ y) (operate-plain op v plain.0) (apply-plain ops (operate op v).answer plain.1)

back-plain : (ops : List Op) (v : List ℚ) → AllByRecursion IsPlain ops → (apply_back v ops).values ≡ []
back-plain ops v plain = apply-plain (map transposed (reverse ops)) v (plain-map (reverse ops) (plain-reverse ops plain))

-- ---- pivots with nothing to eliminate

after-done : {A B : Type 0} (c : Worked A) (a : A) (f : A → Worked B) → c ≡ done a → bind c f ≡ f a
unfolding bind done
after-done c a f is = ap (λ d. bind d f) is

-- rows without an entry in the pivot's position are passed over
passed-over : (r c : ℕ) (ps : List ℕ) (a : ℕ → ℕ → ℚ) (ks : List (ℕ × ℚ)) (rows : List ℕ) → ((i : ℕ) → In i rows → a i c ≡ zero_ℚ)
    → eliminate r c ps a ks rows ≡ done (a, ks)
passed-over r c ps a ks [] none = refl
passed-over r c ps a ks (i ∷ rows) none = sweep-none r c ps a ks i rows (none i (inl refl)) ∙ passed-over r c ps a ks rows (λ j held. none j (inr held))

module _ (n : ℕ) (b : ℕ → ℕ → ℚ) (diagonal : (i p : ℕ) → i < n → p < n → i ≢ p → b i p ≡ zero_ℚ) where
  -- an elimination of the matrix b that has changed nothing so far
  record IsUnworked (e : Elimination) : Type 0 where
    matrix : e.matrix ≡ b
    plain : AllByRecursion IsPlain e.ops
    rows : (i : ℕ) → In i e.rows → i < n
    positions : (p : ℕ) → In p e.positions → p < n

  off-diagonal : (e : Elimination) → IsUnworked e → (i p : ℕ) → In i e.rows → In p e.positions → i ≢ p → e.matrix i p ≡ zero_ℚ
  off-diagonal e unworked i p row position ne = ap (λ a. a i p) unworked.matrix ∙ diagonal i p (unworked.rows i row) (unworked.positions p position) ne

  pivot-unworked : (e : Elimination) → IsUnworked e → (pivot : ℕ × ℕ) → IsActive e pivot → pivoted n e pivot ≡ done (with_pivot n e pivot (e.matrix, []))
  unfolding pivoted
  pivot-unworked e unworked pivot active =
      let here : pivot.0 ≡ pivot.1 =
      ⊎_elim (λ (same : pivot.0 ≡ pivot.1). same)
      (λ (ne : pivot.0 ≢ pivot.1). absurd (active.2 (off-diagonal e unworked pivot.0 pivot.1 active.0 active.1 ne)))
      (cases_eq pivot.0 pivot.1) in
      after-done (eliminate pivot.0 pivot.1 (others pivot.1 e.positions) e.matrix [] (others pivot.0 e.rows)) (e.matrix, []) (λ left. done (with_pivot n e pivot left))
      (passed-over pivot.0 pivot.1 (others pivot.1 e.positions) e.matrix [] (others pivot.0 e.rows)
      (λ i held.
      let there = in_others pivot.0 i e.rows held in
      off-diagonal e unworked i pivot.1 there.0 active.1 (λ same. there.1 (same ∙ sym here))))

  next-unworked : (e : Elimination) → IsUnworked e → (pivot : ℕ × ℕ) → IsUnworked (with_pivot n e pivot (e.matrix, []))
  next-unworked e unworked pivot = record {
    matrix = unworked.matrix;
    plain = all_append IsPlain e.ops (Column pivot.0 (record { length = n; pairs = [] }) ∷ []) unworked.plain (refl, tt);
    rows = λ i held. unworked.rows i (in_others pivot.0 i e.rows held).0;
    positions = λ p held. unworked.positions p (in_others pivot.1 p e.positions held).0;
  }

  eliminated-unworked : (left : ℕ) (e : Elimination) → IsUnworked e → (f : Elimination) × (eliminated n left e ≡ done f) × IsUnworked f
  eliminated-unworked zero e unworked = (e, refl, unworked)
  eliminated-unworked (suc left) e unworked =
      ⊎_elim
      (λ (some : (pivot : ℕ × ℕ) × (least e ≡ Some pivot) × IsActive e pivot).
      let next = with_pivot n e some.0 (e.matrix, []) in
      let there = eliminated-unworked left next (next-unworked e unworked some.0) in (
        there.0,
        eliminated-some n left e some.0 some.1
            ∙ after-done (pivoted n e some.0) next (λ x. eliminated n left x) (pivot-unworked e unworked some.0 some.2)
            ∙ there.1,
        there.2,
      ))
      (λ (none : (least e ≡ None) × ((i p : ℕ) → In i e.rows → In p e.positions → e.matrix i p ≡ zero_ℚ)). (e, eliminated-none n left e none.0, unworked))
      (least-cases e)

  ends-unworked : (e : Elimination) → IsUnworked e → (rows : List ℕ) → (factored_by n e rows).values ≡ []
  unfolding bind done
  ends-unworked e unworked [] = refl
  ends-unworked e unworked (r ∷ rows) = ap (λ values. values ++ []) (back-plain e.ops (unit_vector n r) unworked.plain)

  factored-unworked : (factored n b).values ≡ []
  factored-unworked =
      let begun : IsUnworked (start n b) = record { matrix = refl; plain = tt; rows = upto-below n; positions = upto-below n } in
      let there = eliminated-unworked n (start n b) begun in
      ap (λ (c : Worked Factored). c.values) (after-done (eliminated n n (start n b)) there.0 (λ e. factored_by n e e.rows) there.1)
      ∙ ends-unworked there.0 there.2 there.0.rows

  -- factoring the matrix works no value
  pub made-unworked : (base : ℕ) → (made_factors n b base).values ≡ []
  unfolding bind done
  made-unworked base = ap (λ values. values ++ []) factored-unworked
