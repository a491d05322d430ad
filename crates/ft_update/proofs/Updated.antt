-- What is left when an update's parts have settled.
use Rattle.std.proofs.Common.{◌≡◌, ◌≢◌, ℕ, ◌+◌, ◌<◌, List, [], ◌∷◌, ◌++◌, length, set, Some, None, Result, Ok, Err, false, sym, subst, ap, ap₂, ◌∙◌, arith}
use Rattle.std.specs.Result.{OnOk, IfErr, IsErrAnd, is_err}
use Rattle.std.proofs.lemmas.List.Sums.{sum_by-cons, sum_by-append}
use Rattle.rational.specs.Rational.{ℚ, zero_ℚ, ◌*ℚ◌}
use Rattle.rational.specs.Sum.{at}
use Rattle.rational.specs.Worked.{Worked, done, settle}
use Rattle.rational.proofs.Settling.{settle-done, settle-bind, settle-bind_none, settle-answer}
use Rattle.sparse_cols.specs.Sparse.{Sparse}
use Rattle.factor_model.specs.declared.Op.{Op}
use Rattle.factor_model.specs.declared.Op.TheVariants.{Row}
use Rattle.factor_model.specs.Eta.{apply, entries, stored}
use Rattle.factor_model.specs.Vectors.{entry, vector, sparse}
use Rattle.factor_model.specs.Upper.{Triangle, IsUpper, Solves, diagonal, row_of}
use Rattle.factor_model.specs.Edits.{clear_row, replace_column}
use Rattle.factor_model.specs.Represents.{Represents}
use Rattle.factor_model.specs.Update.{AreApart, HasPivot, RowEta, update, row_operation, updated_upper, updated_parts, with_column}
use Rattle.factor_model.proofs.UpdateLaws.{taken-is, taken-apart, diagonal-is, operation-entries, pivot-element, pivot-nonzero, update-represents}
use Rattle.ft_update.specs.declared.fault.UpdateFault.{UpdateFault}
use Rattle.ft_update.specs.declared.fault.UpdateFault.TheVariants.{Unfit}
use Rattle.ft_update.specs.Fault.{IsCause}

-- a refusal for an unfit value, handed on
pub refused_for : {A B : Type 0} (w : ℕ) (c : Worked A) (r : Result B UpdateFault) → settle w c ≡ None → IsErrAnd r (λ f. f ≡ Unfit) → IfErr r (IsCause w c)
refused_for w c (Ok b) none is = tt
refused_for w c (Err f) none is = subst (IsCause w c) (sym is) none

-- what is no refusal holds what it promises
pub kept_by : {A E P : Type 0} (r : Result A E) → false ≡ is_err r → OnOk r P → P
kept_by (Ok a) e h = h
kept_by (Err f) e h = absurd cc

-- the row operation that is made and put behind the others is the update's
pub operation_put : (ops pushed : List Op) (u : Triangle) (p : ℕ) (e : RowEta) (operation : Sparse ℚ) (n : ℕ) (taken : List (ℕ × ℚ)) (row : ℕ)
    → operation ≡ sparse (vector n (entry taken)) → n ≡ length u.rows → taken ≡ e.taken → row ≡ row_of u p → pushed ≡ ops ++ Row row operation ∷ []
    → pushed ≡ ops ++ row_operation u p e ∷ []
operation_put ops pushed u p e operation n taken row made len kept paired put =
    put ∙ ap₂ (λ (r : ℕ) (k : Sparse ℚ). ops ++ Row r k ∷ []) paired (made ∙ ap₂ (λ (j : ℕ) (ks : List (ℕ × ℚ)). sparse (vector j (entry ks))) len kept)

-- the form that is cleared, and then has the new column, is the update's
pub column_put : (u cleared left : Triangle) (p : ℕ) (spike : List ℚ) (e : RowEta) (column : Sparse ℚ) (row : ℕ)
    → column ≡ sparse (set spike row e.pivot) → row ≡ row_of u p → cleared ≡ clear_row u p → left ≡ replace_column cleared p column
    → left ≡ updated_upper u p spike e
column_put u cleared left p spike e column row made paired clear put =
    put ∙ ap₂ (λ (t : Triangle) (k : Sparse ℚ). replace_column t p k) clear (made ∙ ap (λ (r : ℕ). sparse (set spike r e.pivot)) paired)

module _ (w : ℕ) (ops : List Op) (u : Triangle) (p : ℕ) (spike : List ℚ) where
  pub parts_stop : settle w (update u p spike) ≡ None → settle w (updated_parts ops u p spike) ≡ None
  parts_stop e = settle-bind_none w (update u p spike) (λ x. done (ops ++ row_operation u p x ∷ [], updated_upper u p spike x)) e

  module _ (e : RowEta) (settled : settle w (update u p spike) ≡ Some e) where
    answer-is : (update u p spike).answer ≡ e
    answer-is = settle-answer w (update u p spike) e settled

    pub parts_settle : settle w (updated_parts ops u p spike) ≡ Some (ops ++ row_operation u p e ∷ [], updated_upper u p spike e)
    parts_settle =
        settle-bind w (update u p spike) (λ x. done (ops ++ row_operation u p x ∷ [], updated_upper u p spike x)) e settled
        ∙ settle-done w (ops ++ row_operation u p e ∷ [], updated_upper u p spike e)

    module _ (upper : IsUpper (length u.rows) u) (lt : p < length u.rows) (len : length spike ≡ length u.rows) where
      pub updated-diagonal : (x : List ℚ) → Solves u x spike → diagonal (updated_upper u p spike e) p ≡ diagonal u p *ℚ at x p
      updated-diagonal x solves =
          subst (λ (z : RowEta). diagonal (updated_upper u p spike z) p ≡ diagonal u p *ℚ at x p) answer-is
          (diagonal-is u upper p lt spike len ∙ pivot-element u upper p lt spike len x solves)

      pub updated-pivot : HasPivot u p spike → e.pivot ≢ zero_ℚ
      updated-pivot has = subst (λ (z : RowEta). z.pivot ≢ zero_ℚ) answer-is (pivot-nonzero u upper p lt spike len has.0 has.1 has.2)

      pub updated-represents : HasPivot u p spike → (b : ℕ → ℕ → ℚ) (a : ℕ → ℚ) → Represents (length u.rows) ops u b
          → spike ≡ (apply (vector (length u.rows) a) ops).answer
          → Represents (length u.rows) (ops ++ row_operation u p e ∷ []) (updated_upper u p spike e) (with_column b p a)
      updated-represents has b a factors is_spike =
          subst (λ (z : RowEta). Represents (length u.rows) (ops ++ row_operation u p z ∷ []) (updated_upper u p spike z) (with_column b p a)) answer-is
          (update-represents u upper p lt spike len ops b factors a is_spike (pivot-nonzero u upper p lt spike len has.0 has.1 has.2))

      pub updated-stored : stored (ops ++ row_operation u p e ∷ []) < stored ops + length u.rows
      updated-stored =
          let few : entries (row_operation u p e) < length u.rows = subst (λ (z : RowEta). entries (row_operation u p z) < length u.rows) answer-is (operation-entries u upper p lt spike len) in
          let one : stored (row_operation u p e ∷ []) ≡ entries (row_operation u p e) + stored [] = sum_by-cons entries (row_operation u p e) [] in
          omega (arith, few, one, sum_by-append entries ops (row_operation u p e ∷ []))

      pub updated-apart : AreApart (length u.rows) e.taken
      updated-apart = subst (AreApart (length u.rows)) (sym (taken-is u upper p lt spike len) ∙ ap (λ (z : RowEta). z.taken) answer-is) (taken-apart u upper p lt spike len)
