-- What a change of one entry does to the active part.
use Rattle.std.proofs.Common.{◌≡◌, ◌≢◌, ℕ, [], ◌∷◌, Option, Some, None, refl, sym, ap, subst, ◌∙◌, ⊎_elim}
use Rattle.std.specs.Option.{IsSome}
use Rattle.std.proofs.lemmas.Bool.{cases_eq}
use Rattle.std.proofs.lemmas.List.{get_or-set_other}
use Rattle.rational.specs.Rational.{ℚ, zero_ℚ}
use Rattle.factor_model.specs.Factoring.{with_entry}
use Rattle.factor_model.proofs.PivotLaws.{with_entry-here, with_entry-row, with_entry-position}
use Rattle.cross_links.specs.Matrix.{Matrix, entry_at, IsLink, Has, IsMatrix, IsFilled, row_in, col_in, row_of, col_of, with_value, without_entry}
use Rattle.cross_links.specs.Cells.{cell, HasNoZero}
use Rattle.cross_links.proofs.Entries.{none_some, some_entry}
use Rattle.cross_links.proofs.Cells.{has_from_cell, cell_from_has, cell-none, cell-filled, cell-filled_other, cell-set, cell-set_other, cell-cancelled, cell-cancelled_other, HasNoZero-filled, HasNoZero-set, HasNoZero-without}
use Rattle.markowitz_lu.specs.Inner.Links.{IsAlike, IsLinkAt, IsPut}

-- a matrix that has another entry, and else agrees, is the matrix with that entry
pub with_entry-is : (a b : ℕ → ℕ → ℚ) (i p : ℕ) (x : ℚ) → b i p ≡ x → ((j q : ℕ) → ((j ≡ i) × (q ≡ p) → ⊥) → b j q ≡ a j q) → b ≡ with_entry a i p x
with_entry-is a b i p x here there = λ k j q. pointwise j q k
  where
    pointwise : (j q : ℕ) → b j q ≡ with_entry a i p x j q
    pointwise j q =
        ⊎_elim
        (λ (e : j ≡ i). ⊎_elim
        (λ (f : q ≡ p). ap (λ n. b n q) e ∙ ap (b i) f ∙ here ∙ sym (ap (λ n. with_entry a i p x n q) e ∙ ap (with_entry a i p x i) f ∙ with_entry-here a i p x))
        (λ (ne : q ≢ p). let other : (j ≡ i) × (q ≡ p) → ⊥ = λ h. ne h.1 in there j q other ∙ sym (with_entry-position a i p x j q ne))
        (cases_eq q p))
        (λ (ne : j ≢ i). let other : (j ≡ i) × (q ≡ p) → ⊥ = λ h. ne h.0 in there j q other ∙ sym (with_entry-row a i p x j q ne))
        (cases_eq j i)

module _ (a b : Matrix) (h : IsMatrix a) (k : IsMatrix b) (nz : HasNoZero a) (mz : HasNoZero b) (alike : IsAlike a b) (i p : ℕ) (x : ℚ) where
  pub IsPut-from : cell b i p ≡ x → ((j q : ℕ) → ((j ≡ i) × (q ≡ p) → ⊥) → cell b j q ≡ cell a j q)
      → ((l : ℕ) → IsLink a l → col_of a l ≢ p → entry_at b l ≡ entry_at a l) → IsPut a i p x b
  IsPut-from here there same = record {
    alike = alike;
    matrix = k;
    no_zero = mz;
    cells = with_entry-is (cell a) (cell b) i p x here there;
    links = links;
  }
    where
      links : (q : ℕ) → q ≢ p → (o : Option ℕ) → IsLinkAt a i q o → IsLinkAt b i q o
      links q ne None absent =
          λ has. absent (has_from_cell a h i q (λ (e : cell a i q ≡ zero_ℚ). cell_from_has b k mz i q has (there i q (λ f. ne f.1) ∙ e)))
      links q ne (Some l) at =
          let stays : entry_at b l ≡ entry_at a l = same l at.0 (λ e. ne (sym at.2 ∙ e)) in
          (subst IsSome (sym stays) at.0, ap row_in stays ∙ at.1, ap col_in stays ∙ at.2)

module _ (a b : Matrix) (h : IsMatrix a) (k : IsMatrix b) (nz : HasNoZero a) where
  module _ (l : ℕ) (x : ℚ) (link : IsLink a l) where
    pub put-set : x ≢ zero_ℚ → b ≡ with_value a l x → IsPut a (row_of a l) (col_of a l) x b
    put-set ne is =
        let some = some_entry (entry_at a l) link in
        let in_row : row_of a l ≡ some.0.0 = ap row_in some.1 in
        let in_col : col_of a l ≡ some.0.1 = ap col_in some.1 in
        IsPut-from a b h k nz (subst HasNoZero (sym is) (HasNoZero-set a l x nz ne link))
        (record { size = ap (λ (m : Matrix). m.size) is; active_rows = ap (λ (m : Matrix). m.active_rows) is; active_cols = ap (λ (m : Matrix). m.active_cols) is })
        (row_of a l) (col_of a l) x
        (ap (λ n. cell b n (col_of a l)) in_row ∙ ap (cell b some.0.0) in_col ∙ cell-set a b h k l some.0 x some.1 is)
        (λ j q other. cell-set_other a b h k l some.0 x some.1 is j q (λ e. other (e.0 ∙ sym in_row, e.1 ∙ sym in_col)))
        (λ n _ ne_col. ap (λ (m : Matrix). entry_at m n) is ∙ get_or-set_other a.entries l n (Some (row_of a l, col_of a l, x)) None (λ e. ne_col (ap (col_of a) e)))

    pub put-cancelled : x ≡ zero_ℚ → b ≡ without_entry a l → IsPut a (row_of a l) (col_of a l) x b
    put-cancelled none is =
        let some = some_entry (entry_at a l) link in
        let in_row : row_of a l ≡ some.0.0 = ap row_in some.1 in
        let in_col : col_of a l ≡ some.0.1 = ap col_in some.1 in
        IsPut-from a b h k nz (subst HasNoZero (sym is) (HasNoZero-without (l ∷ []) a nz))
        (record { size = ap (λ (m : Matrix). m.size) is; active_rows = ap (λ (m : Matrix). m.active_rows) is; active_cols = ap (λ (m : Matrix). m.active_cols) is })
        (row_of a l) (col_of a l) x
        (ap (λ n. cell b n (col_of a l)) in_row ∙ ap (cell b some.0.0) in_col ∙ cell-cancelled a b h k l some.0 some.1 is ∙ sym none)
        (λ j q other. cell-cancelled_other a b h k l some.0 some.1 is j q (λ e. other (e.0 ∙ sym in_row, e.1 ∙ sym in_col)))
        (λ n _ ne_col. ap (λ (m : Matrix). entry_at m n) is ∙ get_or-set_other a.entries l n None None (λ e. ne_col (ap (col_of a) e)))

  pub put-filled : (l i p : ℕ) (x : ℚ) → x ≢ zero_ℚ → IsFilled a l (i, p, x) b → IsPut a i p x b
  put-filled l i p x ne filled =
      IsPut-from a b h k nz (HasNoZero-filled a b l (i, p, x) nz filled ne)
      (record { size = filled.size; active_rows = filled.active_rows; active_cols = filled.active_cols })
      i p x
      (cell-filled a b h k l (i, p, x) filled)
      (λ j q other. cell-filled_other a b h k l (i, p, x) filled j q other)
      (λ n some _. filled.others n (λ e. none_some _ filled.free (subst (IsLink a) e some)))

-- where there is no entry, and none comes
pub put-none : (a b : Matrix) → IsMatrix a → HasNoZero a → (i p : ℕ) (x : ℚ) → x ≡ zero_ℚ → (Has a i p → ⊥) → b ≡ a → IsPut a i p x b
put-none a b h nz i p x none absent same =
    subst (IsPut a i p x) (sym same)
    (IsPut-from a a h h nz nz (record { size = refl; active_rows = refl; active_cols = refl }) i p x (cell-none a h i p absent ∙ sym none) (λ j q other. refl) (λ l some ne. refl))
