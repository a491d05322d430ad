-- How the columns are put in, pair by pair and column by column.
use Rattle.std.proofs.Common.{◌≡◌, ◌≢◌, ℕ, zero, suc, ◌+◌, ◌<◌, ◌≤◌, List, [], ◌∷◌, ◌++◌, length, map, take, get_or, eqb, Option, Some, None, slice_get, refl, sym, ap, subst, ◌∙◌, ⊎_elim, arith, get_or-set_same, get_or-set_other}
use Rattle.std.specs.List.{Contains}
use Rattle.std.proofs.Math.ListN.{get_or-map}
use Rattle.std.proofs.lemmas.List.{map-append, take_more, length-map, get_or_read, get_or_past}
use Rattle.std.proofs.lemmas.Option.{get_or_from_slice_get, slice_get_within}
use Rattle.std.proofs.lemmas.Bool.{cond-true, cond-false, eq-eqb, ne_eqb}
use Rattle.rational.specs.Rational.{ℚ}
use Rattle.sparse_cols.specs.Sparse.{Sparse, IsRising, value_at}
use Rattle.sparse_cols.proofs.Pairs.{row_from}
use Rattle.chain_links.proofs.Rest.{cons_cases, head_contains, tail_contains, nothing_contains}
use Rattle.cross_links.specs.Matrix.{Entry, Matrix, line, col, entry_at, row_in, pair_in, col_pairs, Has, IsMatrix, IsFilled}
use Rattle.cross_links.proofs.Entries.{none_some, some_entry}

value_at-head : (p : ℕ × ℚ) (ps : List (ℕ × ℚ)) (i : ℕ) → p.0 ≡ i → value_at (p ∷ ps) i ≡ Some p.1
value_at-head p ps i e = cond-true (eqb p.0 i) _ _ (eq-eqb p.0 i e)

value_at-tail : (p : ℕ × ℚ) (ps : List (ℕ × ℚ)) (i : ℕ) → p.0 ≢ i → value_at (p ∷ ps) i ≡ value_at ps i
value_at-tail p ps i ne = cond-false (eqb p.0 i) _ _ (ne_eqb p.0 i ne)

-- the pair at a place stands behind all before it
place_above : (len from : ℕ) (ps : List (ℕ × ℚ)) (k : ℕ) (pair : ℕ × ℚ) → IsRising len from ps → slice_get ps k ≡ Some pair → from ≤ pair.0
place_above len from ps k pair rising at =
    omega (arith, row_from len from ps rising k pair (slice_get_within ps k pair at), ap (λ (p : ℕ × ℚ). p.0) (get_or_from_slice_get ps k pair pair at))

pub absent_before : (len from : ℕ) (ps : List (ℕ × ℚ)) (k : ℕ) (pair : ℕ × ℚ) → IsRising len from ps → slice_get ps k ≡ Some pair → value_at (take k ps) pair.0 ≡ None
absent_before len from [] k pair rising at = absurd (cc)
absent_before len from (p ∷ ps) zero pair rising at = refl
absent_before len from (p ∷ ps) (suc k) pair rising at =
    let above = place_above len (p.0 + 1) ps k pair rising.2 at in
    value_at-tail p (take k ps) pair.0 (λ e. omega arith) ∙ absent_before len (p.0 + 1) ps k pair rising.2 at

-- a row that no pair names has no entry among the links of the pairs
not_among : (f : ℕ → ℕ × ℚ) (ls : List ℕ) (l i : ℕ) → value_at (map f ls) i ≡ None → Contains ls l → (f l).0 ≢ i
not_among f [] l i none held = absurd (nothing_contains l held)
not_among f (k ∷ ks) l i none held =
    let ne : (f k).0 ≢ i = λ e. let some = value_at-head (f k) (map f ks) i e in cc in
    ⊎_elim
    (λ (e : l ≡ k). subst (λ (x : ℕ). (f x).0 ≢ i) (sym e) ne)
    (λ (later : Contains ks l). not_among f ks l i (sym (value_at-tail (f k) (map f ks) i ne) ∙ none) later)
    (cons_cases k ks l held)

pub absent_from : (a : Matrix) (c i : ℕ) → IsMatrix a → value_at (col_pairs a c) i ≡ None → Has a i c → ⊥
absent_from a c i h none (l, some, in_r, in_c) =
    let held : Contains (col a c) l = subst (λ (d : ℕ). Contains (col a d) l) in_c (h.cols.held l some) in
    let e = some_entry (entry_at a l) some in
    let pair : (pair_in (entry_at a l)).0 ≡ i = ap (λ (o : Option Entry). (pair_in o).0) e.1 ∙ sym (ap row_in e.1) ∙ in_r in
    not_among (λ x. pair_in (entry_at a x)) (col a c) l i none held pair

map_same : (f g : ℕ → ℕ × ℚ) (ls : List ℕ) → ((l : ℕ) → Contains ls l → f l ≡ g l) → map f ls ≡ map g ls
map_same f g [] same = refl
map_same f g (k ∷ ks) same =
    ap (λ (p : ℕ × ℚ). p ∷ map f ks) (same k (head_contains k ks)) ∙ ap (λ (ps : List (ℕ × ℚ)). g k ∷ ps) (map_same f g ks (λ l held. same l (tail_contains k ks l held)))

-- an entry more in column c, the others as they were
module _ (a b : Matrix) (l : ℕ) (e : Entry) (h : IsMatrix a) (f : IsFilled a l e b) where
  old_pairs : (d : ℕ) → map (λ x. pair_in (entry_at b x)) (col a d) ≡ col_pairs a d
  old_pairs d =
      map_same (λ x. pair_in (entry_at b x)) (λ x. pair_in (entry_at a x)) (col a d)
      (λ k held. ap pair_in (f.others k (λ (eq : k ≡ l). none_some _ (ap (entry_at a) eq ∙ f.free) (h.cols.only d k held).0)))

  pub col_filled : e.1 < length a.cols → col b e.1 ≡ col a e.1 ++ l ∷ []
  col_filled lt = ap (λ (cs : List (List ℕ)). line cs e.1) f.cols ∙ get_or-set_same a.cols e.1 _ [] lt

  pub col_other : (d : ℕ) → (d ≡ e.1 → ⊥) → col b d ≡ col a d
  col_other d ne = ap (λ (cs : List (List ℕ)). line cs d) f.cols ∙ get_or-set_other a.cols e.1 d _ [] ne

  pub pairs_other : (d : ℕ) → (d ≡ e.1 → ⊥) → col_pairs b d ≡ col_pairs a d
  pairs_other d ne = ap (map (λ x. pair_in (entry_at b x))) (col_other d ne) ∙ old_pairs d

  pub pairs_filled : e.1 < length a.cols → col_pairs b e.1 ≡ col_pairs a e.1 ++ (e.0, e.2) ∷ []
  pairs_filled lt =
      ap (map (λ x. pair_in (entry_at b x))) (col_filled lt) ∙ map-append (λ x. pair_in (entry_at b x)) (col a e.1) (l ∷ [])
      ∙ ap (λ (ps : List (ℕ × ℚ)). ps ++ pair_in (entry_at b l) ∷ []) (old_pairs e.1) ∙ ap (λ (o : Option Entry). col_pairs a e.1 ++ pair_in o ∷ []) f.entry

pub take_pair : (ps : List (ℕ × ℚ)) (k : ℕ) (pair : ℕ × ℚ) → slice_get ps k ≡ Some pair → take k ps ++ pair ∷ [] ≡ take (k + 1) ps
take_pair ps k pair at =
    sym (take_more ps k pair (slice_get_within ps k pair at) ∙ ap (λ (p : ℕ × ℚ). take k ps ++ p ∷ []) (get_or_from_slice_get ps k pair pair at))

-- the lists of pairs of some columns
abbrev pub lists_of : List (Sparse ℚ) → List (List (ℕ × ℚ))
lists_of columns = map (λ column. column.pairs) columns

pub column_pairs : (columns : List (Sparse ℚ)) (c : ℕ) (column : Sparse ℚ) → c < length columns → column ≡ get_or columns c column → get_or (lists_of columns) c [] ≡ column.pairs
column_pairs columns c column within read =
    let none : Sparse ℚ = record { length = 0; pairs = [] } in
    get_or-map (λ (s : Sparse ℚ). s.pairs) columns c none ∙ ap (λ (s : Sparse ℚ). s.pairs) (sym (get_or_read columns c column within read none))

pub no_column : (columns : List (Sparse ℚ)) (c : ℕ) → length columns ≤ c → get_or (lists_of columns) c [] ≡ []
no_column columns c le = get_or_past (lists_of columns) c [] (omega (arith, length-map columns (λ (s : Sparse ℚ). s.pairs)))
