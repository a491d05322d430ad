-- The rows of a table, one by one.
use Rattle.std.proofs.Common.{◌≡◌, ◌≢◌, ℕ, ◌+◌, ◌<◌, List, [], length, get_or, flat_map, arith, Bool, true, false, ◌||◌, cond, eqb, Result, OnOk, Some, None, refl, sym, ◌∙◌, ap, subst}
use Rattle.std.proofs.lemmas.Result.{on_ok_weaker}
use Rattle.lp_model.specs.declared.Kind.TheVariants as kind
use Rattle.lp_model.specs.declared.Place.{Place}
use Rattle.rational.specs.Rational.{ℚ, zero_ℚ, ◌-ℚ◌, ◌*ℚ◌, eq_ℚ}
use Rattle.rational.specs.Sum.{at}
use Rattle.rational.proofs.OrderLaws.{eq_ℚ-decides, eq_ℚ-other}
use Rattle.rational.proofs.RationalRing.{ring_ℚ}
use Rattle.rational.proofs.Ring.{◌≐◌, ◌⊙◌≗◌⟹◌, ◌⊖◌, ◌⊗◌, 𝟘}
use Rattle.lp_run.specs.Listing.{AllFit, first_unfit, place, Judges}
use Rattle.lp_run.proofs.FirstUnfit.{first-flat_map}
use Rattle.plain_table.proofs.Parts.{same_parts}
use Rattle.plain_table.proofs.Supports.{unpacked_less}
use Rattle.rational.specs.Sparse.{upto}
use Rattle.plain_table.specs.Inner.Lines.{AreLessPacked, IsSupport, less_listing}
use Rattle.plain_table.specs.Inner.Rows.{AreEliminated, AreTaken, EliminatesRow, IsEliminated, row_listing, rows_listing}

or_true : (s t : Bool) → t ≡ true → (s || t) ≡ true
or_true true t e = refl
or_true false t e = e

module _ (w k i q : ℕ) (own : Bool) (by row : List ℚ) where
  -- ── what is listed ──

  pub own_lists : own ≡ true → AllFit w (row_listing k own i q by row)
  own_lists e = ap (λ o. first_unfit w (cond (o || eq_ℚ (at row q) zero_ℚ) [] (less_listing (place k kind.Entry (Some i) None) row (at row q) by))) e

  pub none_lists : at row q ≡ zero_ℚ → AllFit w (row_listing k own i q by row)
  none_lists e =
      ap (λ o. first_unfit w (cond o [] (less_listing (place k kind.Entry (Some i) None) row (at row q) by)))
      (or_true own (eq_ℚ (at row q) zero_ℚ) ((eq_ℚ-decides (at row q) zero_ℚ).1 e))

  pub other_lists : own ≡ false → at row q ≢ zero_ℚ → row_listing k own i q by row ≡ less_listing (place k kind.Entry (Some i) None) row (at row q) by
  other_lists e some =
      ap (λ o. cond (o || eq_ℚ (at row q) zero_ℚ) [] (less_listing (place k kind.Entry (Some i) None) row (at row q) by)) e
      ∙ ap (λ o. cond o [] (less_listing (place k kind.Entry (Some i) None) row (at row q) by)) (eq_ℚ-other (at row q) some)

  pub judged_other : {A : Type 0} (result : Result A Place) (line : List ℚ) (factor : ℚ) → own ≡ false → factor ≡ at row q → factor ≢ zero_ℚ → line ≡ row
      → Judges w (less_listing (place k kind.Entry (Some i) None) line factor by) result → Judges w (row_listing k own i q by row) result
  judged_other result line factor e is some same h =
      subst (λ vs. Judges w vs result) (sym (other_lists e (subst (λ f. f ≢ zero_ℚ) is some)))
      (subst (λ f. Judges w (less_listing (place k kind.Entry (Some i) None) row f by) result) is
      (subst (λ l. Judges w (less_listing (place k kind.Entry (Some i) None) l factor by) result) same h))

  -- ── what is taken over ──

  pub own_eliminates : (columns : List ℕ) (packed : List ℚ) → own ≡ true → EliminatesRow own q by columns row packed
  own_eliminates columns packed e new taken j b =
      ap (λ v. at v j) (taken.line e) ∙ sym (ap (λ o. cond o (at by j) (at row j -ℚ at row q *ℚ at by j)) e)

  pub none_eliminates : (columns : List ℕ) (packed : List ℚ) → own ≡ false → at row q ≡ zero_ℚ → EliminatesRow own q by columns row packed
  none_eliminates columns packed e none new taken j b =
      ap (λ v. at v j) (taken.kept e none)
      ∙ ring_ℚ 3 (λ x a b. b ⊙ a ≗ 𝟘 ⟹ x ≐ x ⊖ a ⊗ b) tt (at row j) (at row q) (at by j) none
      ∙ sym (ap (λ o. cond o (at by j) (at row j -ℚ at row q *ℚ at by j)) e)

  pub other_eliminates : (columns : List ℕ) (packed : List ℚ) → IsSupport by columns → own ≡ false → at row q ≢ zero_ℚ → AreLessPacked row (at row q) by columns packed
      → EliminatesRow own q by columns row packed
  other_eliminates columns packed support e some worked new taken j b =
      unpacked_less by columns support row packed new (at row q) worked (taken.unpacked e some) j b
      ∙ sym (ap (λ o. cond o (at by j) (at row j -ℚ at row q *ℚ at by j)) e)

pub row_eliminated : {A : Type 0} (w k i q : ℕ) (own : Bool) (by row packed line : List ℚ) (columns : List ℕ) (factor : ℚ) (result : Result A Place) → IsSupport by columns → own ≡ false
    → factor ≡ at row q → factor ≢ zero_ℚ → line ≡ row → OnOk result (AreLessPacked line factor by columns packed) → OnOk result (EliminatesRow own q by columns row packed)
row_eliminated w k i q own by row packed line columns factor result support e is some same h =
    on_ok_weaker result
    (λ worked. other_eliminates w k i q own by row columns packed support e (subst (λ f. f ≢ zero_ℚ) is some)
    (subst (λ f. AreLessPacked row f by columns packed) is (subst (λ l. AreLessPacked l factor by columns packed) same worked))) h

-- ── one row after another ──

module _ (w u : ℕ) (same : u ≡ w) (k p base q : ℕ) (by : List ℚ) (rows : List (List ℚ)) (i : ℕ) (b : i < length rows) where
  pub row_fits : (row : List ℚ) → row ≡ get_or rows i [] → AllFit u (row_listing k (eqb (i + base) p) (i + base) q by row)
      → AllFit w (row_listing k (eqb (i + base) p) (i + base) q by (get_or rows i []))
  row_fits row is fits = subst (λ v. AllFit v (row_listing k (eqb (i + base) p) (i + base) q by (get_or rows i []))) same
      (subst (λ row. AllFit u (row_listing k (eqb (i + base) p) (i + base) q by row)) is fits)

  pub row_unfit : (row : List ℚ) (here : Place) → row ≡ get_or rows i [] → ((l : ℕ) → l < i → AllFit w (row_listing k (eqb (l + base) p) (l + base) q by (get_or rows l [])))
      → first_unfit u (row_listing k (eqb (i + base) p) (i + base) q by row) ≡ Some here → first_unfit w (rows_listing k p base q by rows) ≡ Some here
  row_unfit row here is before unfit =
      first-flat_map w (λ i. row_listing k (eqb (i + base) p) (i + base) q by (get_or rows i [])) (length rows) i here b before
      (subst (λ v. first_unfit v (row_listing k (eqb (i + base) p) (i + base) q by (get_or rows i [])) ≡ Some here) same
      (subst (λ row. first_unfit u (row_listing k (eqb (i + base) p) (i + base) q by row) ≡ Some here) is unfit))

-- from the first position on
pub rows_from_first : (k p q : ℕ) (by : List ℚ) (rows : List (List ℚ)) → rows_listing k p 0 q by rows ≡ flat_map (λ i. row_listing k (eqb i p) i q by (get_or rows i [])) (upto (length rows))
rows_from_first k p q by rows = same_parts _ _ (length rows) (λ i b. ap (λ n. row_listing k (eqb n p) n q by (get_or rows i [])) (no_more i))
  where
    no_more : (i : ℕ) → i + 0 ≡ i
    no_more i = omega arith

pub taken_from_first : (p q : ℕ) (by : List ℚ) (columns : List ℕ) (rows out new : List (List ℚ)) → AreEliminated p 0 q by columns rows out → AreTaken p 0 q by columns rows out new
    → (i : ℕ) → i < length rows → IsEliminated (eqb i p) q by (get_or rows i []) (get_or new i [])
taken_from_first p q by columns rows out new h taken i b =
    subst (λ n. IsEliminated (eqb n p) q by (get_or rows i []) (get_or new i [])) no_more (h i b (get_or new i []) (taken i b))
  where
    no_more : i + 0 ≡ i
    no_more = omega arith
