-- The entry of least cost in the active part is the elimination's next pivot.
use Rattle.std.proofs.Common.{◌≡◌, ◌≢◌, ℕ, ◌<◌, ◌≤◌, Bool, true, false, cond, ltb, List, [], ◌∷◌, ◌++◌, Some, None, ◌⊎◌, inl, inr, ⊎_elim, refl, sym, ap, ap₂, subst, ◌∙◌, arith}
use Rattle.std.specs.List.{AllByRecursion}
use Rattle.std.proofs.lemmas.Bool.{cases_lt, ltb-true, ltb-false}
use Rattle.rational.specs.Rational.{zero_ℚ}
use Rattle.factor_model.specs.Upper.{In, Pairwise}
use Rattle.factor_model.specs.Factoring.{Elimination, cost, active_entries, first_least, least}
use Rattle.factor_model.proofs.FactorStands.{IsActive, of_row, of_rows, of_row-none, of_row-some, least-cases}
use Rattle.factor_model.proofs.PivotLaws.{cases_ℚ}
use Rattle.cross_links.specs.Matrix.{Matrix, IsLink, IsLeast, Has, row_of, col_of, cost_of}
use Rattle.markowitz_lu.specs.Inner.Active.{IsActivePart}
use Rattle.markowitz_lu.proofs.Actives.{has_active, active_has, cost-is}

-- an entry comes first by row and then by position
abbrev pub IsBefore : ℕ × ℕ → ℕ × ℕ → Type 0
IsBefore x y = (x.0 < y.0) ⊎ ((x.0 ≡ y.0) × (x.1 ≤ y.1))

abbrev pub IsNoWorse : (ℕ × ℕ → ℕ) → ℕ × ℕ → ℕ × ℕ → Type 0
IsNoWorse weigh x y = (weigh x < weigh y) ⊎ ((weigh x ≡ weigh y) × IsBefore x y)

before-trans : (x y z : ℕ × ℕ) → IsBefore x y → IsBefore y z → IsBefore x z
before-trans x y z (inl lt) (inl lt') = inl (omega arith)
before-trans x y z (inl lt) (inr e) = inl (omega arith)
before-trans x y z (inr e) (inl lt) = inl (omega arith)
before-trans x y z (inr e) (inr e') = inr (omega arith, omega arith)

before-same : (x y : ℕ × ℕ) → IsBefore x y → IsBefore y x → x ≡ y
before-same x y (inl lt) (inl lt') = absurd (omega arith)
before-same x y (inl lt) (inr e) = absurd (omega arith)
before-same x y (inr e) (inl lt) = absurd (omega arith)
before-same x y (inr e) (inr e') = let first : x.0 ≡ y.0 = omega arith in let second : x.1 ≡ y.1 = omega arith in ap₂ (λ (r c : ℕ). (r, c)) first second

module _ (weigh : ℕ × ℕ → ℕ) where
  no_worse-trans : (x y z : ℕ × ℕ) → IsNoWorse weigh x y → IsNoWorse weigh y z → IsNoWorse weigh x z
  no_worse-trans x y z (inl lt) (inl lt') = inl (omega arith)
  no_worse-trans x y z (inl lt) (inr e) = inl (omega arith)
  no_worse-trans x y z (inr e) (inl lt) = inl (omega arith)
  no_worse-trans x y z (inr e) (inr e') = inr (e.0 ∙ e'.0, before-trans x y z e.1 e'.1)

  no_worse-same : (x y : ℕ × ℕ) → IsNoWorse weigh x y → IsNoWorse weigh y x → x ≡ y
  no_worse-same x y (inl lt) (inl lt') = absurd (omega arith)
  no_worse-same x y (inl lt) (inr e) = absurd (omega arith)
  no_worse-same x y (inr e) (inl lt) = absurd (omega arith)
  no_worse-same x y (inr e) (inr e') = before-same x y e.1 e'.1

  -- entries by row and then by position
  abbrev pub AreInOrder : List (ℕ × ℕ) → Type 0
  AreInOrder [] = Unit {0}
  AreInOrder (x ∷ xs) = AllByRecursion (IsBefore x) xs × AreInOrder xs

  abbrev both_all : {P Q : ℕ × ℕ → Type 0} → ((x : ℕ × ℕ) → P x → Q x) → (xs : List (ℕ × ℕ)) → AllByRecursion P xs → AllByRecursion Q xs
  both_all h [] all = tt
  both_all h (x ∷ xs) all = (h x all.0, both_all h xs all.1)

  -- what is chosen is no worse than the best so far and than each entry
  chosen : (entries : List (ℕ × ℕ)) (best out : ℕ × ℕ) → first_least weigh (Some best) entries ≡ Some out → AllByRecursion (IsBefore best) entries → AreInOrder entries
      → IsNoWorse weigh out best × AllByRecursion (IsNoWorse weigh out) entries
  chosen [] best out is before order = let same : best ≡ out = cc in (inr (ap weigh (sym same), inr (ap (λ (x : ℕ × ℕ). x.0) (sym same), omega (arith, ap (λ (x : ℕ × ℕ). x.1) same))), tt)
  chosen (entry ∷ entries) best out is before order =
      by_test (λ b. chosen entries b out) (ltb (weigh entry) (weigh best)) refl is
    where
      by_test : ((b : ℕ × ℕ) → first_least weigh (Some b) entries ≡ Some out → AllByRecursion (IsBefore b) entries → AreInOrder entries
          → IsNoWorse weigh out b × AllByRecursion (IsNoWorse weigh out) entries)
          → (t : Bool) → ltb (weigh entry) (weigh best) ≡ t → first_least weigh (Some (cond t entry best)) entries ≡ Some out
          → IsNoWorse weigh out best × (IsNoWorse weigh out entry × AllByRecursion (IsNoWorse weigh out) entries)
      by_test later true e h =
          let found = later entry h order.0 order.1 in
          (no_worse-trans out entry best found.0 (inl (ltb-true (weigh entry) (weigh best) e)), (found.0, found.1))
      by_test later false e h =
          let found = later best h before.1 order.1 in
          let le : weigh best ≤ weigh entry = ltb-false (weigh entry) (weigh best) e in
          let step : IsNoWorse weigh best entry = ⊎_elim
          (λ (lt : weigh best < weigh entry). inl lt)
          (λ (ge : weigh entry ≤ weigh best). inr (omega arith, before.0))
          (cases_lt (weigh best) (weigh entry)) in
          (found.0, (no_worse-trans out best entry found.0 step, found.1))

module _ (e : Elimination) where
  append-order : (weigh : ℕ × ℕ → ℕ) (xs ys : List (ℕ × ℕ)) → AreInOrder weigh xs → AreInOrder weigh ys → AllByRecursion (λ x. AllByRecursion (IsBefore x) ys) xs → AreInOrder weigh (xs ++ ys)
  append-order weigh [] ys p q cross = q
  append-order weigh (x ∷ xs) ys p q cross = (all_both (IsBefore x) xs ys p.0 cross.0, append-order weigh xs ys p.1 q cross.1)
    where
      all_both : (P : ℕ × ℕ → Type 0) (us vs : List (ℕ × ℕ)) → AllByRecursion P us → AllByRecursion P vs → AllByRecursion P (us ++ vs)
      all_both P [] vs p q = q
      all_both P (u ∷ us) vs p q = (p.0, all_both P us vs p.1 q)

  row_all : (P : ℕ × ℕ → Type 0) (r : ℕ) (ps : List ℕ) → ((p : ℕ) → In p ps → P (r, p)) → AllByRecursion P (of_row e r ps)
  row_all P r [] all = tt
  row_all P r (p ∷ ps) all =
      let rest = row_all P r ps (λ q held. all q (inr held)) in
      ⊎_elim
      (λ (none : e.matrix r p ≡ zero_ℚ). subst (AllByRecursion P) (sym (of_row-none e r p ps none)) rest)
      (λ (some : e.matrix r p ≢ zero_ℚ). subst (AllByRecursion P) (sym (of_row-some e r p ps some)) (all p (inl refl), rest))
      (cases_ℚ (e.matrix r p))

  rows_all : (P : ℕ × ℕ → Type 0) (rs : List ℕ) → ((r p : ℕ) → In r rs → P (r, p)) → AllByRecursion P (of_rows e rs)
  rows_all P [] all = tt
  rows_all P (r ∷ rs) all = join (of_row e r e.positions) (of_rows e rs) (row_all P r e.positions (λ p held. all r p (inl refl))) (rows_all P rs (λ s p held. all s p (inr held)))
    where
      join : (us vs : List (ℕ × ℕ)) → AllByRecursion P us → AllByRecursion P vs → AllByRecursion P (us ++ vs)
      join [] vs p q = q
      join (u ∷ us) vs p q = (p.0, join us vs p.1 q)

  module _ (weigh : ℕ × ℕ → ℕ) where
    row-order : (r : ℕ) (ps : List ℕ) → Pairwise ◌<◌ ps → AreInOrder weigh (of_row e r ps)
    row-order r [] rise = tt
    row-order r (p ∷ ps) rise =
        let rest = row-order r ps rise.1 in
        ⊎_elim
        (λ (none : e.matrix r p ≡ zero_ℚ). subst (AreInOrder weigh) (sym (of_row-none e r p ps none)) rest)
        (λ (some : e.matrix r p ≢ zero_ℚ).
        subst (AreInOrder weigh) (sym (of_row-some e r p ps some)) (row_all (IsBefore (r, p)) r ps (λ q held. inr (refl, omega (arith, rise.0 q held))), rest))
        (cases_ℚ (e.matrix r p))

    rows-order : (rs : List ℕ) → Pairwise ◌<◌ rs → Pairwise ◌<◌ e.positions → AreInOrder weigh (of_rows e rs)
    rows-order [] rise positions_rise = tt
    rows-order (r ∷ rs) rise positions_rise =
        append-order weigh (of_row e r e.positions) (of_rows e rs) (row-order r e.positions positions_rise) (rows-order rs rise.1 positions_rise)
        (row_all (λ x. AllByRecursion (IsBefore x) (of_rows e rs)) r e.positions (λ p held. rows_all (IsBefore (r, p)) rs (λ s q later. inl (rise.0 s later))))

  -- what holds of all active entries
  row_at : (P : ℕ × ℕ → Type 0) (r p : ℕ) (ps : List ℕ) → AllByRecursion P (of_row e r ps) → In p ps → e.matrix r p ≢ zero_ℚ → P (r, p)
  row_at P r p [] all held some = absurd held
  row_at P r p (q ∷ ps) all held some =
      ⊎_elim
      (λ (none : e.matrix r q ≡ zero_ℚ). ⊎_elim
      (λ (here : p ≡ q). absurd (some (ap (e.matrix r) here ∙ none)))
      (λ (later : In p ps). row_at P r p ps (subst (AllByRecursion P) (of_row-none e r q ps none) all) later some)
      held)
      (λ (some_q : e.matrix r q ≢ zero_ℚ).
      let both = subst (AllByRecursion P) (of_row-some e r q ps some_q) all in
      ⊎_elim
      (λ (here : p ≡ q). subst (λ (s : ℕ). P (r, s)) (sym here) both.0)
      (λ (later : In p ps). row_at P r p ps both.1 later some)
      held)
      (cases_ℚ (e.matrix r q))

  rows_at : (P : ℕ × ℕ → Type 0) (r p : ℕ) (rs : List ℕ) → AllByRecursion P (of_rows e rs) → In r rs → In p e.positions → e.matrix r p ≢ zero_ℚ → P (r, p)
  rows_at P r p [] all held inside some = absurd held
  rows_at P r p (s ∷ rs) all held inside some =
      let both = split (of_row e s e.positions) (of_rows e rs) all in
      ⊎_elim
      (λ (here : r ≡ s). row_at P r p e.positions (subst (λ (t : ℕ). AllByRecursion P (of_row e t e.positions)) (sym here) both.0) inside some)
      (λ (later : In r rs). rows_at P r p rs both.1 later inside some)
      held
    where
      split : (us vs : List (ℕ × ℕ)) → AllByRecursion P (us ++ vs) → AllByRecursion P us × AllByRecursion P vs
      split [] vs all = (tt, all)
      split (u ∷ us) vs all = let rest = split us vs all.1 in ((all.0, rest.0), rest.1)

  module _ (rows_rise : Pairwise ◌<◌ e.rows) (positions_rise : Pairwise ◌<◌ e.positions) where
    -- the pivot is no worse than any active entry
    least-no_worse : (pivot : ℕ × ℕ) → least e ≡ Some pivot → (r p : ℕ) → In r e.rows → In p e.positions → e.matrix r p ≢ zero_ℚ → IsNoWorse (cost e) pivot (r, p)
    least-no_worse pivot is r p held inside some = rows_at (IsNoWorse (cost e) pivot) r p e.rows (by_entries (active_entries e) refl (rows-order (cost e) e.rows rows_rise positions_rise)) held inside some
      where
        by_entries : (entries : List (ℕ × ℕ)) → active_entries e ≡ entries → AreInOrder (cost e) (active_entries e) → AllByRecursion (IsNoWorse (cost e) pivot) (active_entries e)
        by_entries [] none order = subst (AllByRecursion (IsNoWorse (cost e) pivot)) (sym none) tt
        by_entries (x ∷ xs) are order =
            let sorted = subst (AreInOrder (cost e)) are order in
            let found : first_least (cost e) (Some x) xs ≡ Some pivot = sym (ap (first_least (cost e) None) are) ∙ is in
            subst (AllByRecursion (IsNoWorse (cost e) pivot)) (sym are) (chosen (cost e) xs x pivot found sorted.0 sorted.1)

    module _ (a : Matrix) (part : IsActivePart e a) where
      pub least-is : (l : ℕ) → IsLeast a l → least e ≡ Some (row_of a l, col_of a l)
      least-is l best =
          let r = row_of a l in
          let c = col_of a l in
          let active = has_active e a part r c (l, best.is_link, refl, refl) in
          ⊎_elim
          (λ (some : (pivot : ℕ × ℕ) × (least e ≡ Some pivot) × IsActive e pivot).
          let pivot = some.0 in
          let has : Has a pivot.0 pivot.1 = active_has e a part pivot.0 pivot.1 some.2.0 some.2.1 some.2.2 in
          let k = has.0 in
          let mine = cost-is e a part rows_rise positions_rise l best.is_link in
          let theirs : cost_of a k ≡ cost e pivot = cost-is e a part rows_rise positions_rise k has.1 ∙ ap₂ (λ (i p : ℕ). cost e (i, p)) has.2 has.3 in
          let forth : IsNoWorse (cost e) (r, c) pivot = ⊎_elim
          (λ (lt : cost_of a l < cost_of a k). inl (omega (arith, mine, theirs)))
          (λ (same : (cost_of a l ≡ cost_of a k) × ((row_of a l < row_of a k) ⊎ ((row_of a l ≡ row_of a k) × (col_of a l ≤ col_of a k)))).
          inr (
            sym mine ∙ same.0 ∙ theirs,
            ⊎_elim
                (λ (lt : row_of a l < row_of a k). inl (omega (arith, has.2)))
                (λ (eq : (row_of a l ≡ row_of a k) × (col_of a l ≤ col_of a k)). inr (eq.0 ∙ has.2, omega (arith, eq.1, has.3)))
                same.1,
          ))
          (best.least k has.1) in
          some.1 ∙ ap (λ (x : ℕ × ℕ). Some x) (no_worse-same (cost e) pivot (r, c) (least-no_worse pivot some.1 r c active.0 active.1 active.2) forth))
          (λ (none : (least e ≡ None) × ((i p : ℕ) → In i e.rows → In p e.positions → e.matrix i p ≡ zero_ℚ)).
          absurd (active.2 (none.1 r c active.0 active.1)))
          (least-cases e)

    pub least-none : (a : Matrix) → IsActivePart e a → ((l : ℕ) → ¬ IsLink a l) → least e ≡ None
    least-none a part empty =
        ⊎_elim
        (λ (some : (pivot : ℕ × ℕ) × (least e ≡ Some pivot) × IsActive e pivot).
        let has : Has a some.0.0 some.0.1 = active_has e a part some.0.0 some.0.1 some.2.0 some.2.1 some.2.2 in
        absurd (empty has.0 has.1))
        (λ (none : (least e ≡ None) × ((i p : ℕ) → In i e.rows → In p e.positions → e.matrix i p ≡ zero_ℚ)). none.0)
        (least-cases e)
