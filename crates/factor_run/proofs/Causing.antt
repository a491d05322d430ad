-- A value of the ratio test that does not fit, or a basic value, is a cause to give the factors up.
use Rattle.std.proofs.Common.{◌≡◌, ℕ, List, [], ◌∷◌, ◌++◌, map, flat_map, Bool, true, false, cond, eqb, Option, Some, None, refl, ◌∙◌, ap, ap₂}
use Rattle.std.proofs.lemmas.List.Elements.{filter-append}
use Rattle.lp_model.specs.declared.Entry.TheVariants.{Flip, Swap}
use Rattle.lp_model.specs.declared.Kind.TheVariants as kind
use Rattle.lp_model.specs.declared.Place.{Place}
use Rattle.lp_model.specs.declared.Side.{Side}
use Rattle.rational.specs.Rational.{ℚ, ◌-ℚ◌, ◌/ℚ◌, abs_ℚ}
use Rattle.rational.specs.Sparse.{upto}
use Rattle.rational.specs.Sum.{at}
use Rattle.rational.specs.Worked.{less, placed}
use Rattle.lp_run.specs.Instance.{Instance, bounds, column_count, row_count}
use Rattle.lp_run.specs.Listing.{Listed, MoveLists, entered, first_unfit, move_listing, pivot_listing, pivot_row, place, ratio_listing, value_listing}
use Rattle.lp_run.specs.Solution.{IsTable, reduced}
use Rattle.lp_run.specs.State.{State, rest}
use Rattle.lp_run.specs.Step.{Leaves, Limit, Pivoting, direction, distance_at}
use Rattle.lp_run.proofs.FirstUnfit.{fit-append, unfit-append}
use Rattle.factor_model.specs.Factors.{Factors}
use Rattle.factor_run.specs.Calm.{is_worked, without_table}
use Rattle.factor_run.specs.Causes.{Cause, move}

-- ── what is worked without a table ──

abbrev pub IsKept : List Listed → Type 0
IsKept vs = without_table vs ≡ vs

without-append : (xs ys : List Listed) → without_table (xs ++ ys) ≡ without_table xs ++ without_table ys
without-append xs ys = filter-append (λ v. is_worked v.0.kind) xs ys

pub kept-append : (xs ys : List Listed) → IsKept xs → IsKept ys → IsKept (xs ++ ys)
kept-append xs ys h h' = without-append xs ys ∙ ap₂ (λ xs ys. xs ++ ys) h h'

kept-flat_map : (f : ℕ → List Listed) (ks : List ℕ) → ((k : ℕ) → IsKept (f k)) → IsKept (flat_map f ks)
kept-flat_map f [] h = refl
kept-flat_map f (k ∷ ks) h = kept-append (f k) (flat_map f ks) (h k) (kept-flat_map f ks h)

position_kept : (here : Place) (a : ℚ) (o : Option (ℚ × Side)) → here.kind ≡ kind.Ratio → IsKept (elim o [ None ↦ [] | Some d ↦ (here, d.0) ∷ (here, d.0 /ℚ abs_ℚ a) ∷ [] ])
position_kept here a None is = refl
position_kept here a (Some d) is = ap₂ (λ s t. cond s ((here, d.0) ∷ (cond t ((here, d.0 /ℚ abs_ℚ a) ∷ []) [])) (cond t ((here, d.0 /ℚ abs_ℚ a) ∷ []) [])) (ap is_worked is) (ap is_worked is)

own_kept : (k q : ℕ) (lower upper : Option ℚ)
    → IsKept (elim lower [ None ↦ [] | Some l ↦ elim upper [ None ↦ [] | Some u ↦ (place k kind.Ratio None (Some q), u -ℚ l) ∷ [] ] ])
own_kept k q None upper = refl
own_kept k q (Some l) None = refl
own_kept k q (Some l) (Some u) = refl

ratios_kept : (inst : Instance) (k : ℕ) (s : State) (q : ℕ) (t : ℚ) (β α : List ℚ) → IsKept (ratio_listing inst k s q t β α)
ratios_kept inst k s q t β α =
    kept-append _ _
    (kept-flat_map _ (upto (row_count inst)) (λ p. position_kept (place k kind.Ratio (Some p) None) (at α p) (distance_at inst s t β α p) refl))
    (own_kept k q (bounds inst s.phase q).lower (bounds inst s.phase q).upper)

pub placed_kept : (here : Place) (vs : List ℚ) → is_worked here.kind ≡ true → IsKept (map (λ v. (here, v)) vs)
placed_kept here [] is = refl
placed_kept here (v ∷ vs) is = ap (λ t. cond t ((here, v) ∷ without_table (map (λ v. (here, v)) vs)) (without_table (map (λ v. (here, v)) vs))) is ∙ ap (λ rest. (here, v) ∷ rest) (placed_kept here vs is)

value_kept : (k : ℕ) (t ratio : ℚ) (β α : List ℚ) (i : ℕ) → IsKept (value_listing k t ratio β α i)
value_kept k t ratio β α i = placed_kept (place k kind.Value (Some i) None) _ refl

either_kept : (b : Bool) (xs ys : List Listed) → IsKept xs → IsKept ys → IsKept (cond b xs ys)
either_kept true xs ys h h' = h
either_kept false xs ys h h' = h'

-- ── the first that does not fit ──

module _ (w : ℕ) where
  -- a list with one that does not fit has a first one
  after-some : (xs ys : List Listed) (here : Place) → first_unfit w ys ≡ Some here → (first : Place) × (first_unfit w (xs ++ ys) ≡ Some first)
  after-some xs ys here e = by (first_unfit w xs) refl
    where
      by : (o : Option Place) → first_unfit w xs ≡ o → (first : Place) × (first_unfit w (xs ++ ys) ≡ Some first)
      by None fits = (here, fit-append w xs ys fits ∙ e)
      by (Some first) unfit = (first, unfit-append w xs ys first unfit)

  pub in-middle : (xs ys zs : List Listed) → IsKept ys → (here : Place) → first_unfit w ys ≡ Some here → (first : Place) × (first_unfit w (without_table (xs ++ ys ++ zs)) ≡ Some first)
  in-middle xs ys zs kept here e =
      let (first, is) = after-some (without_table xs) (without_table ys) here (ap (first_unfit w) kept ∙ e) in (
        first,
        ap (first_unfit w) (without-append (xs ++ ys) zs ∙ ap (λ vs. vs ++ without_table zs) (without-append xs ys))
            ∙ unfit-append w (without_table xs ++ without_table ys) (without_table zs) first is,
      )

  module _ (inst : Instance) (k : ℕ) (s : State) (f : Factors) (table : ℕ → ℕ → ℚ) (columns : IsTable inst s table) (y β α : List ℚ) (q : ℕ) (pivoting : Pivoting inst s y β α q) where
    ratios : List Listed
    ratios = ratio_listing inst k s q (direction (reduced inst s y q)) β α

    module _ (limit : Limit) (leaves : Leaves inst s q (direction (reduced inst s y q)) β α limit) where
      moves : List Listed
      moves = move_listing inst k s table β α (reduced inst s y) q (direction (reduced inst s y q)) limit.ratio limit.entry

      lists : MoveLists inst k s (ratios ++ moves)
      unfolding ratios moves
      lists = (table, record { prices = y; values = β; column = α; entering = q; limit = limit; pivoting = pivoting; leaves = leaves }, columns, refl)

      split : without_table (ratios ++ moves) ≡ ratios ++ without_table moves
      unfolding ratios
      split = without-append ratios moves ∙ ap (λ xs. xs ++ without_table moves) (ratios_kept inst k s q (direction (reduced inst s y q)) β α)

      pub ratio_cause : (here : Place) → first_unfit w (ratio_listing inst k s q (direction (reduced inst s y q)) β α) ≡ Some here → Cause w inst k s f
      unfolding ratios
      ratio_cause here e = move (ratios ++ moves) here lists (ap (first_unfit w) split ∙ unfit-append w ratios (without_table moves) here e)

      by_move : (here : Place) → first_unfit w (without_table moves) ≡ Some here → Cause w inst k s f
      by_move here e = let (first, is) = after-some ratios (without_table moves) here e in move (ratios ++ moves) first lists (ap (first_unfit w) split ∙ is)

    -- a basic value after a flip
    pub flip_cause : (r : ℚ) → Leaves inst s q (direction (reduced inst s y q)) β α (record { ratio = r; column = q; entry = Flip q }) → (here : Place)
        → first_unfit w (flat_map (value_listing k (direction (reduced inst s y q)) r β α) (upto (row_count inst))) ≡ Some here → Cause w inst k s f
    unfolding moves
    flip_cause r leaves here e =
        by_move (record { ratio = r; column = q; entry = Flip q }) leaves here
        (ap (first_unfit w) (kept-flat_map (value_listing k (direction (reduced inst s y q)) r β α) (upto (row_count inst)) (value_kept k (direction (reduced inst s y q)) r β α)) ∙ e)

    -- a basic value after a swap
    pub swap_cause : (p c : ℕ) (end : Side) (r : ℚ) → Leaves inst s q (direction (reduced inst s y q)) β α (record { ratio = r; column = c; entry = Swap q p end }) → (here : Place)
        → first_unfit w (flat_map (λ i. cond (eqb i p) ((place k kind.Value (Some p) None, entered (direction (reduced inst s y q)) (rest inst s q) r) ∷ [])
        (value_listing k (direction (reduced inst s y q)) r β α i)) (upto (row_count inst))) ≡ Some here → Cause w inst k s f
    unfolding moves
    swap_cause p c end r leaves here e =
        let t = direction (reduced inst s y q) in
        let values = flat_map (λ i. cond (eqb i p) ((place k kind.Value (Some p) None, entered t (rest inst s q) r) ∷ []) (value_listing k t r β α i)) (upto (row_count inst)) in
        let kept : IsKept values =
        kept-flat_map (λ i. cond (eqb i p) ((place k kind.Value (Some p) None, entered t (rest inst s q) r) ∷ []) (value_listing k t r β α i)) (upto (row_count inst))
        (λ i. either_kept (eqb i p) ((place k kind.Value (Some p) None, entered t (rest inst s q) r) ∷ []) (value_listing k t r β α i) refl (value_kept k t r β α i)) in
        let first =
        in-middle (pivot_listing inst k table p q) values
        (flat_map (λ j. placed (place k kind.Cost None (Some j)) (less (reduced inst s y j) (reduced inst s y q) (pivot_row table p q j))) (upto (column_count inst))) kept here e in
        by_move (record { ratio = r; column = c; entry = Swap q p end }) leaves first.0 first.1
