-- What holds where an item holds.
use Rattle.std.proofs.Common.{◌≡◌, ℕ, ◌<◌, List, Bool, true, false, ◌||◌, Some, None, length, is_some, Decides, refl, ◌∙◌, ap, ap₂}
use Rattle.std.specs.Option.{IsSome, is_none, unwrap_or}
use Rattle.std.proofs.lemmas.Bool.Decides.{Decides-at}
use Rattle.lp_model.specs.Basis.{Basis}
use Rattle.lp_model.specs.Certificate.{column_greatest, logical_greatest, reduced_cost, weighted_column, weighted_right}
use Rattle.lp_model.specs.Deck.{Deck, IsDeck, Within, activity, activity_interval, column, cost_at, in_sense, objective, row}
use Rattle.rational.specs.Rational.{ℚ, zero_ℚ, ◌+ℚ◌, ◌<ℚ◌, eq_ℚ, lt_ℚ}
use Rattle.rational.specs.Sum.{at, sum_ℚ}
use Rattle.rational.specs.Worked.{Worked, done, work}
use Rattle.rational.proofs.AnswerLaws.{answer-bind, answer-done, answer-work}
use Rattle.rational.proofs.OrderLaws.{eq_ℚ-decides}
use Rattle.cert_check.specs.Items.{allows, basic_cost_item, basic_weight_item, basis_item, column_item, endless_column_item, endless_row_item, gap_item, is_among, is_at_end, is_at_rest, is_basis, is_within, objective_item, price_item, ray_column_item, ray_cost_item, ray_row_item, reduced_item, rest_item, row_item, zero_where}
use Rattle.cert_check.specs.Sums.{activity_sum, all_parts, column_part, cost_sum, interval_sum, logical_part, objective_sum, parts_sum, reduced_sum, right_sum, weighted_sum}
use Rattle.cert_check.specs.Inner.Groups.{exceeded, priced_by, within_interval}
use Rattle.cert_check.proofs.Answered.{answer-activity, answer-all_parts, answer-column_part, answer-cost, answer-logical_part, answer-objective, answer-reduced, answer-right, answer-weighted_column}
use Rattle.cert_check.proofs.Decided.{Allowed, allows-decides, at_end-decides, lt-decides, none-decides, within-decides}

module _ (d : Deck) (x : List ℚ) where
  pub column-holds : (j : ℕ) → Decides (column_item d x j).answer (Within (column d j).bounds (at x j))
  column-holds j =
      let test : ℚ → Bool = is_within (column d j).bounds in
      Decides-at _ _ (answer-bind (work (at x j)) (λ v. done (test v)) ∙ answer-done (test (work (at x j)).answer) ∙ ap test (answer-work (at x j))) (within-decides (column d j).bounds (at x j))

  pub row-holds : (i : ℕ) → Decides (row_item d x i).answer (Within (activity_interval (row d i)) (activity d x i))
  row-holds i =
      let ends = activity_interval (row d i) in
      let sum = activity_sum d x i in
      Decides-at _ _
      (answer-bind sum (within_interval (row d i)) ∙ answer-bind (interval_sum (row d i)) (λ ends. done (is_within ends sum.answer)) ∙ answer-done (is_within ends sum.answer)
      ∙ ap (is_within ends) (answer-activity d x i))
      (within-decides ends (activity d x i))

  pub objective-holds : (stated : ℚ) → Decides (objective_item d x stated).answer (objective d x ≡ stated)
  objective-holds stated =
      let sum = objective_sum d x in
      Decides-at _ _ (answer-bind sum (λ z. done (eq_ℚ z stated)) ∙ answer-done (eq_ℚ sum.answer stated) ∙ ap (λ z. eq_ℚ z stated) (answer-objective d x)) (eq_ℚ-decides (objective d x) stated)

  module _ (y : List ℚ) where
    pub reduced-holds : IsDeck d → (j : ℕ) → j < length d.columns → Decides (reduced_item d x y j).answer
        (Allowed (in_sense d.sense (reduced_cost d y j)) ((column d j).bounds.lower ≡ Some (at x j)) ((column d j).bounds.upper ≡ Some (at x j)))
    reduced-holds is_deck j lt =
        let lower = is_at_end (column d j).bounds.lower (at x j) in
        let upper = is_at_end (column d j).bounds.upper (at x j) in
        let sum = reduced_sum d y j in
        Decides-at _ _
        (answer-bind sum (λ c. done (allows (in_sense d.sense c) lower upper)) ∙ answer-done (allows (in_sense d.sense sum.answer) lower upper)
        ∙ ap (λ c. allows (in_sense d.sense c) lower upper) (answer-reduced d y is_deck j lt))
        (allows-decides (in_sense d.sense (reduced_cost d y j)) lower upper _ _ (at_end-decides (column d j).bounds.lower (at x j)) (at_end-decides (column d j).bounds.upper (at x j)))

    pub price-holds : (i : ℕ) → Decides (price_item d x y i).answer
        (Allowed (in_sense d.sense (at y i)) ((activity_interval (row d i)).lower ≡ Some (activity d x i)) ((activity_interval (row d i)).upper ≡ Some (activity d x i)))
    price-holds i =
        let ends = activity_interval (row d i) in
        let c = in_sense d.sense (at y i) in
        let sum = activity_sum d x i in
        Decides-at _ _
        (answer-bind sum (priced_by (row d i) c) ∙ answer-bind (interval_sum (row d i)) (λ ends. done (allows c (is_at_end ends.lower sum.answer) (is_at_end ends.upper sum.answer)))
        ∙ answer-done (allows c (is_at_end ends.lower sum.answer) (is_at_end ends.upper sum.answer))
        ∙ ap (λ a. allows c (is_at_end ends.lower a) (is_at_end ends.upper a)) (answer-activity d x i))
        (allows-decides c (is_at_end ends.lower (activity d x i)) (is_at_end ends.upper (activity d x i)) _ _ (at_end-decides ends.lower (activity d x i)) (at_end-decides ends.upper (activity d x i)))

-- ── a Farkas row ──

module _ (d : Deck) (y : List ℚ) where
  pub endless_column-holds : IsDeck d → (j : ℕ) → j < length d.columns → Decides (endless_column_item d y j).answer (IsSome (column_greatest d y j))
  endless_column-holds is_deck j lt =
      let part = column_part d y j in
      Decides-at _ _ (answer-bind part (λ g. done (is_some g)) ∙ answer-done (is_some part.answer) ∙ ap is_some (answer-column_part d y is_deck j lt)) (λ h. h, λ h. h)

  pub endless_row-holds : IsDeck d → (i : ℕ) → Decides (endless_row_item d y i).answer (IsSome (logical_greatest d y i))
  endless_row-holds is_deck i =
      let part = logical_part d y i in
      Decides-at _ _ (answer-bind part (λ g. done (is_some g)) ∙ answer-done (is_some part.answer) ∙ ap is_some (answer-logical_part d y is_deck i)) (λ h. h, λ h. h)

  pub gap-holds : IsDeck d → Decides (gap_item d y).answer
      (sum_ℚ (length d.columns) (λ j. unwrap_or (column_greatest d y j) zero_ℚ) +ℚ sum_ℚ (length d.rows) (λ i. unwrap_or (logical_greatest d y i) zero_ℚ) <ℚ weighted_right d y)
  gap-holds is_deck =
      let most = parts_sum zero_ℚ (all_parts d y) in
      let right = right_sum d y in
      Decides-at _ _
      (answer-bind most (exceeded d y) ∙ answer-bind right (λ b. done (lt_ℚ most.answer b)) ∙ answer-done (lt_ℚ most.answer right.answer)
      ∙ ap₂ lt_ℚ (answer-all_parts d y is_deck) (answer-right d y))
      (lt-decides _ _)

-- ── a ray ──

module _ (d : Deck) (r : List ℚ) where
  pub ray_column-holds : (j : ℕ) → Decides (ray_column_item d r j).answer (Allowed (at r j) ((column d j).bounds.upper ≡ None) ((column d j).bounds.lower ≡ None))
  ray_column-holds j =
      let upper = is_none (column d j).bounds.upper in
      let lower = is_none (column d j).bounds.lower in
      Decides-at _ _
      (answer-bind (work (at r j)) (λ v. done (allows v upper lower)) ∙ answer-done (allows (work (at r j)).answer upper lower) ∙ ap (λ v. allows v upper lower) (answer-work (at r j)))
      (allows-decides (at r j) upper lower _ _ (none-decides (column d j).bounds.upper) (none-decides (column d j).bounds.lower))

  pub ray_row-holds : (i : ℕ) → Decides (ray_row_item d r i).answer (Allowed (activity d r i) ((activity_interval (row d i)).upper ≡ None) ((activity_interval (row d i)).lower ≡ None))
  ray_row-holds i =
      let ends = activity_interval (row d i) in
      let sum = activity_sum d r i in
      Decides-at _ _
      (answer-bind sum (λ a. done (allows a (is_none ends.upper) (is_none ends.lower))) ∙ answer-done (allows sum.answer (is_none ends.upper) (is_none ends.lower))
      ∙ ap (λ a. allows a (is_none ends.upper) (is_none ends.lower)) (answer-activity d r i))
      (allows-decides (activity d r i) (is_none ends.upper) (is_none ends.lower) _ _ (none-decides ends.upper) (none-decides ends.lower))

  pub ray_cost-holds : Decides (ray_cost_item d r).answer (in_sense d.sense (cost_at d r) <ℚ zero_ℚ)
  ray_cost-holds =
      let sum = cost_sum d r in
      Decides-at _ _
      (answer-bind sum (λ c. done (lt_ℚ (in_sense d.sense c) zero_ℚ)) ∙ answer-done (lt_ℚ (in_sense d.sense sum.answer) zero_ℚ) ∙ ap (λ c. lt_ℚ (in_sense d.sense c) zero_ℚ) (answer-cost d r))
      (lt-decides (in_sense d.sense (cost_at d r)) zero_ℚ)

-- ── a basis ──

pub basis-holds : (b : Basis) → Decides (basis_item b).answer (is_basis b ≡ true)
basis-holds b = Decides-at _ _ (answer-done (is_basis b)) (λ h. h, λ h. h)

pub rest-holds : (d : Deck) (b : Basis) (x : List ℚ) (j : ℕ) → Decides (rest_item d b x j).answer (is_among j b.basic ≡ false → is_at_rest (column d j).bounds (is_among j b.upper) (at x j) ≡ true)
rest-holds d b x j =
    Decides-at _ _ (answer-done (is_among j b.basic || is_at_rest (column d j).bounds (is_among j b.upper) (at x j)))
    (by_test (is_among j b.basic) (is_at_rest (column d j).bounds (is_among j b.upper) (at x j)))
  where
    by_test : (s t : Bool) → Decides (s || t) (s ≡ false → t ≡ true)
    by_test true t = (λ _ e. absurd (cc e), λ _. refl)
    by_test false t = (λ e _. e, λ h. h refl)

zero_where-decides : (asked : Bool) (sum : Worked ℚ) (v : ℚ) → sum.answer ≡ v → Decides (zero_where asked sum).answer (asked ≡ true → v ≡ zero_ℚ)
zero_where-decides true sum v is =
    let zero = eq_ℚ-decides v zero_ℚ in
    Decides-at _ _ (answer-bind sum (λ c. done (eq_ℚ c zero_ℚ)) ∙ answer-done (eq_ℚ sum.answer zero_ℚ) ∙ ap (λ c. eq_ℚ c zero_ℚ) is) (λ e _. zero.0 e, λ h. zero.1 (h refl))
zero_where-decides false sum v is = Decides-at _ _ (answer-done true) (λ _ e. absurd (cc e), λ _. refl)

module _ (d : Deck) (b : Basis) (y : List ℚ) (is_deck : IsDeck d) (j : ℕ) (lt : j < length d.columns) where
  pub basic_cost-holds : Decides (basic_cost_item d b y j).answer (is_among j b.basic ≡ true → reduced_cost d y j ≡ zero_ℚ)
  basic_cost-holds = zero_where-decides (is_among j b.basic) (reduced_sum d y j) (reduced_cost d y j) (answer-reduced d y is_deck j lt)

  pub basic_weight-holds : Decides (basic_weight_item d b y j).answer (is_among j b.basic ≡ true → weighted_column d y j ≡ zero_ℚ)
  basic_weight-holds = zero_where-decides (is_among j b.basic) (weighted_sum d y j) (weighted_column d y j) (answer-weighted_column d y is_deck j lt)
