-- The walk, and what its end tells: each item holds exactly where the outcome is proved.
use Rattle.std.proofs.Common.{◌≡◌, ℕ, zero, suc, ◌+◌, ◌<◌, ◌≤◌, Bool, true, false, cond, List, [], ◌∷◌, ◌++◌, length, map, Option, Some, None, Decides, Result, Ok, Err, ⊎_elim, refl, sym, ◌∙◌, ap, arith}
use Rattle.std.specs.List.{AllByRecursion, list_all, range_with_len}
use Rattle.std.proofs.lemmas.Bool.{cases_eq}
use Rattle.std.specs.Option.{IsSome}
use Rattle.deck_model.specs.Outcome.{HasLengthsOf}
use Rattle.lp_model.specs.Basis.{Basis}
use Rattle.lp_model.specs.Certificate.{Farkas, Ray, column_greatest, logical_greatest, reduced_cost, weighted_column}
use Rattle.lp_model.specs.Deck.{Deck, IsDeck, IsFeasible, Within, activity, activity_interval, column, in_sense, row}
use Rattle.lp_model.specs.Outcome.{Outcome, optimal, infeasible, unbounded}
use Rattle.rational.specs.Rational.{ℚ, zero_ℚ}
use Rattle.rational.specs.Sum.{at}
use Rattle.rational.specs.Width.{fits_width}
use Rattle.rational.specs.Worked.{Worked, settle}
use Rattle.rational.proofs.Settling.{settle-answer}
use Rattle.cert_check.specs.declared.verdict.Rule.{Rule}
use Rattle.cert_check.specs.declared.verdict.Rule.TheVariants as rule
use Rattle.cert_check.specs.declared.verdict.Verdict.{Verdict}
use Rattle.cert_check.specs.declared.verdict.Verdict.TheVariants.{Yes, No}
use Rattle.cert_check.specs.declared.verdict.CheckFault.{CheckFault}
use Rattle.cert_check.specs.declared.verdict.CheckFault.TheVariants.{Memory, Overflow}
use Rattle.cert_check.specs.declared.verdict.Stop.TheVariants.{Broken, Unfit}
use Rattle.cert_check.specs.Items.{basic_cost_item, basic_weight_item, basis_item, column_item, endless_column_item, endless_row_item, gap_item, is_among, is_at_rest, objective_item, price_item, ray_column_item, ray_cost_item, ray_row_item, reduced_item, rest_item, row_item}
use Rattle.cert_check.specs.Judged.{Judges}
use Rattle.cert_check.specs.Proved.{Agrees, AllFit, Holds, IsProved, StandsBy, Tells}
use Rattle.cert_check.specs.Walk.{Item, basis_walk, each, first_stop, one, or_later, point_walk, outcome_walk, stop_by, walk}
use Rattle.cert_check.proofs.Decided.{Allowed}
use Rattle.cert_check.proofs.ItemLaws.{basic_cost-holds, basic_weight-holds, basis-holds, column-holds, endless_column-holds, endless_row-holds, gap-holds, objective-holds, price-holds, ray_column-holds, ray_cost-holds, ray_row-holds, reduced-holds, rest-holds, row-holds}

-- each item holds
abbrev pub AllHold : List Item → Type 0
AllHold items = AllByRecursion (λ item. item.sums.answer ≡ true) items

-- ── where a walk ends ──

settled-fits : {A : Type 0} (w : ℕ) (c : Worked A) (a : A) → settle w c ≡ Some a → list_all (fits_width w) c.values ≡ true
unfolding settle
settled-fits w c a e = by_test (list_all (fits_width w) c.values) refl
  where
    by_test : (t : Bool) → list_all (fits_width w) c.values ≡ t → t ≡ true
    by_test true h = refl
    by_test false h = let none : cond (list_all (fits_width w) c.values) (Some c.answer) None ≡ None = ap (λ t. cond t (Some c.answer) None) h in absurd (cc (none, e))

unsettled-fits : {A : Type 0} (w : ℕ) (c : Worked A) → settle w c ≡ None → list_all (fits_width w) c.values ≡ true → ⊥
unfolding settle
unsettled-fits w c e h = let some : cond (list_all (fits_width w) c.values) (Some c.answer) None ≡ Some c.answer = ap (λ t. cond t (Some c.answer) None) h in cc (some, e)

module _ (w : ℕ) where
  pub accepted : (items : List Item) → first_stop w items ≡ None → AllFit w items × AllHold items
  accepted [] e = (tt, tt)
  accepted (item ∷ items) e = by_sums (λ rest. accepted items rest) (settle w item.sums) refl
    where
      by_sums : (first_stop w items ≡ None → AllFit w items × AllHold items) → (o : Option Bool) → settle w item.sums ≡ o → AllFit w (item ∷ items) × AllHold (item ∷ items)
      by_sums further None h = let at = ap (λ o. or_later (stop_by item.rule o) (first_stop w items)) h in absurd (cc (at, e))
      by_sums further (Some true) h =
          let rest = further (sym (ap (λ o. or_later (stop_by item.rule o) (first_stop w items)) h) ∙ e) in
          ((settled-fits w item.sums true h, rest.0), (settle-answer w item.sums true h, rest.1))
      by_sums further (Some false) h = let at = ap (λ o. or_later (stop_by item.rule o) (first_stop w items)) h in absurd (cc (at, e))

  pub broken : (rule : Rule) (items : List Item) → first_stop w items ≡ Some (Broken rule) → ¬ AllHold items
  broken rule [] e = λ holds. absurd (cc e)
  broken rule (item ∷ items) e = by_sums (λ rest. broken rule items rest) (settle w item.sums) refl
    where
      by_sums : (first_stop w items ≡ Some (Broken rule) → ¬ AllHold items) → (o : Option Bool) → settle w item.sums ≡ o → ¬ AllHold (item ∷ items)
      by_sums further None h = λ holds. let at = ap (λ o. or_later (stop_by item.rule o) (first_stop w items)) h in absurd (cc (at, e))
      by_sums further (Some true) h = λ holds. further (sym (ap (λ o. or_later (stop_by item.rule o) (first_stop w items)) h) ∙ e) holds.1
      by_sums further (Some false) h = λ holds. let is = settle-answer w item.sums false h in let holds_here = holds.0 in absurd (cc (is, holds_here))

  pub overflows : (rule : Rule) (items : List Item) → first_stop w items ≡ Some (Unfit rule) → ¬ AllFit w items
  overflows rule [] e = λ fit. absurd (cc e)
  overflows rule (item ∷ items) e = by_sums (λ rest. overflows rule items rest) (settle w item.sums) refl
    where
      by_sums : (first_stop w items ≡ Some (Unfit rule) → ¬ AllFit w items) → (o : Option Bool) → settle w item.sums ≡ o → ¬ AllFit w (item ∷ items)
      by_sums further None h = λ fit. unsettled-fits w item.sums h fit.0
      by_sums further (Some true) h = λ fit. further (sym (ap (λ o. or_later (stop_by item.rule o) (first_stop w items)) h) ∙ e) fit.1
      by_sums further (Some false) h = λ fit. let at = ap (λ o. or_later (stop_by item.rule o) (first_stop w items)) h in absurd (cc (at, e))

-- ── items of a group, and groups ──

module _ (rule_of : ℕ → Rule) (sums_of : ℕ → Worked Bool) where
  abbrev item : ℕ → Item
  item k = record { rule = rule_of k; sums = sums_of k }

  range-all : (j n k : ℕ) → AllHold (map item (range_with_len j n)) → j ≤ k → k < j + n → (sums_of k).answer ≡ true
  range-all j zero k holds from to = absurd (omega arith)
  range-all j (suc n) k holds from to =
      ⊎_elim (λ (same : k ≡ j). ap (λ i. (sums_of i).answer) same ∙ holds.0) (λ (other : k ≡ j → ⊥). range-all (j + 1) n k holds.1 (omega arith) (omega arith)) (cases_eq k j)

  all-range : (j n : ℕ) → ((k : ℕ) → j ≤ k → k < j + n → (sums_of k).answer ≡ true) → AllHold (map item (range_with_len j n))
  all-range j zero all = tt
  all-range j (suc n) all = (all j (omega arith) (omega arith), all-range (j + 1) n (λ k from to. all k (omega arith) (omega arith)))

  module _ (P : ℕ → Type 0) (count : ℕ) (decides : (k : ℕ) → k < count → Decides (sums_of k).answer (P k)) where
    pub each-holds : AllHold (each rule_of sums_of count) → (k : ℕ) → k < count → P k
    each-holds holds k lt = (decides k lt).0 (range-all 0 count k holds (omega arith) (omega arith))

    pub holds-each : ((k : ℕ) → k < count → P k) → AllHold (each rule_of sums_of count)
    holds-each all = all-range 0 count (λ k from to. let lt : k < count = omega arith in (decides k lt).1 (all k lt))

pub first-holds : (xs ys : List Item) → AllHold (xs ++ ys) → AllHold xs × AllHold ys
first-holds [] ys holds = (tt, holds)
first-holds (x ∷ xs) ys holds = let rest = first-holds xs ys holds.1 in ((holds.0, rest.0), rest.1)

pub both-hold : (xs ys : List Item) → AllHold xs → AllHold ys → AllHold (xs ++ ys)
both-hold [] ys first second = second
both-hold (x ∷ xs) ys first second = (first.0, both-hold xs ys first.1 second)

-- ── outcomes ──

module _ (d : Deck) where
  -- a point
  module _ (x : List ℚ) (long : length x ≡ length d.columns) where
    pub point-feasible : AllHold (point_walk d x) → IsFeasible d x
    point-feasible holds =
        let parts = first-holds (each rule.Column (column_item d x) (length d.columns)) (each rule.Row (row_item d x) (length d.rows)) holds in
        record {
          one_each = long;
          columns_within = each-holds rule.Column (column_item d x) (λ j. Within (column d j).bounds (at x j)) (length d.columns) (λ j lt. column-holds d x j) parts.0;
          rows_within = each-holds rule.Row (row_item d x) (λ i. Within (activity_interval (row d i)) (activity d x i)) (length d.rows) (λ i lt. row-holds d x i) parts.1;
        }

    pub feasible-point : IsFeasible d x → AllHold (point_walk d x)
    feasible-point feasible =
        both-hold (each rule.Column (column_item d x) (length d.columns)) (each rule.Row (row_item d x) (length d.rows))
        (holds-each rule.Column (column_item d x) (λ j. Within (column d j).bounds (at x j)) (length d.columns) (λ j lt. column-holds d x j) feasible.columns_within)
        (holds-each rule.Row (row_item d x) (λ i. Within (activity_interval (row d i)) (activity d x i)) (length d.rows) (λ i lt. row-holds d x i) feasible.rows_within)

  module _ (is_deck : IsDeck d) where
    -- an optimum
    module _ (x y : List ℚ) (stated : ℚ) (long : length x ≡ length d.columns) (high : length y ≡ length d.rows) where
      abbrev Reduced : ℕ → Type 0
      Reduced j = Allowed (in_sense d.sense (reduced_cost d y j)) ((column d j).bounds.lower ≡ Some (at x j)) ((column d j).bounds.upper ≡ Some (at x j))

      abbrev Priced : ℕ → Type 0
      Priced i = Allowed (in_sense d.sense (at y i)) ((activity_interval (row d i)).lower ≡ Some (activity d x i)) ((activity_interval (row d i)).upper ≡ Some (activity d x i))

      abbrev objective_part : List Item
      objective_part = one rule.Objective (objective_item d x stated)

      abbrev reduced_part : List Item
      reduced_part = each rule.Reduced (reduced_item d x y) (length d.columns)

      abbrev price_part : List Item
      price_part = each rule.Price (price_item d x y) (length d.rows)

      pub optimum-proved : AllHold (outcome_walk d (optimal x y stated)) → IsProved d (optimal x y stated)
      optimum-proved holds =
          let third = first-holds (point_walk d x ++ objective_part ++ reduced_part) price_part holds in
          let second = first-holds (point_walk d x ++ objective_part) reduced_part third.0 in
          let first = first-holds (point_walk d x) objective_part second.0 in
          let reduced = each-holds rule.Reduced (reduced_item d x y) Reduced (length d.columns) (λ j lt. reduced-holds d x y is_deck j lt) second.1 in
          let priced = each-holds rule.Price (price_item d x y) Priced (length d.rows) (λ i lt. price-holds d x y i) third.1 in (
            record {
              feasible = point-feasible x long first.0;
              one_each = high;
              above = λ j lt. (reduced j lt).above;
              below = λ j lt. (reduced j lt).below;
              price_above = λ i lt. (priced i lt).above;
              price_below = λ i lt. (priced i lt).below;
            },
            (objective-holds d x stated).0 first.1.0,
          )

      pub proved-optimum : IsProved d (optimal x y stated) → AllHold (outcome_walk d (optimal x y stated))
      proved-optimum (proves, same) =
          both-hold (point_walk d x ++ objective_part ++ reduced_part) price_part
          (both-hold (point_walk d x ++ objective_part) reduced_part
          (both-hold (point_walk d x) objective_part (feasible-point x long proves.feasible) ((objective-holds d x stated).1 same, tt))
          (holds-each rule.Reduced (reduced_item d x y) Reduced (length d.columns) (λ j lt. reduced-holds d x y is_deck j lt)
          (λ j lt. record { above = proves.above j lt; below = proves.below j lt })))
          (holds-each rule.Price (price_item d x y) Priced (length d.rows) (λ i lt. price-holds d x y i) (λ i lt. record { above = proves.price_above i lt; below = proves.price_below i lt }))

    -- a Farkas row
    module _ (y : List ℚ) (high : length y ≡ length d.rows) where
      abbrev column_part : List Item
      column_part = each rule.EndlessColumn (endless_column_item d y) (length d.columns)

      abbrev row_part : List Item
      row_part = each rule.EndlessRow (endless_row_item d y) (length d.rows)

      abbrev gap_part : List Item
      gap_part = one rule.Gap (gap_item d y)

      pub farkas-proved : AllHold (outcome_walk d (infeasible y)) → Farkas d y
      farkas-proved holds =
          let second = first-holds (column_part ++ row_part) gap_part holds in
          let first = first-holds column_part row_part second.0 in
          record {
            one_each = high;
            columns_finite = each-holds rule.EndlessColumn (endless_column_item d y) (λ j. IsSome (column_greatest d y j)) (length d.columns) (λ j lt. endless_column-holds d y is_deck j lt) first.0;
            logicals_finite = each-holds rule.EndlessRow (endless_row_item d y) (λ i. IsSome (logical_greatest d y i)) (length d.rows) (λ i lt. endless_row-holds d y is_deck i) first.1;
            gap = (gap-holds d y is_deck).0 second.1.0;
          }

      pub proved-farkas : Farkas d y → AllHold (outcome_walk d (infeasible y))
      proved-farkas farkas =
          both-hold (column_part ++ row_part) gap_part
          (both-hold column_part row_part
          (holds-each rule.EndlessColumn (endless_column_item d y) (λ j. IsSome (column_greatest d y j)) (length d.columns) (λ j lt. endless_column-holds d y is_deck j lt) farkas.columns_finite)
          (holds-each rule.EndlessRow (endless_row_item d y) (λ i. IsSome (logical_greatest d y i)) (length d.rows) (λ i lt. endless_row-holds d y is_deck i) farkas.logicals_finite))
          ((gap-holds d y is_deck).1 farkas.gap, tt)

    -- a ray
    module _ (x r : List ℚ) (long : length x ≡ length d.columns) (along : length r ≡ length d.columns) where
      abbrev OpenColumn : ℕ → Type 0
      OpenColumn j = Allowed (at r j) ((column d j).bounds.upper ≡ None) ((column d j).bounds.lower ≡ None)

      abbrev OpenRow : ℕ → Type 0
      OpenRow i = Allowed (activity d r i) ((activity_interval (row d i)).upper ≡ None) ((activity_interval (row d i)).lower ≡ None)

      abbrev ray_columns : List Item
      ray_columns = each rule.RayColumn (ray_column_item d r) (length d.columns)

      abbrev ray_rows : List Item
      ray_rows = each rule.RayRow (ray_row_item d r) (length d.rows)

      abbrev cost_part : List Item
      cost_part = one rule.RayCost (ray_cost_item d r)

      pub ray-proved : AllHold (outcome_walk d (unbounded x r)) → Ray d x r
      ray-proved holds =
          let third = first-holds (point_walk d x ++ ray_columns ++ ray_rows) cost_part holds in
          let second = first-holds (point_walk d x ++ ray_columns) ray_rows third.0 in
          let first = first-holds (point_walk d x) ray_columns second.0 in
          let columns = each-holds rule.RayColumn (ray_column_item d r) OpenColumn (length d.columns) (λ j lt. ray_column-holds d r j) first.1 in
          let rows = each-holds rule.RayRow (ray_row_item d r) OpenRow (length d.rows) (λ i lt. ray_row-holds d r i) second.1 in
          record {
            feasible = point-feasible x long first.0;
            one_each = along;
            column_rises = λ j lt. (columns j lt).above;
            column_falls = λ j lt. (columns j lt).below;
            row_rises = λ i lt. (rows i lt).above;
            row_falls = λ i lt. (rows i lt).below;
            cost_falls = (ray_cost-holds d r).0 third.1.0;
          }

      pub proved-ray : Ray d x r → AllHold (outcome_walk d (unbounded x r))
      proved-ray ray =
          both-hold (point_walk d x ++ ray_columns ++ ray_rows) cost_part
          (both-hold (point_walk d x ++ ray_columns) ray_rows
          (both-hold (point_walk d x) ray_columns (feasible-point x long ray.feasible)
          (holds-each rule.RayColumn (ray_column_item d r) OpenColumn (length d.columns) (λ j lt. ray_column-holds d r j)
          (λ j lt. record { above = ray.column_rises j lt; below = ray.column_falls j lt })))
          (holds-each rule.RayRow (ray_row_item d r) OpenRow (length d.rows) (λ i lt. ray_row-holds d r i) (λ i lt. record { above = ray.row_rises i lt; below = ray.row_falls i lt })))
          ((ray_cost-holds d r).1 ray.cost_falls, tt)

    -- each item holds exactly where the outcome is proved
    pub holds-proved : (o : Outcome) → HasLengthsOf d o → AllHold (outcome_walk d o) → IsProved d o
    holds-proved (optimal x y stated) long = optimum-proved x y stated long.0 long.1
    holds-proved (infeasible y) long = farkas-proved y long
    holds-proved (unbounded x r) long = ray-proved x r long.0 long.1

    pub proved-holds : (o : Outcome) → HasLengthsOf d o → IsProved d o → AllHold (outcome_walk d o)
    proved-holds (optimal x y stated) long = proved-optimum x y stated long.0 long.1
    proved-holds (infeasible y) long = proved-farkas y long
    proved-holds (unbounded x r) long = proved-ray x r long.0 long.1

    -- and those of a basis exactly where it agrees
    module _ (b : Basis) where
      abbrev basis_part : List Item
      basis_part = one rule.Basis (basis_item b)

      module _ (x : List ℚ) where
        abbrev rest_part : List Item
        rest_part = each rule.Rest (rest_item d b x) (length d.columns)

        stands-rest : AllHold rest_part → StandsBy d b x
        stands-rest holds = each-holds rule.Rest (rest_item d b x) (λ j. is_among j b.basic ≡ false
            → is_at_rest (column d j).bounds (is_among j b.upper) (at x j) ≡ true) (length d.columns) (λ j lt. rest-holds d b x j) holds

        rest-stands : StandsBy d b x → AllHold rest_part
        rest-stands stands = holds-each rule.Rest (rest_item d b x) (λ j. is_among j b.basic ≡ false
            → is_at_rest (column d j).bounds (is_among j b.upper) (at x j) ≡ true) (length d.columns) (λ j lt. rest-holds d b x j) stands

      module _ (y : List ℚ) where
        abbrev cost_basics : List Item
        cost_basics = each rule.Basic (basic_cost_item d b y) (length d.columns)

        abbrev weight_basics : List Item
        weight_basics = each rule.Basic (basic_weight_item d b y) (length d.columns)

        abbrev CostZero : ℕ → Type 0
        CostZero j = is_among j b.basic ≡ true → reduced_cost d y j ≡ zero_ℚ

        abbrev WeightZero : ℕ → Type 0
        WeightZero j = is_among j b.basic ≡ true → weighted_column d y j ≡ zero_ℚ

      pub agrees : (o : Outcome) → AllHold (basis_walk d o b) → Agrees d o b
      agrees (optimal x y stated) holds =
          let second = first-holds (basis_part ++ rest_part x) (cost_basics y) holds in
          let first = first-holds basis_part (rest_part x) second.0 in
          ((basis-holds b).0 first.0.0, stands-rest x first.1, each-holds rule.Basic (basic_cost_item d b y) (CostZero y) (length d.columns) (λ j lt. basic_cost-holds d b y is_deck j lt) second.1)
      agrees (infeasible y) holds =
          let first = first-holds basis_part (weight_basics y) holds in
          ((basis-holds b).0 first.0.0, each-holds rule.Basic (basic_weight_item d b y) (WeightZero y) (length d.columns) (λ j lt. basic_weight-holds d b y is_deck j lt) first.1)
      agrees (unbounded x r) holds =
          let first = first-holds basis_part (rest_part x) holds in
          ((basis-holds b).0 first.0.0, stands-rest x first.1)

      pub agreeing : (o : Outcome) → Agrees d o b → AllHold (basis_walk d o b)
      agreeing (optimal x y stated) (sound, stands, cost_nothing) =
          both-hold (basis_part ++ rest_part x) (cost_basics y) (both-hold basis_part (rest_part x) ((basis-holds b).1 sound, tt) (rest-stands x stands))
          (holds-each rule.Basic (basic_cost_item d b y) (CostZero y) (length d.columns) (λ j lt. basic_cost-holds d b y is_deck j lt) cost_nothing)
      agreeing (infeasible y) (sound, cost_nothing) =
          both-hold basis_part (weight_basics y) ((basis-holds b).1 sound, tt)
          (holds-each rule.Basic (basic_weight_item d b y) (WeightZero y) (length d.columns) (λ j lt. basic_weight-holds d b y is_deck j lt) cost_nothing)
      agreeing (unbounded x r) (sound, stands) = both-hold basis_part (rest_part x) ((basis-holds b).1 sound, tt) (rest-stands x stands)

    pub holds-all : (o : Outcome) (b : Option Basis) → HasLengthsOf d o → AllHold (walk d o b) → Holds d o b
    holds-all o None long holds = holds-proved o long holds
    holds-all o (Some b) long holds = let parts = first-holds (outcome_walk d o) (basis_walk d o b) holds in (holds-proved o long parts.0, agrees b o parts.1)

    pub all-holds : (o : Outcome) (b : Option Basis) → HasLengthsOf d o → Holds d o b → AllHold (walk d o b)
    all-holds o None long holds = proved-holds o long holds
    all-holds o (Some b) long (proved, agrees) = both-hold (outcome_walk d o) (basis_walk d o b) (proved-holds o long proved) (agreeing b o agrees)

    -- what an answer tells
    pub tells : (w : ℕ) (o : Outcome) (b : Option Basis) → HasLengthsOf d o → (r : Result Verdict CheckFault) → Judges w (walk d o b) r → Tells w d o b r
    tells w o b long (Ok Yes) e = let ends = accepted w (walk d o b) e in (holds-all o b long ends.1, ends.0)
    tells w o b long (Ok (No rule)) e = λ holds. broken w rule (walk d o b) e (all-holds o b long holds)
    tells w o b long (Err (Overflow rule)) e = overflows w rule (walk d o b) e
    tells w o b long (Err Memory) e = tt
