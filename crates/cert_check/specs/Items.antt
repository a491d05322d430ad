-- What each item of the checker's walk works, and what must hold there.
use Rattle.std.specs.Prelude.{ℕ, List, [], ◌∷◌, Option, Some, None, Bool, true, false, ◌&&◌, ◌||◌, ◌==◌, not, is_some, if◌then◌else◌}
use Rattle.std.specs.List.{list_all, list_any}
use Rattle.std.specs.Option.{is_none}
use Rattle.std.specs.declared.cmp.Ordering.TheVariants.{Less, Equal, Greater}
use Rattle.lp_model.specs.Basis.{Basis}
use Rattle.lp_model.specs.Deck.{Deck, Interval, activity_interval, column, in_sense, row}
use Rattle.rational.specs.Rational.{ℚ, zero_ℚ, cmp_ℚ, eq_ℚ, le_ℚ, lt_ℚ}
use Rattle.rational.specs.Sum.{at}
use Rattle.rational.specs.Worked.{Worked, bind, done, work}
use Rattle.cert_check.specs.Sums.{activity_sum, all_parts, column_part, cost_sum, interval_sum, logical_part, objective_sum, parts_sum, reduced_sum, right_sum, weighted_sum}

-- ── tests ──

-- a number is within an interval
abbrev pub is_not_below : Option ℚ → ℚ → Bool
is_not_below None x = true
is_not_below (Some l) x = le_ℚ l x

abbrev pub is_not_above : Option ℚ → ℚ → Bool
is_not_above None x = true
is_not_above (Some u) x = le_ℚ x u

abbrev pub is_within : Interval → ℚ → Bool
is_within i x = is_not_below i.lower x && is_not_above i.upper x

-- a number is at a finite end
abbrev pub is_at_end : Option ℚ → ℚ → Bool
is_at_end None x = false
is_at_end (Some e) x = eq_ℚ e x

-- a number is above 0 only where the first test holds, and below 0 only where the second does
abbrev pub allows : ℚ → Bool → Bool → Bool
allows c above below = elim (cmp_ℚ c zero_ℚ) [ Less ↦ below | Equal ↦ true | Greater ↦ above ]

-- ── a point ──

-- column j: its value fits, and lies within its bounds
abbrev pub column_item : Deck → List ℚ → ℕ → Worked Bool
column_item d x j = bind (work (at x j)) (λ v. done (is_within (column d j).bounds v))

-- row i: its activity lies within its interval
abbrev pub row_item : Deck → List ℚ → ℕ → Worked Bool
row_item d x i = bind (activity_sum d x i) (λ a. bind (interval_sum (row d i)) (λ ends. done (is_within ends a)))

-- ── an optimum ──

-- the stated objective is that of the point
abbrev pub objective_item : Deck → List ℚ → ℚ → Worked Bool
objective_item d x stated = bind (objective_sum d x) (λ z. done (eq_ℚ z stated))

-- column j: its reduced cost, as the sense counts, is above 0 only at its lower end, and below 0 only at its upper end
abbrev pub reduced_item : Deck → List ℚ → List ℚ → ℕ → Worked Bool
reduced_item d x y j =
    bind (reduced_sum d y j)
    (λ c. done (allows (in_sense d.sense c) (is_at_end (column d j).bounds.lower (at x j)) (is_at_end (column d j).bounds.upper (at x j))))

-- row i: its price, as the sense counts, is above 0 only where the activity is the interval's lower end, and below 0 only where it is the upper end
abbrev pub price_item : Deck → List ℚ → List ℚ → ℕ → Worked Bool
price_item d x y i =
    bind (activity_sum d x i)
    (λ a. bind (interval_sum (row d i)) (λ ends. done (allows (in_sense d.sense (at y i)) (is_at_end ends.lower a) (is_at_end ends.upper a))))

-- ── a Farkas row ──

-- column j, and the logical of row i: the greatest contribution is finite
abbrev pub endless_column_item : Deck → List ℚ → ℕ → Worked Bool
endless_column_item d y j = bind (column_part d y j) (λ g. done (is_some g))

abbrev pub endless_row_item : Deck → List ℚ → ℕ → Worked Bool
endless_row_item d y i = bind (logical_part d y i) (λ g. done (is_some g))

-- all greatest contributions together are less than y times the right sides
abbrev pub gap_item : Deck → List ℚ → Worked Bool
gap_item d y = bind (parts_sum zero_ℚ (all_parts d y)) (λ most. bind (right_sum d y) (λ right. done (lt_ℚ most right)))

-- ── a ray ──

-- column j: its item fits, and is above 0 only without an upper end, and below 0 only without a lower end
abbrev pub ray_column_item : Deck → List ℚ → ℕ → Worked Bool
ray_column_item d r j = bind (work (at r j)) (λ v. done (allows v (is_none (column d j).bounds.upper) (is_none (column d j).bounds.lower)))

-- row i: the activity of the ray is above 0 only without an upper end of the interval, and below 0 only without a lower one
abbrev pub ray_row_item : Deck → List ℚ → ℕ → Worked Bool
ray_row_item d r i =
    bind (activity_sum d r i) (λ a. done (allows a (is_none (activity_interval (row d i)).upper) (is_none (activity_interval (row d i)).lower)))

-- the cost of the ray gets better, as the sense counts
abbrev pub ray_cost_item : Deck → List ℚ → Worked Bool
ray_cost_item d r = bind (cost_sum d r) (λ c. done (lt_ℚ (in_sense d.sense c) zero_ℚ))

-- ── a basis ──

abbrev pub is_among : ℕ → List ℕ → Bool
is_among j list = list_any (λ k. k == j) list

-- no number stands twice in a list
abbrev pub is_distinct : List ℕ → Bool
is_distinct [] = true
is_distinct (j ∷ list) = not (is_among j list) && is_distinct list

-- no column stands in two positions, and none that is told at its upper end is basic
abbrev pub is_basis : Basis → Bool
is_basis b = is_distinct b.basic && list_all (λ j. not (is_among j b.basic)) b.upper

abbrev pub basis_item : Basis → Worked Bool
basis_item b = done (is_basis b)

-- a number is at a lower end where that is finite, and else 0
abbrev pub is_at_lower : Option ℚ → ℚ → Bool
is_at_lower None v = eq_ℚ zero_ℚ v
is_at_lower (Some l) v = eq_ℚ l v

-- a number is at the upper end of its bounds where it is told there; there is none where that is infinite
abbrev pub is_at_rest : Interval → Bool → ℚ → Bool
is_at_rest bounds told v = if told then is_at_end bounds.upper v else is_at_lower bounds.lower v

-- column j: it is basic, or its value is where it is told to stand
abbrev pub rest_item : Deck → Basis → List ℚ → ℕ → Worked Bool
rest_item d b x j = done (is_among j b.basic || is_at_rest (column d j).bounds (is_among j b.upper) (at x j))

-- a sum is 0 where it is asked for
abbrev pub zero_where : Bool → Worked ℚ → Worked Bool
zero_where asked sum = if asked then bind sum (λ c. done (eq_ℚ c zero_ℚ)) else done true

-- column j: where it is basic, its reduced cost is 0 at an optimum, and its combination 0 by a Farkas row
abbrev pub basic_cost_item : Deck → Basis → List ℚ → ℕ → Worked Bool
basic_cost_item d b y j = zero_where (is_among j b.basic) (reduced_sum d y j)

abbrev pub basic_weight_item : Deck → Basis → List ℚ → ℕ → Worked Bool
basic_weight_item d b y j = zero_where (is_among j b.basic) (weighted_sum d y j)
