-- The sums that the checker works, as calculations: the worked values in order, and the answer. A product of a zero factor is skipped.
use Rattle.std.specs.Prelude.{ℕ, List, [], ◌∷◌, ◌++◌, map, length, Option, Some, None, if◌then◌else◌}
use Rattle.std.specs.List.{list_all}
use Rattle.std.specs.Option.{unwrap_or}
use Rattle.std.specs.declared.cmp.Ordering.TheVariants.{Less, Equal, Greater}
use Rattle.lp_model.specs.declared.RowKind.{RowKind}
use Rattle.lp_model.specs.declared.RowKind.TheVariants.{L, G, E}
use Rattle.lp_model.specs.Deck.{Deck, Interval, Row, activity_interval_of, column, entry, logical_bounds, row}
use Rattle.rational.specs.Lines.{gather}
use Rattle.rational.specs.Rational.{ℚ, zero_ℚ, ◌+ℚ◌, ◌-ℚ◌, ◌*ℚ◌, abs_ℚ, cmp_ℚ, eq_ℚ}
use Rattle.rational.specs.Sparse.{upto}
use Rattle.rational.specs.Sum.{at}
use Rattle.rational.specs.Worked.{Worked, bind, done, is_skipped, more, work}

-- ── sums of products ──

-- products added to a number, one after another
abbrev pub added : ℚ → List (ℚ × ℚ) → Worked ℚ
added s [] = done s
added s ((a, b) ∷ terms) = bind (more s a b) (λ next. added next terms)

-- a sum from a number on; where none of its products is worked, the number itself has to fit
abbrev pub from_start : ℚ → List (ℚ × ℚ) → Worked ℚ → Worked ℚ
from_start start terms sum = if list_all (λ term. is_skipped term.0 term.1) terms then work start else sum

-- the entries of row i with the items of v, by rising columns
abbrev pub activity_terms : Deck → List ℚ → ℕ → List (ℚ × ℚ)
activity_terms d v i = map (λ j. (entry d i j, at v j)) (upto (length d.columns))

-- the costs with the items of v
abbrev pub cost_terms : Deck → List ℚ → List (ℚ × ℚ)
cost_terms d v = map (λ j. ((column d j).cost, at v j)) (upto (length d.columns))

-- the right sides with the items of y
abbrev pub right_terms : Deck → List ℚ → List (ℚ × ℚ)
right_terms d y = map (λ i. ((row d i).right, at y i)) (upto (length d.rows))

-- entries of a column with the items of y in their rows, by rising rows
abbrev pub entry_terms : List ℚ → List (ℕ × ℚ) → List (ℚ × ℚ)
entry_terms y entries = map (λ pair. (pair.1, at y pair.0)) entries

-- the activity of row i
abbrev pub activity_sum : Deck → List ℚ → ℕ → Worked ℚ
activity_sum d v i = added zero_ℚ (activity_terms d v i)

-- the objective at x, from the constant
abbrev pub objective_sum : Deck → List ℚ → Worked ℚ
objective_sum d x = from_start d.constant (cost_terms d x) (added d.constant (cost_terms d x))

-- the cost of a ray, from 0
abbrev pub cost_sum : Deck → List ℚ → Worked ℚ
cost_sum d r = added zero_ℚ (cost_terms d r)

-- y times the right sides
abbrev pub right_sum : Deck → List ℚ → Worked ℚ
right_sum d y = added zero_ℚ (right_terms d y)

-- y times column j
abbrev pub weighted_sum : Deck → List ℚ → ℕ → Worked ℚ
weighted_sum d y j = added zero_ℚ (entry_terms y (column d j).entries)

-- the reduced cost of column j: its cost less the products of its entries with y
abbrev pub reduced_sum : Deck → List ℚ → ℕ → Worked ℚ
reduced_sum d y j =
    from_start (column d j).cost (entry_terms y (column d j).entries) (gather (length d.rows) y (column d j).cost (column d j).entries)

-- ── ends of intervals ──

-- the end of a row's interval that its range gives, by the right side
abbrev pub range_ends : RowKind → ℚ → Option ℚ → List ℚ
range_ends k b None = []
range_ends L b (Some r) = (b -ℚ abs_ℚ r) ∷ []
range_ends G b (Some r) = (b +ℚ abs_ℚ r) ∷ []
range_ends E b (Some r) = elim (cmp_ℚ r zero_ℚ) [ Less ↦ (b -ℚ abs_ℚ r) ∷ [] | Equal ↦ [] | Greater ↦ (b +ℚ r) ∷ [] ]

-- the interval of an activity, of which the end is worked that a range gives
abbrev pub interval_of : RowKind → ℚ → Option ℚ → Worked Interval
interval_of kind b range = record { values = range_ends kind b range; answer = activity_interval_of kind b range }

abbrev pub interval_sum : Row → Worked Interval
interval_sum r = interval_of r.kind r.right r.range

-- ── the greatest values of a row combination ──

abbrev pub product : ℚ → ℚ → Worked ℚ
product a b = if is_skipped a b then done zero_ℚ else work (a *ℚ b)

-- the greatest value of c · t for t in an interval, where it is finite
abbrev pub greatest_sum : ℚ → Interval → Worked (Option ℚ)
greatest_sum c i = elim (cmp_ℚ c zero_ℚ) [ Less ↦ scaled i.lower | Equal ↦ done (Some zero_ℚ) | Greater ↦ scaled i.upper ]
  where
    scaled : Option ℚ → Worked (Option ℚ)
    scaled None = done None
    scaled (Some v) = bind (product c v) (λ p. done (Some p))

-- the greatest contribution of column j, and of the logical of row i, to y times the activities
abbrev pub column_part : Deck → List ℚ → ℕ → Worked (Option ℚ)
column_part d y j = bind (weighted_sum d y j) (λ c. greatest_sum c (column d j).bounds)

abbrev pub logical_part : Deck → List ℚ → ℕ → Worked (Option ℚ)
logical_part d y i = greatest_sum (at y i) (logical_bounds (row d i))

-- a number added, unless it is 0
abbrev pub plus : ℚ → ℚ → Worked ℚ
plus s a = if eq_ℚ a zero_ℚ then done s else work (s +ℚ a)

-- greatest values added to a number, one after another
abbrev pub parts_sum : ℚ → List (Worked (Option ℚ)) → Worked ℚ
parts_sum s [] = done s
parts_sum s (part ∷ parts) = bind (bind part (λ g. plus s (unwrap_or g zero_ℚ))) (λ next. parts_sum next parts)

-- the greatest values of all columns, and then of all logicals
abbrev pub all_parts : Deck → List ℚ → List (Worked (Option ℚ))
all_parts d y = map (column_part d y) (upto (length d.columns)) ++ map (logical_part d y) (upto (length d.rows))
