-- Groups of items, as the code walks them: one item for each column, or for each row.
use Rattle.std.specs.Prelude.{◌≡◌, ℕ, ◌-◌, ◌^◌, ◌<◌, ◌≤◌, List, [], ◌∷◌, ◌++◌, map, length, get_or, ◌||◌, Option, Some, None, Bool, true, false, Result, Ok, Err, MatchResult}
use Rattle.std.specs.List.{range_with_len}
use Rattle.std.specs.Option.{unwrap_or}
use Rattle.exact_frac.specs.declared.unfit.Unfit.{Unfit as Refusal}
use Rattle.exact_frac.specs.Count.{raised}
use Rattle.lp_model.specs.Deck.{Deck, Interval, Row, between, column}
use Rattle.lp_model.specs.Outcome.{Outcome, optimal, infeasible, unbounded}
use Rattle.rational.specs.Rational.{ℚ, zero_ℚ, ◌+ℚ◌, ◌-ℚ◌, lt_ℚ}
use Rattle.rational.specs.Sum.{at}
use Rattle.rational.specs.Worked.{Worked, bind, done, settle}
use Rattle.cert_check.specs.declared.verdict.Rule.{Rule}
use Rattle.cert_check.specs.declared.verdict.Rule.TheVariants as rule
use Rattle.cert_check.specs.declared.verdict.Stop.{Stop}
use Rattle.cert_check.specs.declared.verdict.Stop.TheVariants.{Broken, Unfit}
use Rattle.cert_check.specs.declared.verdict.Verdict.{Verdict}
use Rattle.cert_check.specs.declared.verdict.Verdict.TheVariants.{Yes, No}
use Rattle.cert_check.specs.declared.verdict.CheckFault.{CheckFault}
use Rattle.cert_check.specs.declared.verdict.CheckFault.TheVariants.{Overflow}
use Rattle.cert_check.specs.declared.bases.Priced.{Priced}
use Rattle.cert_check.specs.declared.bases.Priced.TheVariants.{ByCost, ByWeight}
use Rattle.cert_check.specs.declared.groups.Claim.{Claim}
use Rattle.cert_check.specs.declared.groups.Group.{Group}
use Rattle.cert_check.specs.declared.groups.Group.TheVariants.{Columns, EndlessColumns, EndlessRows, Prices, RayColumns, RayRows, Reduced, Rows}
use Rattle.cert_check.specs.Items.{allows, column_item, endless_column_item, endless_row_item, is_among, is_at_end, is_at_rest, is_within, price_item, ray_column_item, ray_row_item, reduced_item, row_item, zero_where}
use Rattle.cert_check.specs.Sums.{activity_sum, interval_sum, plus, product, reduced_sum, right_sum, weighted_sum}
use Rattle.cert_check.specs.Walk.{Item, each, first_stop}

-- ── the parts of a row's interval ──

-- the interval from so far below a number up to it, and from it to so far above, its other end being worked
abbrev pub span_below : ℚ → ℚ → Worked Interval
span_below b r = record { values = (b -ℚ r) ∷ []; answer = between (b -ℚ r) b }

abbrev pub span_above : ℚ → ℚ → Worked Interval
span_above b r = record { values = (b +ℚ r) ∷ []; answer = between b (b +ℚ r) }

-- an activity lies within a row's interval, and a price, as the sense counts it, is allowed by an activity
abbrev pub within_interval : Row → ℚ → Worked Bool
within_interval r a = bind (interval_sum r) (λ ends. done (is_within ends a))

abbrev pub priced_by : Row → ℚ → ℚ → Worked Bool
priced_by r price a = bind (interval_sum r) (λ ends. done (allows price (is_at_end ends.lower a) (is_at_end ends.upper a)))

-- y times the right sides is greater than a number
abbrev pub exceeded : Deck → List ℚ → ℚ → Worked Bool
exceeded d y most = bind (right_sum d y) (λ right. done (lt_ℚ most right))

-- ── the parts of a row combination ──

-- c times an end, where it is finite
abbrev pub scaled : ℚ → Option ℚ → Worked (Option ℚ)
scaled c None = done None
scaled c (Some v) = bind (product c v) (λ p. done (Some p))

-- a sum with a greatest value
abbrev pub with_part : ℚ → Worked (Option ℚ) → Worked ℚ
with_part s part = bind part (λ g. plus s (unwrap_or g zero_ℚ))

-- ── groups ──

-- the rule of a group's item
abbrev pub rule_of : Group → ℕ → Rule
rule_of Columns k = rule.Column k
rule_of Rows k = rule.Row k
rule_of Reduced k = rule.Reduced k
rule_of Prices k = rule.Price k
rule_of EndlessColumns k = rule.EndlessColumn k
rule_of EndlessRows k = rule.EndlessRow k
rule_of RayColumns k = rule.RayColumn k
rule_of RayRows k = rule.RayRow k

-- what is worked there; x is the point or the ray, y has the prices or the row combination
abbrev pub sums_of : Group → Deck → List ℚ → List ℚ → ℕ → Worked Bool
sums_of Columns d x y k = column_item d x k
sums_of Rows d x y k = row_item d x k
sums_of Reduced d x y k = reduced_item d x y k
sums_of Prices d x y k = price_item d x y k
sums_of EndlessColumns d x y k = endless_column_item d y k
sums_of EndlessRows d x y k = endless_row_item d y k
sums_of RayColumns d x y k = ray_column_item d x k
sums_of RayRows d x y k = ray_row_item d x k

abbrev pub item_of : Group → Deck → List ℚ → List ℚ → ℕ → Item
item_of g d x y k = record { rule = rule_of g k; sums = sums_of g d x y k }

-- how many items a group has
abbrev pub count_of : Group → Deck → ℕ
count_of Columns d = length d.columns
count_of Rows d = length d.rows
count_of Reduced d = length d.columns
count_of Prices d = length d.rows
count_of EndlessColumns d = length d.columns
count_of EndlessRows d = length d.rows
count_of RayColumns d = length d.columns
count_of RayRows d = length d.rows

-- so many items of a group, from one on
abbrev pub items_of : Group → Deck → List ℚ → List ℚ → ℕ → ℕ → List Item
items_of g d x y from count = map (item_of g d x y) (range_with_len from count)

-- the lists that a group reads are as long as the deck asks
abbrev pub AreGiven : Group → Deck → List ℚ → List ℚ → Type 0
AreGiven Columns d x y = length x ≡ length d.columns
AreGiven Rows d x y = length x ≡ length d.columns
AreGiven Reduced d x y = (length x ≡ length d.columns) × (length y ≡ length d.rows)
AreGiven Prices d x y = (length x ≡ length d.columns) × (length y ≡ length d.rows)
AreGiven EndlessColumns d x y = length y ≡ length d.rows
AreGiven EndlessRows d x y = length y ≡ length d.rows
AreGiven RayColumns d x y = length x ≡ length d.columns
AreGiven RayRows d x y = length x ≡ length d.columns

-- activities that are worked ahead: those of the first rows, each of which settles at the width
abbrev pub IsAhead : ℕ → Deck → List ℚ → List ℚ → Type 0
IsAhead w d v sums = (i : ℕ) → i < length sums → settle w (activity_sum d v i) ≡ Some (at sums i)

-- ── what a walk over some items answers ──

abbrev pub FirstIs : Option Stop → Result (Unit {0}) Stop → Type 0
FirstIs first result = MatchResult result (λ _. first ≡ None) (λ stop. first ≡ Some stop)

-- what an item says of its rule, whose sums settle so
abbrev pub stopped : Rule → Result Bool Refusal → Result (Unit {0}) Stop
stopped rule (Ok true) = Ok tt
stopped rule (Ok false) = Err (Broken rule)
stopped rule (Err _) = Err (Unfit rule)

-- the count of unfit results after it
abbrev pub unfit_by : ℕ → Result (Unit {0}) Stop → ℕ
unfit_by count (Ok _) = count
unfit_by count (Err (Broken _)) = count
unfit_by count (Err (Unfit _)) = raised count 1

-- the items of a claim from one number up to another
abbrev pub claimed : Claim → ℕ → ℕ → List Item
claimed claim from to = items_of claim.group claim.deck.now claim.x.now claim.y.now from (to - from)

-- they can be looked at
pub record CanLook (w : ℕ) (claim : Claim) (from to : ℕ) : Type 0 where
  pub ordered : from ≤ to
  pub within : to ≤ count_of claim.group claim.deck.now
  pub few : to < 2 ^ 32
  pub given : AreGiven claim.group claim.deck.now claim.x.now claim.y.now
  pub ahead : IsAhead w claim.deck.now claim.x.now claim.ahead.now

-- they are looked at one after another, with the width and the count of unfit results of an arithmetic before and after
pub record Looks (w w' unfit unfit' : ℕ) (claim : Claim) (from to : ℕ) (result : Result (Unit {0}) Stop) : Type 0 where
  pub first : FirstIs (first_stop w (claimed claim from to)) result
  pub width : w' ≡ w
  pub unfits : unfit' ≡ unfit_by unfit result

-- what is answered where a walk ends so
abbrev pub verdict_of : Result (Unit {0}) Stop → Result Verdict CheckFault
verdict_of (Ok _) = Ok Yes
verdict_of (Err (Broken rule)) = Ok (No rule)
verdict_of (Err (Unfit rule)) = Err (Overflow rule)

-- ── a basis ──

-- whether a column is marked
abbrev pub is_marked : List Bool → ℕ → Bool
is_marked marks j = get_or marks j false

-- the marks are those of a list, among so many columns
pub record Marks (count : ℕ) (list : List ℕ) (marks : List Bool) : Type 0 where
  pub long : length marks ≡ count
  pub each : (j : ℕ) → j < count → is_marked marks j ≡ is_among j list

-- the items of a basis by its marks
abbrev pub rest_by : Deck → List Bool → List Bool → List ℚ → ℕ → Worked Bool
rest_by d basic upper x j = done (is_marked basic j || is_at_rest (column d j).bounds (is_marked upper j) (at x j))

abbrev pub sum_by : Priced → Deck → List ℚ → ℕ → Worked ℚ
sum_by ByCost d y j = reduced_sum d y j
sum_by ByWeight d y j = weighted_sum d y j

abbrev pub basic_by : Priced → Deck → List Bool → List ℚ → ℕ → Worked Bool
basic_by priced d basic y j = zero_where (is_marked basic j) (sum_by priced d y j)

-- the walk over them, once the basis itself holds
abbrev pub marked_walk : Deck → Outcome → List Bool → List Bool → List Item
marked_walk d (optimal x y stated) basic upper = each rule.Rest (rest_by d basic upper x) (length d.columns) ++ each rule.Basic (basic_by ByCost d basic y) (length d.columns)
marked_walk d (infeasible y) basic upper = each rule.Basic (basic_by ByWeight d basic y) (length d.columns)
marked_walk d (unbounded x r) basic upper = each rule.Rest (rest_by d basic upper x) (length d.columns)
