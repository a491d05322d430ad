-- The lists that are made of a deck are its instance.
use Rattle.std.proofs.Common.{◌≡◌, ℕ, ◌<◌, ◌≤◌, List, All, map, length, Option, sym, ◌∙◌, ap, ap₂, subst, arith}
use Rattle.std.proofs.lemmas.List.{get_or-map, length-map, take_all}
use Rattle.std.specs.Option.{option_map}
use Rattle.lp_model.specs.declared.Sense.{Sense}
use Rattle.lp_model.specs.declared.Side.{Side}
use Rattle.lp_model.specs.Deck.{Column, Deck, Interval, IsDeck, Row, logical_bounds, no_column, no_row}
use Rattle.rational.specs.Rational.{ℚ}
use Rattle.rational.specs.Sparse.{upto}
use Rattle.lp_run.specs.Instance.{Instance, IsWellFormed, equations_of, instance_of, range_sum, row_passes}
use Rattle.lp_run.proofs.WellFormed.{instance_well_formed}
use Rattle.instance_model.specs.declared.instance.Structural.{Structural as Part}
use Rattle.instance_model.specs.declared.start_sums.RowStart.{RowStart}
use Rattle.instance_model.specs.Inner.Starts.{part_of, row_start}
use Rattle.instance_model.specs.Parts.{structural_of as structural_of_part}
use Rattle.instance_model.proofs.Lists.{map-map, map_at}

abbrev pub of_lists : List ℚ → List Part → List Interval → List (Option ℚ) → List (Option Side) → ℚ → Sense → Instance
of_lists right structurals logicals sums passed constant sense = record {
  right = right;
  structurals = map structural_of_part structurals;
  logicals = logicals;
  range_sums = sums;
  passed = passed;
  constant = constant;
  sense = sense;
}

all_long : (m : ℕ) (cs : List Column) → All (λ (c : Part). c.entries.length ≡ m) (map (part_of m) cs)
all_long m cs k d b =
    ap (λ (c : Part). c.entries.length) (get_or-map (part_of m) cs k no_column d (subst (λ n. k < n) (length-map cs (part_of m)) b))

module _ (d : Deck) where
  sums_are : map (λ (s : RowStart). s.range_sum) (map (row_start d) (upto (length d.rows))) ≡ map range_sum d.rows
  sums_are =
      map-map (λ (s : RowStart). s.range_sum) (row_start d) (upto (length d.rows))
      ∙ map_at range_sum d.rows no_row (length d.rows) (omega arith)
      ∙ ap (map range_sum) (take_all (length d.rows) d.rows (omega arith))

  passed_are : map (λ (s : RowStart). s.passed) (map (row_start d) (upto (length d.rows))) ≡ (instance_of d).passed
  passed_are =
      map-map (λ (s : RowStart). s.passed) (row_start d) (upto (length d.rows))
      ∙ ap (λ n. map (λ i. option_map (λ passed. passed.0) (row_passes (equations_of d) i)) (upto n)) (sym (length-map d.rows (λ (r : Row). r.right)))

  module _ (right : List ℚ) (structurals : List Part) (logicals : List Interval) (starts : List RowStart) (sums : List (Option ℚ)) (passed : List (Option Side)) (constant : ℚ) (sense : Sense)
      (right_is : right ≡ map (λ (r : Row). r.right) d.rows) (structurals_are : structurals ≡ map (part_of (length d.rows)) d.columns) where
    pub whole : logicals ≡ map logical_bounds d.rows → starts ≡ map (row_start d) (upto (length d.rows)) → sums ≡ map (λ (s : RowStart). s.range_sum) starts
        → passed ≡ map (λ (s : RowStart). s.passed) starts → constant ≡ d.constant → sense ≡ d.sense
        → of_lists right structurals logicals sums passed constant sense ≡ instance_of d
    whole logicals_are starts_are sums_is passed_is constant_is sense_is =
        ap₂ (λ r c. of_lists r c logicals sums passed constant sense) right_is structurals_are
        ∙ ap₂ (λ l u. of_lists (map (λ (r : Row). r.right) d.rows) (map (part_of (length d.rows)) d.columns) l u passed constant sense) logicals_are
        (sums_is ∙ ap (map (λ (s : RowStart). s.range_sum)) starts_are ∙ sums_are)
        ∙ ap (λ p. of_lists (map (λ (r : Row). r.right) d.rows) (map (part_of (length d.rows)) d.columns) (map logical_bounds d.rows) (map range_sum d.rows) p constant sense)
        (passed_is ∙ ap (map (λ (s : RowStart). s.passed)) starts_are ∙ passed_are)
        ∙ ap₂ (λ c s. of_lists (map (λ (r : Row). r.right) d.rows) (map (part_of (length d.rows)) d.columns) (map logical_bounds d.rows) (map range_sum d.rows) (instance_of d).passed c s)
        constant_is sense_is
        ∙ columns_are
      where
        columns_are : of_lists (map (λ (r : Row). r.right) d.rows) (map (part_of (length d.rows)) d.columns) (map logical_bounds d.rows) (map range_sum d.rows)
            (instance_of d).passed d.constant d.sense
            ≡ instance_of d
        columns_are = ap (λ cs. record (instance_of d) { structurals = cs }) (map-map structural_of_part (part_of (length d.rows)) d.columns)

    rows_are : length right ≡ length d.rows
    rows_are = ap length right_is ∙ length-map d.rows (λ (r : Row). r.right)

    pub whole_long : All (λ (c : Part). c.entries.length ≡ length right) structurals
    whole_long = subst (All (λ (c : Part). c.entries.length ≡ length right)) (sym structurals_are)
        (subst (λ m. All (λ (c : Part). c.entries.length ≡ m) (map (part_of (length d.rows)) d.columns)) (sym rows_are) (all_long (length d.rows) d.columns))

    pub whole_few : length d.rows ≤ 65535 → length right ≤ 65535
    whole_few b = subst (λ m. m ≤ 65535) (sym rows_are) b

    pub columns_few : {n : ℕ} → length d.columns ≤ n → length structurals ≤ n
    columns_few {n = n} b = subst (λ m. m ≤ n) (sym (ap length structurals_are ∙ length-map d.columns (part_of (length d.rows)))) b

pub whole_well_formed : (d : Deck) (inst : Instance) → IsDeck d → inst ≡ instance_of d → IsWellFormed inst
whole_well_formed d inst deck is = instance_well_formed inst (d, deck, is)
