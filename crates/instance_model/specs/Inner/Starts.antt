-- What the start sums of a row list and what becomes of them, part by part.
use Rattle.std.specs.Prelude.{◌≡◌, ℕ, Bool, List, map, not, sum_by, Option, Some, None, Result, Ok, Err}
use Rattle.std.specs.List.{filter}
use Rattle.std.specs.Option.{option_map}
use Rattle.std.specs.declared.cmp.Ordering.TheVariants.{Less, Equal, Greater}
use Rattle.lp_model.specs.declared.Kind.TheVariants as kind
use Rattle.lp_model.specs.declared.Place.{Place}
use Rattle.lp_model.specs.declared.RowKind.{RowKind}
use Rattle.lp_model.specs.declared.RowKind.TheVariants.{L, G, E}
use Rattle.lp_model.specs.declared.Side.{Side}
use Rattle.lp_model.specs.Deck.{Column, Deck, Interval, row}
use Rattle.rational.specs.Rational.{ℚ, zero_ℚ, ◌-ℚ◌, neg_ℚ, abs_ℚ, cmp_ℚ, eq_ℚ, one_unless_zero}
use Rattle.rational.specs.Sparse.{entry_at, upto}
use Rattle.lp_run.specs.Instance.{Instance, equations_of, passed_end, range_sum, row_passes, start_value, structural, structural_count}
use Rattle.lp_run.specs.Listing.{AllFit, Listed, Term, first_unfit, listed_at, place, taken}
use Rattle.instance_model.specs.declared.instance.Structural.{Structural as Part}
use Rattle.instance_model.specs.declared.making.InstanceFault.{InstanceFault}
use Rattle.instance_model.specs.declared.making.InstanceFault.TheVariants as fault
use Rattle.instance_model.specs.declared.start_sums.RowStart.{RowStart}

-- the place of a sum of row i that stands in no column
abbrev pub row_place : ℕ → Place
row_place i = place 0 kind.Start (Some i) None

-- the product of structural j at its start in row i
abbrev pub start_term : Instance → ℕ → ℕ → Term
start_term inst i j = (place 0 kind.Start (Some i) (Some j), (entry_at (structural inst j).entries i, start_value (structural inst j).bounds))

-- what structurals take from a number in row i, one after another
abbrev pub takings : Instance → ℕ → ℚ → List ℕ → List Listed
takings inst i left js = taken left (map (start_term inst i) js)

-- whether a structural does not start at 0
abbrev pub starts_off : Instance → ℕ → Bool
starts_off inst j = not (eq_ℚ (start_value (structural inst j).bounds) zero_ℚ)

-- the structurals that do not start at 0
abbrev pub off_zero : Instance → List ℕ
off_zero inst = filter (starts_off inst) (upto (structural_count inst))

-- how many products the residual of row i takes at most
abbrev pub row_products : Instance → ℕ → ℕ
row_products inst i = sum_by (λ j. one_unless_zero (entry_at (structural inst j).entries i)) (off_zero inst)

-- how far a number passes an end of an interval, in row i
abbrev pub excess_listing : ℕ → Interval → ℚ → List Listed
excess_listing i bounds x = listed_at (row_place i) (option_map (λ passed. x -ℚ passed.1) (passed_end bounds x))

-- the side of the end of an interval that a number passes
abbrev pub side_past : Interval → ℚ → Option Side
side_past bounds x = option_map (λ passed. passed.0) (passed_end bounds x)

-- how far a range puts the other end of the row's interval from the right side
abbrev pub range_shift : RowKind → Option ℚ → Option ℚ
range_shift L None = None
range_shift L (Some v) = Some (neg_ℚ (abs_ℚ v))
range_shift G None = None
range_shift G (Some v) = Some (abs_ℚ v)
range_shift E None = None
range_shift E (Some v) = elim (cmp_ℚ v zero_ℚ) [ Less ↦ Some v | Equal ↦ None | Greater ↦ Some v ]

-- what row i has of its start sums
abbrev pub row_start : Deck → ℕ → RowStart
row_start d i = record { passed = option_map (λ passed. passed.0) (row_passes (equations_of d) i); range_sum = range_sum (row d i) }

-- a column of a deck of m rows, without its name
abbrev pub part_of : ℕ → Column → Part
part_of m c = record { cost = c.cost; entries = record { length = m; pairs = c.entries }; bounds = c.bounds }

-- where memory is wanting nothing is said, else the answer is the place of the first listed value that does not fit, and Ok where all fit
abbrev pub JudgesOrWants : {A : Type 0} → ℕ → List Listed → Result A InstanceFault → Type 0
JudgesOrWants w vs (Ok answer) = AllFit w vs
JudgesOrWants w vs (Err fault.Memory) = Unit {0}
JudgesOrWants w vs (Err (fault.Overflow here)) = first_unfit w vs ≡ Some here
