-- Each step works the product of the next structural that does not start at 0.
use Rattle.std.proofs.Common.{◌≡◌, ◌<◌, ◌≤◌, length, get_or, Some, None, refl, sym, ◌∙◌, ap, subst, arith}
use Rattle.std.proofs.lemmas.List.{at_drop_all}
use Rattle.lp_model.specs.Deck.{Interval}
use Rattle.rational.specs.Rational.{ℚ}
use Rattle.rational.specs.Sparse.{entry_at, upto}
use Rattle.rational.specs.Sum.{at}
use Rattle.rational.specs.Worked.{less, settle}
use Rattle.lp_run.specs.Instance.{Structural, equations_of, start_value, structural_count}
use Rattle.lp_run.specs.Listing.{first_unfit}
use Rattle.sparse_cols.specs.Sparse.{Sparse}
use Rattle.instance_model.specs.Inner.Starts.{off_zero, takings}
use Rattle.instance_model.proofs.Sums.{column_within, left_over, leaves_residual, moved_take, none_left, right_is, structural_is, taking_leaves, taking_settles, taking_stops}
use Rattle.instance_model.proofs.Products.{step_costs}
use Rattle.instance_model.proofs.start_sums.residual.Goals as goal

pub loop-k-init : goal.loop-k-init
loop-k-init g c =
    let d = c.args.deck.now in
    let inst = equations_of d in
    let own = c.right-rest.ensures ∙ right_is d c.args.row c.requires.row in
    record {
      width = refl;
      unfit = refl;
      work = omega arith;
      left = ap (λ (r : ℚ). first_unfit (g.A.Arith.width c.args.arith.now) (takings inst c.args.row r (off_zero inst))) own
          ∙ ap (first_unfit (g.A.Arith.width c.args.arith.now)) (moved_take inst c.args.row (at inst.right c.args.row) (upto (structural_count inst)));
      rest = ap (λ (r : ℚ). left_over inst c.args.row r (off_zero inst)) own ∙ leaves_residual inst c.args.row;
    }

pub column_bounds-requires : goal.column_bounds-requires
column_bounds-requires g c = column_within c.args.deck.now c.args.moved.now c.loop-k.k c.requires.moved c.loop-k-test.true

pub column-requires : goal.column-requires
column-requires g c = column_within c.args.deck.now c.args.moved.now c.loop-k.k c.requires.moved c.loop-k-test.true

pub product_place-requires-clause-column : goal.product_place-requires-clause-column
product_place-requires-clause-column g c = omega (arith, column_within c.args.deck.now c.args.moved.now c.loop-k.k c.requires.moved c.loop-k-test.true, c.requires.columns)

pub returns-in-Err-clause-answer : goal.returns-in-Err-clause-answer
returns-in-Err-clause-answer g c =
    let d = c.args.deck.now in
    let inst = equations_of d in
    let k = c.loop-k.k in
    let j = get_or c.args.moved.now k 0 in
    let below : j < length d.columns = column_within d c.args.moved.now k c.requires.moved c.loop-k-test.true in
    let within : k < length (off_zero inst) = subst (λ js. k < length js) c.requires.moved c.loop-k-test.true in
    let is : j ≡ get_or (off_zero inst) k 0 = ap (λ js. get_or js k 0) c.requires.moved in
    let left = c.entry.ensures ∙ ap (λ (s : Sparse ℚ). entry_at s.pairs c.args.row) c.column.ensures ∙ ap (λ (s : Structural). entry_at s.entries c.args.row) (structural_is d j below) in
    let right = c.start_value-value.ensures ∙ ap (λ (i : Interval). start_value i) c.column_bounds.ensures ∙ ap (λ (s : Structural). start_value s.bounds) (structural_is d j below) in
    let stopped = subst (λ w. settle w (less c.loop-k.rest c.entry.result c.start_value-value.result) ≡ None) c.loop-k.invariant.width c.in-Err.ensures.settled in
    sym c.loop-k.invariant.left
    ∙ taking_stops inst c.args.row (g.A.Arith.width c.args.arith.now) (off_zero inst) k j c.loop-k.rest c.entry.result c.start_value-value.result within is left right stopped
    ∙ ap Some (sym c.product_place.ensures)

pub returns-in-Err-clause-work : goal.returns-in-Err-clause-work
returns-in-Err-clause-work g c =
    let d = c.args.deck.now in
    let inst = equations_of d in
    let k = c.loop-k.k in
    let j = get_or c.args.moved.now k 0 in
    let below : j < length d.columns = column_within d c.args.moved.now k c.requires.moved c.loop-k-test.true in
    let within : k < length (off_zero inst) = subst (λ js. k < length js) c.requires.moved c.loop-k-test.true in
    let is : j ≡ get_or (off_zero inst) k 0 = ap (λ js. get_or js k 0) c.requires.moved in
    let left = c.entry.ensures ∙ ap (λ (s : Sparse ℚ). entry_at s.pairs c.args.row) c.column.ensures ∙ ap (λ (s : Structural). entry_at s.entries c.args.row) (structural_is d j below) in
    let spent = step_costs inst c.args.row (off_zero inst) k j c.entry.result within is left _ _ _ c.less_product.ensures.work c.loop-k.invariant.work in
    omega (arith, spent)

pub loop-k-preserved : goal.loop-k-preserved
loop-k-preserved g c =
    let d = c.args.deck.now in
    let inst = equations_of d in
    let k = c.loop-k.k in
    let j = get_or c.args.moved.now k 0 in
    let below : j < length d.columns = column_within d c.args.moved.now k c.requires.moved c.loop-k-test.true in
    let within : k < length (off_zero inst) = subst (λ js. k < length js) c.requires.moved c.loop-k-test.true in
    let is : j ≡ get_or (off_zero inst) k 0 = ap (λ js. get_or js k 0) c.requires.moved in
    let left = c.entry.ensures ∙ ap (λ (s : Sparse ℚ). entry_at s.pairs c.args.row) c.column.ensures ∙ ap (λ (s : Structural). entry_at s.entries c.args.row) (structural_is d j below) in
    let right = c.start_value-value.ensures ∙ ap (λ (i : Interval). start_value i) c.column_bounds.ensures ∙ ap (λ (s : Structural). start_value s.bounds) (structural_is d j below) in
    let settled = subst (λ w. settle w (less c.loop-k.rest c.entry.result c.start_value-value.result) ≡ Some c.in-Ok.left) c.loop-k.invariant.width c.in-Ok.ensures.settled in
    record {
      width = c.less_product.ensures.width ∙ c.loop-k.invariant.width;
      unfit = c.in-Ok.ensures.unfit ∙ c.loop-k.invariant.unfit;
      work = step_costs inst c.args.row (off_zero inst) k j c.entry.result within is left _ _ _ c.less_product.ensures.work c.loop-k.invariant.work;
      left = taking_settles inst c.args.row (g.A.Arith.width c.args.arith.now) (off_zero inst) k j c.loop-k.rest c.entry.result c.start_value-value.result within is left right c.in-Ok.left settled
          ∙ c.loop-k.invariant.left;
      rest = taking_leaves inst c.args.row (g.A.Arith.width c.args.arith.now) (off_zero inst) k j c.loop-k.rest c.entry.result c.start_value-value.result within is left right c.in-Ok.left settled
          ∙ c.loop-k.invariant.rest;
    }

pub returns-clause-answer : goal.returns-clause-answer
returns-clause-answer g c =
    let inst = equations_of c.args.deck.now in
    let same : length c.args.moved.now ≡ length (off_zero inst) = ap length c.requires.moved in
    let ended : length (off_zero inst) ≤ c.loop-k.k = omega (arith, same) in
    sym c.loop-k.invariant.left ∙ none_left (g.A.Arith.width c.args.arith.now) inst c.args.row c.loop-k.k c.loop-k.rest (off_zero inst) ended

pub returns-clause-work : goal.returns-clause-work
returns-clause-work g c =
    let spent = c.loop-k.invariant.work in
    omega (arith, spent)

pub returns-clause-value : goal.returns-clause-value
returns-clause-value g c =
    let inst = equations_of c.args.deck.now in
    let same : length c.args.moved.now ≡ length (off_zero inst) = ap length c.requires.moved in
    let ended : length (off_zero inst) ≤ c.loop-k.k = omega (arith, same) in
    sym (at_drop_all (left_over inst c.args.row c.loop-k.rest) (off_zero inst) c.loop-k.k ended) ∙ c.loop-k.invariant.rest
