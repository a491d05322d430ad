-- What is made of the deck's parts is its instance, which is well formed.
use Rattle.std.proofs.Common.{◌∙◌, ap, map, length, arith}
use Rattle.lp_run.specs.Instance.{equations_of}
use Rattle.instance_model.specs.declared.start_sums.RowStart.{RowStart}
use Rattle.instance_model.proofs.Products.{products_stored}
use Rattle.instance_model.proofs.Whole.{columns_few, whole, whole_few, whole_long, whole_well_formed}
use Rattle.instance_model.proofs.instance.Instance.of.Goals as goal

pub invariant_of-result : goal.invariant_of-result
invariant_of-result g c =
    let d = c.args.deck.now in
    let right = c.in_ok-right.right.items in
    let structurals = c.in_ok-structurals.structurals.items in
    let logicals = c.in_ok-logicals.logicals.items in
    let starts = c.in_ok-starts.starts.items in
    let sums = c.in_ok-range_sums.field-0.items in
    let passed = c.in_ok-passed_sides.field-0.items in
    let right_is = c.in_ok-right.ensures.items in
    let structurals_are = c.in_ok-structurals.ensures.items in
    let is = whole d right structurals logicals starts sums passed c.constant.result c.sense.result right_is structurals_are c.in_ok-logicals.ensures c.in_ok-starts.ensures.value
    (c.in_ok-range_sums.ensures ∙ ap (map (λ (s : RowStart). s.range_sum)) c.deref.ensures.value)
    (c.in_ok-passed_sides.ensures ∙ ap (map (λ (s : RowStart). s.passed)) c.deref-2.ensures.value) c.constant.ensures c.sense.ensures in
    record {
      well_formed = whole_well_formed d _ c.structurals.ensures.deck is;
      long = whole_long d right structurals logicals starts sums passed c.constant.result c.sense.result right_is structurals_are;
      few_rows = whole_few d right structurals logicals starts sums passed c.constant.result c.sense.result right_is structurals_are c.right_sides.ensures.few;
      few_columns = columns_few d right structurals logicals starts sums passed c.constant.result c.sense.result right_is structurals_are c.structurals.ensures.few;
    }

pub returns-clause-made : goal.returns-clause-made
returns-clause-made g c =
    let d = c.args.deck.now in
    let right = c.in_ok-right.right.items in
    let structurals = c.in_ok-structurals.structurals.items in
    let logicals = c.in_ok-logicals.logicals.items in
    let starts = c.in_ok-starts.starts.items in
    let sums = c.in_ok-range_sums.field-0.items in
    let passed = c.in_ok-passed_sides.field-0.items in
    let is = whole d right structurals logicals starts sums passed c.constant.result c.sense.result c.in_ok-right.ensures.items c.in_ok-structurals.ensures.items c.in_ok-logicals.ensures
    c.in_ok-starts.ensures.value
    (c.in_ok-range_sums.ensures ∙ ap (map (λ (s : RowStart). s.range_sum)) c.deref.ensures.value)
    (c.in_ok-passed_sides.ensures ∙ ap (map (λ (s : RowStart). s.passed)) c.deref-2.ensures.value) c.constant.ensures c.sense.ensures in
    (is, c.in_ok-starts.ensures.judged)

pub returns-in_err-range_sums-clause-work : goal.returns-in_err-range_sums-clause-work
returns-in_err-range_sums-clause-work g c =
    let stored = products_stored (equations_of c.args.deck.now) (length c.args.deck.now.rows) in
    omega (arith, stored, c.row_starts.ensures.work)

pub returns-in_err-passed_sides-clause-work : goal.returns-in_err-passed_sides-clause-work
returns-in_err-passed_sides-clause-work g c =
    let stored = products_stored (equations_of c.args.deck.now) (length c.args.deck.now.rows) in
    omega (arith, stored, c.row_starts.ensures.work)

pub returns-clause-work : goal.returns-clause-work
returns-clause-work g c =
    let stored = products_stored (equations_of c.args.deck.now) (length c.args.deck.now.rows) in
    omega (arith, stored, c.row_starts.ensures.work)

pub returns-in_err-starts-clause-work : goal.returns-in_err-starts-clause-work
returns-in_err-starts-clause-work g c =
    let stored = products_stored (equations_of c.args.deck.now) (length c.args.deck.now.rows) in
    omega (arith, stored, c.row_starts.ensures.work)
