use Rattle.std.proofs.Common.{◌+◌, ◌-◌, ap, refl, ◌∙◌, arith}
use Rattle.lp_model.specs.Edit.{with_cost}
use Rattle.rational.proofs.OrderLaws.{one_unless_zero-le}
use Rattle.deck_model.proofs.Count.{count_in-le-count_of, count_of-le, entry_count-count_of}
use Rattle.deck_model.proofs.Sound.{column_at, column_changed, deck_of-column_changed}
use Rattle.deck_model.proofs.deck.Deck.set_cost.Goals as goal

pub overflow_sub-self : goal.overflow_sub-self
overflow_sub-self c =
    let a = c.self.inside in
    omega (
      arith,
      c.count-before.ensures,
      count_in-le-count_of a.columns.entries c.args.column c.index_mut-data.result.now c.index_mut-data.ensures.value,
      c.self.invariant.counted,
      entry_count-count_of a.columns.entries,
    )

pub overflow_add-self : goal.overflow_add-self
overflow_add-self c =
    let a = c.self.inside in
    record {
      fits = omega (
        arith,
        c.count.ensures,
        one_unless_zero-le c.args.value,
        count_of-le a.columns.entries _ c.self.invariant.columns c.self.invariant.few_rows c.self.invariant.few_columns,
        c.self.invariant.counted,
        entry_count-count_of a.columns.entries,
      );
    }

pub invariant_of-self : goal.invariant_of-self
invariant_of-self c =
    let a = c.self.inside in
    let v = c.index_mut-data.result.now in
    let at = c.index_mut-data.ensures.value in
    let old = column_at a c.self.invariant c.args.column v at in
    column_changed a c.self.invariant c.args.column v (record v { cost = c.args.value }) (a.nonzeros - c.count-before.result + c.count.result) at
    (record { long = old.long; sparse = old.sparse; uncrossed = old.uncrossed })
    (omega (arith, c.count.ensures, c.count-before.ensures, count_in-le-count_of a.columns.entries c.args.column v at, c.self.invariant.counted, entry_count-count_of a.columns.entries))

pub returns : goal.returns
returns c =
    let v = c.index_mut-data.result.now in
    deck_of-column_changed c.self.inside (λ k. record k { cost = c.args.value }) c.args.column v (record v { cost = c.args.value }) (c.self.inside.nonzeros - c.count-before.result + c.count.result)
    c.index_mut-data.ensures.value (λ name. refl)
    ∙ ap (λ d. with_cost d c.args.column c.args.value) c.self.view_is
