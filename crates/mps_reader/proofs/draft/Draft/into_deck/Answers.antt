use Rattle.std.proofs.Common.{◌∙◌, ap, ap₂, arith, subst, sym}
use Rattle.lp_model.specs.Deck.{IsUncrossed}
use Rattle.lp_model.specs.Edit.{with_bounds}
use Rattle.mps_reader.specs.Inner.Standing.{interval_of}
use Rattle.mps_reader.proofs.CrossedColumns.{given-next, one_more, uncrossed}
use Rattle.mps_reader.proofs.DeckEnds.{column_given, first_crossed, none_crossed, none_given}
use Rattle.mps_reader.proofs.draft.Draft.into_deck.Goals as goal

pub loop-column-init : goal.loop-column-init
loop-column-init c = record { given = none_given c.args.self.deck c.deref-ends-items.result.now; uncrossed = λ i less e. absurd (omega (arith, less)) }

pub column_name-requires : goal.column_name-requires
column_name-requires c =
    column_given c.args.self c.requires.0 c.requires.1 c.deref-ends-items.result.now c.deref-ends-items.ensures.value c.loop-column.deck c.loop-column.column
    c.loop-column.column c.loop-column.invariant.given c.loop-column-test.true

pub returns-then-are_crossed-clause-end : goal.returns-then-are_crossed-clause-end
returns-then-are_crossed-clause-end c = λ s line h.
    first_crossed c.args.self s h c.deref-ends-items.result.now c.deref-ends-items.ensures.value line (λ e. cc (c.if-is_empty.ensures.1 e))
    c.loop-column.deck c.loop-column.column c.loop-column.column c.ends-item.result c.in-Ok.name c.loop-column.invariant.given c.loop-column-test.true
    c.loop-column.invariant.uncrossed c.ends-item.is (sym c.if-are_crossed.ensures) (c.in-Ok.ensures ∙ c.bytes.ensures ∙ c.column_name.ensures)

pub set_bounds-requires-clause-column : goal.set_bounds-requires-clause-column
set_bounds-requires-clause-column c =
    column_given c.args.self c.requires.0 c.requires.1 c.deref-ends-items.result.now c.deref-ends-items.ensures.value c.loop-column.deck c.loop-column.column
    c.loop-column.column c.loop-column.invariant.given c.loop-column-test.true

pub set_bounds-requires-clause-uncrossed : goal.set_bounds-requires-clause-uncrossed
set_bounds-requires-clause-uncrossed c =
    subst IsUncrossed (ap₂ (λ l u. record { lower = l; upper = u }) (sym c.lower_end.ensures.end) (sym c.upper_end.ensures.end))
    (uncrossed (interval_of c.ends-item.result) (sym c.if-are_crossed.ensures))

pub loop-column-preserved : goal.loop-column-preserved
loop-column-preserved c = record {
  given =
      c.set_bounds.ensures
      ∙ ap₂ (λ d b. with_bounds d c.loop-column.column b) c.loop-column.invariant.given
      (ap₂ (λ l u. record { lower = l; upper = u }) c.lower_end.ensures.end c.upper_end.ensures.end ∙ ap interval_of c.ends-item.is)
      ∙ given-next c.args.self.deck c.deref-ends-items.result.now c.loop-column.column c.ends-item.result c.loop-column-test.true;
  uncrossed = one_more c.deref-ends-items.result.now c.loop-column.column c.ends-item.result c.loop-column-test.true c.ends-item.is (sym c.if-are_crossed.ensures) c.loop-column.invariant.uncrossed;
}

pub returns-clause-end : goal.returns-clause-end
returns-clause-end c = λ s line h.
    none_crossed c.args.self s h c.deref-ends-items.result.now c.deref-ends-items.ensures.value line (λ e. cc (c.if-is_empty.ensures.1 e))
    c.loop-column.deck c.loop-column.column c.loop-column.invariant.given c.loop-column-test.false c.loop-column.invariant.uncrossed
