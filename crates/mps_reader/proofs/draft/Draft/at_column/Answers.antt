-- The name's column is the last one, one before it, or new.
use Rattle.std.proofs.Common.{ap, sym, ◌∙◌, subst}
use Rattle.deck_model.proofs.Lists.{none_from_is_some}
use Rattle.mps_model.specs.PairCards.{begin_column}
use Rattle.lp_model.specs.Edit.{find_column}
use Rattle.mps_reader.specs.Inner.Standing.{Judged}
use Rattle.mps_reader.proofs.Columns.{at_column-last, at_column-new, at_column-other}
use Rattle.mps_reader.proofs.draft.Draft.at_column.Goals as goal

pub returns-then-is_last_column-clause-judged : goal.returns-then-is_last_column-clause-judged
returns-then-is_last_column-clause-judged c = λ s h. (s, at_column-last c.args.self.now s h c.args.name.now c.if-is_last_column.ensures, h)

pub returns-then-is_some-clause-judged : goal.returns-then-is_some-clause-judged
returns-then-is_some-clause-judged c = λ s h.
    at_column-other c.args.self.now s h c.args.name.now c.find_column.result (c.find_column.ensures ∙ ap (find_column c.args.self.now.deck) c.in_ok-name.ensures)
    (sym c.is_some.ensures ∙ c.if-is_some.true) c.if-is_last_column.ensures

pub returns-clause-judged : goal.returns-clause-judged
returns-clause-judged c = λ s h.
    subst (λ r. Judged r c.begin_column.new.self c.begin_column.result)
    (ap (begin_column s) c.in_ok-name.ensures ∙ sym (at_column-new c.args.self.now s h c.args.name.now
    (ap (find_column c.args.self.now.deck) (sym c.in_ok-name.ensures) ∙ sym c.find_column.ensures ∙ none_from_is_some c.find_column.result (sym c.is_some.ensures ∙ c.if-is_some.false))))
    (c.begin_column.ensures.judged s h)
