use Rattle.std.proofs.Common.{ap, sym, ◌∙◌, length, arith}
use Rattle.std.proofs.lemmas.List.{length-map}
use Rattle.lp_model.specs.Deck.{Column, Deck}
use Rattle.lp_model.specs.Edit.{has_entry, with_entry}
use Rattle.deck_model.specs.Parts.{row_of}
use Rattle.deck_model.proofs.Count.{count_of-le, entry_count-count_of}
use Rattle.deck_model.proofs.Inserted.{IsSound-same, deck_of-same, IsSound-inserted, deck_of-inserted, on_err}
use Rattle.deck_model.proofs.Seen.{column-shown}
use Rattle.deck_model.proofs.Sparse.{value_at-none}
use Rattle.deck_model.proofs.deck.Deck.insert_entry.Goals as goal

pub insert-requires-clause-absent : goal.insert-requires-clause-absent
insert-requires-clause-absent c =
    let v = c.index_mut.result.now in
    value_at-none v.entries.pairs c.args.row
    (sym (ap (λ (k : Column). has_entry k.entries c.args.row) (column-shown c.self.inside c.args.self.now c.self.view_is c.args.column v c.index_mut.ensures.value)) ∙ c.requires.absent)

pub invariant_of-self : goal.invariant_of-self
invariant_of-self c = IsSound-same c.self.inside c.args.column c.index_mut.result.now c.index_mut.ensures.value c.insert.new.self c.in_err-insert.ensures.err c.self.invariant

pub returns-in_err-insert-clause-err : goal.returns-in_err-insert-clause-err
returns-in_err-insert-clause-err c =
    on_err c.from_residual.result
    (deck_of-same c.self.inside c.args.column c.index_mut.result.now c.index_mut.ensures.value c.insert.new.self c.in_err-insert.ensures.err ∙ c.self.view_is)

pub overflow_add-self : goal.overflow_add-self
overflow_add-self c =
    let a = c.self.inside in
    record {
      fits = omega (arith, count_of-le a.columns.entries _ c.self.invariant.columns c.self.invariant.few_rows c.self.invariant.few_columns, c.self.invariant.counted, entry_count-count_of a.columns.entries);
    }

pub invariant_of-self-2 : goal.invariant_of-self-2
invariant_of-self-2 c =
    let a = c.self.inside in
    let v = c.index_mut.result.now in
    IsSound-inserted a c.args.column v c.index_mut.ensures.value c.insert.new.self c.args.row c.args.value c.in_ok-insert.ensures.ok c.requires.nonzero c.self.invariant
    (omega (arith, c.requires.row, length-map a.rows.entries row_of, ap (λ (d : Deck). length d.rows) c.self.view_is))
    (sym (ap (λ (k : Column). has_entry k.entries c.args.row) (column-shown a c.args.self.now c.self.view_is c.args.column v c.index_mut.ensures.value)) ∙ c.requires.absent)

pub returns-clause-ok : goal.returns-clause-ok
returns-clause-ok c =
    deck_of-inserted c.self.inside c.args.column c.index_mut.result.now c.index_mut.ensures.value c.insert.new.self c.args.row c.args.value c.in_ok-insert.ensures.ok c.requires.nonzero
    ∙ ap (λ d. with_entry d c.args.column c.args.row c.args.value) c.self.view_is
