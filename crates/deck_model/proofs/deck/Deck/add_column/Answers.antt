use Rattle.std.proofs.Common.{◌++◌, [], ◌∷◌, ap, sym, ◌∙◌, is_some, length, arith}
use Rattle.std.proofs.lemmas.List.{length-map}
use Rattle.lp_model.specs.Deck.{Column, Deck}
use Rattle.lp_model.specs.Edit.{with_column}
use Rattle.deck_model.specs.Parts.{column_of, deck_of}
use Rattle.deck_model.proofs.Added.{new_column, column_of-new_column, FitsRows-new_column, count_in-new_column, column_added, deck_of-column_added}
use Rattle.deck_model.proofs.Lookups.{entries-new}
use Rattle.deck_model.proofs.Seen.{free_column_name}
use Rattle.deck_model.proofs.deck.Deck.add_column.Goals as goal

pub invariant_of-self-2 : goal.invariant_of-self-2
invariant_of-self-2 c =
    let a = c.self.inside in
    let d = c.args.self.now in
    let v = new_column c.empty.result in
    let free = free_column_name a d c.self.view_is c.args.name (sym (c.is_some.ensures ∙ ap is_some c.find_column.ensures) ∙ c.if-is_some.false) in
    let none = c.empty.ensures.value ∙ ap (λ m. record { length = m; pairs = [] }) c.len.ensures.len in
    column_added a c.self.invariant c.insert.new.self c.args.name v (c.in_ok-insert.ensures.entries ∙ entries-new a.columns c.args.name v free)
    (omega (arith, length-map a.columns.entries column_of, ap (λ (e : Deck). length e.columns) c.self.view_is))
    (FitsRows-new_column c.empty.result (length a.rows.entries) none)
    (count_in-new_column c.empty.result (length a.rows.entries) none)

pub returns-clause-ok : goal.returns-clause-ok
returns-clause-ok c =
    let a = c.self.inside in
    let d = c.args.self.now in
    let v = new_column c.empty.result in
    let free = free_column_name a d c.self.view_is c.args.name (sym (c.is_some.ensures ∙ ap is_some c.find_column.ensures) ∙ c.if-is_some.false) in
    deck_of-column_added a c.insert.new.self c.args.name v (c.in_ok-insert.ensures.entries ∙ entries-new a.columns c.args.name v free)
    ∙ ap (λ (k : Column). record (deck_of a) { columns = (deck_of a).columns ++ k ∷ [] }) (column_of-new_column c.empty.result c.len.result c.empty.ensures.value c.args.name)
    ∙ ap (λ e. with_column e c.args.name) c.self.view_is
