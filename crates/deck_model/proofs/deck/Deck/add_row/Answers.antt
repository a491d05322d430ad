use Rattle.std.proofs.Common.{◌++◌, [], ◌∷◌, ap, sym, ◌∙◌, length, arith}
use Rattle.std.proofs.lemmas.List.{length-map}
use Rattle.lp_model.specs.Deck.{Deck, Row}
use Rattle.lp_model.specs.Edit.{with_row}
use Rattle.deck_model.specs.Parts.{row_of, column_of, deck_of}
use Rattle.deck_model.proofs.Added.{new_row, row_of-new_row, row_added, deck_of-row_added}
use Rattle.deck_model.proofs.Lookups.{entries-new}
use Rattle.deck_model.proofs.Seen.{free_row_name}
use Rattle.deck_model.proofs.deck.Deck.add_row.Goals as goal

pub invariant_of-self-2 : goal.invariant_of-self-2
invariant_of-self-2 c =
    let a = c.self.inside in
    let d = c.args.self.now in
    let free = free_row_name a d c.self.view_is c.args.name (sym c.has_row_name.ensures ∙ c.if-has_row_name.false) in
    row_added a c.self.invariant c.insert.new.self c.args.name (new_row c.args.kind) (c.in_ok-insert.ensures.entries ∙ entries-new a.rows c.args.name (new_row c.args.kind) free.1)
    (omega (arith, length-map a.columns.entries column_of, ap (λ (e : Deck). length e.columns) c.self.view_is))
    (omega (arith, length-map a.rows.entries row_of, ap (λ (e : Deck). length e.rows) c.self.view_is))
    free.0

pub returns-clause-ok : goal.returns-clause-ok
returns-clause-ok c =
    let a = c.self.inside in
    let d = c.args.self.now in
    let free = free_row_name a d c.self.view_is c.args.name (sym c.has_row_name.ensures ∙ c.if-has_row_name.false) in
    deck_of-row_added a c.insert.new.self c.args.name (new_row c.args.kind) (c.in_ok-insert.ensures.entries ∙ entries-new a.rows c.args.name (new_row c.args.kind) free.1)
    ∙ ap (λ (r : Row). record (deck_of a) { rows = (deck_of a).rows ++ r ∷ [] }) (row_of-new_row c.args.name c.args.kind)
    ∙ ap (λ e. with_row e c.args.name c.args.kind) c.self.view_is
