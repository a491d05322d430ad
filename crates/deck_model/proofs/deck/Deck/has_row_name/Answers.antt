use Rattle.std.proofs.Common.{ap, sym, ◌∙◌, ◌||◌, is_some}
use Rattle.lp_model.specs.Edit.{find_row}
use Rattle.deck_model.proofs.Seen.{is_row_name-shown}
use Rattle.deck_model.proofs.deck.Deck.has_row_name.Goals as goal

pub returns-then-eq : goal.returns-then-eq
returns-then-eq c =
    let d = c.args.self.now in
    let name = c.args.name.now in
    c.if-eq.true
    ∙ sym (is_row_name-shown c.self.inside d c.self.view_is name ∙ ap (λ b. b || is_some (find_row d name)) (sym c.eq.ensures ∙ c.if-eq.true))

pub returns-else-eq : goal.returns-else-eq
returns-else-eq c =
    let d = c.args.self.now in
    let name = c.args.name.now in
    c.is_some.ensures ∙ ap is_some c.find_row.ensures
    ∙ sym (is_row_name-shown c.self.inside d c.self.view_is name ∙ ap (λ b. b || is_some (find_row d name)) (sym c.eq.ensures ∙ c.if-eq.false))
