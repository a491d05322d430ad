use Rattle.std.proofs.Common.{◌∙◌, ap₂}
use Rattle.lp_model.specs.Edit.{with_right}
use Rattle.deck_tools.proofs.Built.{row_built}
use Rattle.deck_tools.proofs.making.add_row.Goals as goal

pub returns-in-Ok : goal.returns-in-Ok
returns-in-Ok c =
    let d = c.args.deck.now in
    c.set_right.ensures ∙ ap₂ (λ x i. with_right x i c.args.right) c.in-Ok.ensures.ok c.in-Ok.ensures.index ∙ row_built d c.args.name c.args.kind c.args.right
