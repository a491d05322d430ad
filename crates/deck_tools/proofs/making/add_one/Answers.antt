use Rattle.std.proofs.Common.{◌∙◌, ap}
use Rattle.lp_model.specs.Edit.{with_entry}
use Rattle.exact_frac.specs.Constants.{ratio-one}
use Rattle.deck_tools.proofs.making.add_one.Goals as goal

pub returns-in-Ok : goal.returns-in-Ok
returns-in-Ok c = c.in-Ok.ensures.ok ∙ ap (λ v. with_entry c.args.deck.now c.args.column c.args.row v) (c.whole.ensures ∙ ratio-one)
