use Rattle.std.proofs.Common.{Some, ap, refl, ◌∙◌}
use Rattle.lp_model.specs.Edit.{with_range}
use Rattle.deck_model.proofs.Sound.{row_changed, deck_of-row_changed}
use Rattle.deck_model.proofs.deck.Deck.set_range.Goals as goal

pub invariant_of-self : goal.invariant_of-self
invariant_of-self c = row_changed c.self.inside c.self.invariant c.args.row (record c.index_mut.result.now { range = Some c.args.value })

pub returns : goal.returns
returns c =
    deck_of-row_changed c.self.inside (λ r. record r { range = Some c.args.value }) c.args.row c.index_mut.result.now (record c.index_mut.result.now { range = Some c.args.value }) c.index_mut.ensures.value (λ k. refl)
    ∙ ap (λ d. with_range d c.args.row c.args.value) c.self.view_is
