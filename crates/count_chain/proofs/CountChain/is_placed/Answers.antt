-- An item of no list is linked to itself, and no other item is.
use Rattle.std.proofs.Common.{sym, ◌∙◌}
use Rattle.std.proofs.lemmas.Bool.{eqb-false, ne_eqb, not-true, not_from_false}
use Rattle.count_chain.proofs.ChainsOf.{other_says, placed_says}
use Rattle.count_chain.proofs.CountChain.is_placed.Goals as goal

pub returns : goal.returns
returns c =
    let l = c.self.inside.links in
    let items = c.self.inside.items in
    let counts = c.self.inside.counts in (
      λ yes. other_says l items counts c.args.i _ c.self.invariant c.self.view_is c.requires (λ own. eqb-false _ _ (not-true _ yes) (c.next.ensures ∙ own)),
      λ held. not_from_false _ (ne_eqb _ _ (λ own. placed_says l items counts c.args.i _ c.self.invariant c.self.view_is held (sym c.next.ensures ∙ own))),
    )
