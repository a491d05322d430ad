use Rattle.std.proofs.Common.{[], ◌∷◌, ◌++◌, ◌∙◌, ap₂, arith}
use Rattle.lp_model.specs.Deck.{logical_bounds, no_row}
use Rattle.instance_model.proofs.Lists.{map_all, map_more}
use Rattle.instance_model.proofs.making.logicals.Goals as goal

pub loop-row-preserved : goal.loop-row-preserved
loop-row-preserved c =
    let rows = c.args.deck.now.rows in
    c.in_ok-push.ensures.items ∙ ap₂ (λ xs x. xs ++ x ∷ []) c.loop-row.invariant c.logical_bounds.ensures
    ∙ map_more logical_bounds rows c.loop-row.row no_row (omega (arith, c.rows-row-end.ensures.count))

pub returns : goal.returns
returns c = c.loop-row.invariant ∙ map_all logical_bounds c.args.deck.now.rows c.loop-row.row (omega (arith, c.rows-row-end.ensures.count))
