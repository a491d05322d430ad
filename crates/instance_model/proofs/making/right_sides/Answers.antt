use Rattle.std.proofs.Common.{[], ◌∷◌, ◌++◌, ◌∙◌, ap₂, arith}
use Rattle.lp_model.specs.Deck.{Row, no_row}
use Rattle.instance_model.proofs.Lists.{map_all, map_more}
use Rattle.instance_model.proofs.making.right_sides.Goals as goal

pub loop-row-preserved : goal.loop-row-preserved
loop-row-preserved c =
    let rows = c.args.deck.now.rows in
    c.in_ok-push.ensures.items ∙ ap₂ (λ xs x. xs ++ x ∷ []) c.loop-row.invariant c.right.ensures
    ∙ map_more (λ (r : Row). r.right) rows c.loop-row.row no_row (omega (arith, c.rows-row-end.ensures.count))

pub returns-clause-items : goal.returns-clause-items
returns-clause-items c = c.loop-row.invariant ∙ map_all (λ (r : Row). r.right) c.args.deck.now.rows c.loop-row.row (omega (arith, c.rows-row-end.ensures.count))
