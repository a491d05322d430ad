use Rattle.std.proofs.Common.{[], ◌∷◌, ◌++◌, length, ◌∙◌, ap₂, arith}
use Rattle.lp_model.specs.Deck.{no_column}
use Rattle.instance_model.specs.Inner.Starts.{part_of}
use Rattle.instance_model.proofs.Lists.{map_all, map_more}
use Rattle.instance_model.proofs.making.structurals.Goals as goal

pub loop-column-preserved : goal.loop-column-preserved
loop-column-preserved c =
    let d = c.args.deck.now in
    c.in_ok-push.ensures.items ∙ ap₂ (λ xs x. xs ++ x ∷ []) c.loop-column.invariant c.in_ok-structural.ensures
    ∙ map_more (part_of (length d.rows)) d.columns c.loop-column.column no_column (omega (arith, c.columns-column-end.ensures.count))

pub returns-clause-items : goal.returns-clause-items
returns-clause-items c =
    let d = c.args.deck.now in
    c.loop-column.invariant ∙ map_all (part_of (length d.rows)) d.columns c.loop-column.column (omega (arith, c.columns-column-end.ensures.count))
