-- The flag's leaf alone changes among the leaves.
use Rattle.std.proofs.Common.{Bool, List, set, ap, ◌∙◌}
use Rattle.std.proofs.lemmas.List.{drop-set-add}
use Rattle.flag_tree.proofs.FlagTree.set.Goals as goal

pub returns : goal.returns
returns c =
    c.join_above.ensures.flags ∙ drop-set-add c.self.inside.leaves c.self.inside.nodes.items c.args.i c.args.value ∙ ap (λ (flags : List Bool). set flags c.args.i c.args.value) c.self.view_is
