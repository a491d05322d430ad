-- The root says whether a flag is set.
use Rattle.std.proofs.Common.{◌<◌, length, false, sym, ◌∙◌, subst, arith}
use Rattle.std.proofs.lemmas.List.{get_or_read}
use Rattle.flag_tree.specs.Flags.{NoneSet}
use Rattle.flag_tree.proofs.Joins.{pow_positive, NoneSet-root}
use Rattle.flag_tree.proofs.FlagTree.first.Goals as goal

pub returns-else-index-clause-first : goal.returns-else-index-clause-first
returns-else-index-clause-first c =
    let tree = c.self.invariant in
    let nodes = c.self.inside.nodes.items in
    let within : 1 < length nodes = omega (arith, tree.len, tree.leaves_are, pow_positive c.self.inside.height) in
    subst NoneSet c.self.view_is (NoneSet-root nodes c.self.inside.leaves tree.joined tree.len
    (omega (arith, tree.leaves_are, pow_positive c.self.inside.height)) (sym (get_or_read nodes 1 c.index.result.now within c.index.ensures false)
    ∙ c.if-index.false))
