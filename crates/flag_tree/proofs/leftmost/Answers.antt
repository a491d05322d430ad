-- A node before the next one stands below one before node k, or is the left one below it.
use Rattle.std.proofs.Common.{◌≡◌, ◌+◌, ◌*◌, ◌^◌, ◌<◌, ◌⊎◌, inl, inr, true, false, ap, ◌∙◌, arith}
use Rattle.flag_tree.specs.Flags.{is_set}
use Rattle.flag_tree.proofs.Joins.{level_doubles, level_below, pow_positive, first_below, right_set}
use Rattle.flag_tree.proofs.leftmost.Goals as goal
use Rattle.flag_tree.proofs.leftmost.Goals.{then-nodes-k, else-nodes-k}

pub bounds-nodes-k : goal.bounds-nodes-k
bounds-nodes-k c = omega (arith, c.requires.tree.len, c.loop-level.invariant.below, level_below c.args.height c.loop-level.level (omega arith))

pub loop-level-preserved : goal.loop-level-preserved
loop-level-preserved c =
    let k = c.loop-level.k in
    let level = c.loop-level.level in
    let next = c.if-nodes-k.k in
    let nodes = c.args.nodes.now in
    let inv = c.loop-level.invariant in
    let tree = c.requires.tree in
    let twice = level_doubles level in
    let some = pow_positive level in
    let inner : k < 2 ^ c.args.height = omega (arith, inv.below, level_below c.args.height level (omega arith)) in
    let set : is_set nodes next ≡ true = elim c.if-nodes-k.branch [
      | then-nodes-k w ↦ ap (is_set nodes) w.k-is
          ∙ w.if-nodes-k.true
      | else-nodes-k w ↦ ap (is_set nodes) w.k-is ∙ right_set nodes (2 ^ c.args.height) tree.joined k
          (omega (arith, inv.from)) inner inv.set w.if-nodes-k.false
    ] in
    let which : (next ≡ 2 * k) ⊎ ((next ≡ 2 * k + 1) × (is_set nodes (2 * k) ≡ false)) = elim c.if-nodes-k.branch [ then-nodes-k w ↦ inl w.k-is | else-nodes-k w ↦ inr (w.k-is, w.if-nodes-k.false) ] in
    record {
      from = omega (arith, twice, inv.from);
      below = omega (arith, twice, inv.below);
      set = set;
      first = λ j le lt. first_below nodes (2 ^ c.args.height) tree.joined (2 ^ level) k next j some inner inv.first which (omega (arith, twice)) lt;
    }
