use Rattle.std.proofs.Common.{◌++◌, true, set, sym, ap, subst, ◌∙◌, rules}
use Rattle.ft_update.specs.Inner.Flagged.{AreFlagged}
use Rattle.ft_update.proofs.Flagging.{flagged_more, still}
use Rattle.ft_update.proofs.Stored.{stored-none, stored-some, tested-true, tested-false}
use Rattle.ft_update.proofs.multipliers.keep.Goals as goal

pub returns-then-not-is_zero-clause-kept : goal.returns-then-not-is_zero-clause-kept
returns-then-not-is_zero-clause-kept c =
    c.push_reserved.ensures.items
    ∙ ap (λ ps. c.args.taken.now.items ++ ps) (sym (stored-some c.args.row c.args.k (tested-false c.is_zero.result c.args.k c.is_zero.ensures (search rules))))

pub returns-else-not-is_zero-clause-kept : goal.returns-else-not-is_zero-clause-kept
returns-else-not-is_zero-clause-kept c =
    sym (stored-none c.args.row c.args.k c.args.taken.now.items (tested-true c.is_zero.result c.args.k c.is_zero.ensures (search rules)))

pub returns-then-not-is_zero-clause-flagged : goal.returns-then-not-is_zero-clause-flagged
returns-then-not-is_zero-clause-flagged c flagged =
    let flags = c.args.flags.now in
    subst (AreFlagged (set flags c.args.row true)) (sym c.push_reserved.ensures.items)
    (flagged_more flags c.args.row c.requires.row c.args.taken.now.items c.args.k flagged)

pub returns-then-not-is_zero-clause-still : goal.returns-then-not-is_zero-clause-still
returns-then-not-is_zero-clause-still c i flagged = still c.args.flags.now c.args.row c.requires.row i flagged
