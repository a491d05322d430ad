-- Each step looks at the next pair of the column.
use Rattle.std.proofs.Common.{◌<◌, length, sym, ◌∙◌, arith}
use Rattle.sparse_steps.proofs.Steps.{row_within}
use Rattle.upper_form.proofs.Flagging.{meets_here, meets_later}
use Rattle.upper_form.proofs.meets.Goals as goal

pub bounds-flags-i : goal.bounds-flags-i
bounds-flags-i c =
    let pairs = c.args.column.now.pairs in
    omega (arith, row_within (length c.args.flags.now) pairs c.loop-k.k c.pair-i.result c.requires (omega arith) c.pair-i.ensures.value)

pub returns-then-flagged : goal.returns-then-flagged
returns-then-flagged c =
    let pairs = c.args.column.now.pairs in
    let lt : c.loop-k.k < length pairs = omega arith in
    sym (meets_here c.args.flags.now pairs c.loop-k.k c.pair-i.result lt c.pair-i.ensures.value c.if-flagged.true) ∙ c.loop-k.invariant

pub loop-k-preserved : goal.loop-k-preserved
loop-k-preserved c =
    let pairs = c.args.column.now.pairs in
    let lt : c.loop-k.k < length pairs = omega arith in
    sym (meets_later c.args.flags.now pairs c.loop-k.k c.pair-i.result lt c.pair-i.ensures.value c.if-flagged.false) ∙ c.loop-k.invariant
