-- The entry goes, or gets its value.
use Rattle.sparse_steps.proofs.Steps.{apart}
use Rattle.markowitz_lu.proofs.Puts.{put-cancelled, put-set}
use Rattle.markowitz_lu.proofs.rows.replace.Goals as goal

pub returns-then-is_zero : goal.returns-then-is_zero
returns-then-is_zero c =
    put-cancelled c.args.cross.now c.cancel.new.self c.requires.matrix c.cancel.ensures.matrix c.requires.no_zero c.args.link c.args.x c.requires.link
    (c.is_zero.ensures.0 c.if-is_zero.true) c.cancel.ensures.cancelled

pub returns-else-is_zero : goal.returns-else-is_zero
returns-else-is_zero c =
    put-set c.args.cross.now c.set.new.self c.requires.matrix c.set.ensures.matrix c.requires.no_zero c.args.link c.args.x c.requires.link
    (apart _ c.args.x c.is_zero.ensures c.if-is_zero.false) c.set.ensures.set
