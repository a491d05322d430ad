-- Nothing is put in, or an entry.
use Rattle.std.proofs.Common.{refl}
use Rattle.sparse_steps.proofs.Steps.{apart}
use Rattle.markowitz_lu.proofs.Puts.{put-none, put-filled}
use Rattle.markowitz_lu.proofs.rows.fill.Goals as goal

pub returns-then-is_zero : goal.returns-then-is_zero
returns-then-is_zero c =
    put-none c.args.cross.now _ c.requires.matrix c.requires.no_zero c.args.i c.args.p c.args.x (c.is_zero.ensures.0 c.if-is_zero.true) c.requires.absent refl

pub returns : goal.returns
returns c =
    put-filled c.args.cross.now c.fill.new.self c.requires.matrix c.in_ok-fill.ensures.matrix c.requires.no_zero _ c.args.i c.args.p c.args.x
    (apart _ c.args.x c.is_zero.ensures c.if-is_zero.false) c.in_ok-fill.ensures.ok
