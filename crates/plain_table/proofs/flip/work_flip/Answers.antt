-- The ratio test and the basic values are what the flip lists, and the table after it stands.
use Rattle.std.proofs.Common.{◌≤◌, ◌∙◌, arith}
use Rattle.std.proofs.lemmas.Result.{on_ok_weaker}
use Rattle.lp_run.specs.Instance.{row_count}
use Rattle.plain_table.specs.Inner.Steps.{parts_table}
use Rattle.plain_table.proofs.Steps.{flip_after, flip_decided, flip_judged, flip_refused}
use Rattle.plain_table.proofs.flip.work_flip.Goals as goal

pub find_motion-requires-clause-limited : goal.find_motion-requires-clause-limited
find_motion-requires-clause-limited g c κs within =
    flip_decided c.args.inst.now (parts_table c.args.parts.now) c.requires.next.0 c.requires.next.1 c.args.q c.requires.next.2

pub returns-in_err-motion-clause-listed : goal.returns-in_err-motion-clause-listed
returns-in_err-motion-clause-listed g c =
    flip_refused c.args.inst.now (parts_table c.args.parts.now) c.requires.next.0 c.requires.next.1 c.args.q c.requires.next.2
    _ _ c.from_residual.result c.in_err-motion.ensures.answer c.from_residual.ensures.1

pub returns-clause-listed : goal.returns-clause-listed
returns-clause-listed g c =
    let past : row_count c.args.inst.now ≤ c.rows.result = omega (arith, c.rows.ensures.count) in
    flip_judged c.args.inst.now (parts_table c.args.parts.now) c.requires.next.0 c.requires.next.1 c.args.q c.requires.next.2
    c.in_ok-motion.motion c.in_ok-motion.ensures.motion c.rows.result past c.in_ok-motion.motion.ratio c.find_motion.new.alpha c.find_motion.ensures.column
    _ _ c.move_values.result c.find_motion.ensures.width c.in_ok-motion.ensures.answer c.move_values.ensures.answer

pub returns-clause-stands : goal.returns-clause-stands
returns-clause-stands g c =
    let past : row_count c.args.inst.now ≤ c.rows.result = omega (arith, c.rows.ensures.count) in
    on_ok_weaker c.move_values.result
    (λ moves log stands. flip_after c.args.inst.now (parts_table c.args.parts.now) log stands c.args.q c.requires.next.2
    c.in_ok-motion.motion c.in_ok-motion.ensures.motion c.rows.result past c.in_ok-motion.motion.ratio c.find_motion.new.alpha c.find_motion.ensures.column
    c.rows.ensures.well_formed c.move_values.new.out (c.move_values.auto.out ∙ c.requires.spare) moves)
    c.move_values.ensures.moved
