-- The ratio test and the pivot are what the swap lists, and the table after it stands.
use Rattle.std.proofs.Common.{◌<◌, take, sym, ◌∙◌, subst}
use Rattle.plain_table.specs.Inner.Steps.{parts_table}
use Rattle.plain_table.proofs.Steps.{swap_after, swap_column, swap_decided, swap_element, swap_judged, swap_position, swap_refused}
use Rattle.plain_table.proofs.Tables.{if_ok_both}
use Rattle.plain_table.proofs.swap.work_entering.Goals as goal

pub find_motion-requires-clause-limited : goal.find_motion-requires-clause-limited
find_motion-requires-clause-limited g c κs within =
    let t = parts_table c.args.parts.now in
    swap_decided c.args.inst.now t c.requires.next.1.0 c.requires.next.1.1 c.args.q c.args.position c.requires.next.0 c.requires.next.1.2

pub returns-in_err-motion-clause-listed : goal.returns-in_err-motion-clause-listed
returns-in_err-motion-clause-listed g c =
    let t = parts_table c.args.parts.now in
    swap_refused c.args.inst.now t c.requires.next.1.0 c.requires.next.1.1 c.args.q c.args.position c.requires.next.0 c.requires.next.1.2 _ _ c.from_residual.result
    c.in_err-motion.ensures.answer c.from_residual.ensures.1

pub rest_of-requires-clause-column : goal.rest_of-requires-clause-column
rest_of-requires-clause-column g c =
    let t = parts_table c.args.parts.now in
    swap_column c.args.inst.now t c.requires.next.1.0 c.requires.next.1.1 c.args.q c.args.position c.requires.next.0 c.requires.next.1.2

pub rest_of-requires-clause-status : goal.rest_of-requires-clause-status
rest_of-requires-clause-status g c =
    let t = parts_table c.args.parts.now in
    subst (λ n. c.args.q < n) (sym c.requires.next.1.1.sized.statuses)
    (swap_column c.args.inst.now t c.requires.next.1.0 c.requires.next.1.1 c.args.q c.args.position c.requires.next.0 c.requires.next.1.2)

pub work_swap-requires-clause-column : goal.work_swap-requires-clause-column
work_swap-requires-clause-column g c κs within =
    let t = parts_table c.args.parts.now in
    subst (λ n. c.args.q < n) (sym c.requires.next.1.1.sized.costs)
    (swap_column c.args.inst.now t c.requires.next.1.0 c.requires.next.1.1 c.args.q c.args.position c.requires.next.0 c.requires.next.1.2)

pub work_swap-requires-clause-position : goal.work_swap-requires-clause-position
work_swap-requires-clause-position g c κs within =
    let t = parts_table c.args.parts.now in
    subst (λ n. c.args.position < n) (sym c.requires.next.1.1.sized.rows)
    (swap_position c.args.inst.now t c.requires.next.1.0 c.requires.next.1.1 c.args.q c.args.position c.requires.next.0 c.requires.next.1.2)

pub work_swap-requires-clause-element : goal.work_swap-requires-clause-element
work_swap-requires-clause-element g c κs within =
    let t = parts_table c.args.parts.now in
    swap_element c.args.inst.now t c.requires.next.1.0 c.requires.next.1.1 c.args.q c.args.position c.requires.next.0 c.requires.next.1.2 c.rows-positions.ensures.well_formed

pub returns-clause-listed : goal.returns-clause-listed
returns-clause-listed g c =
    let t = parts_table c.args.parts.now in
    swap_judged c.args.inst.now t c.requires.next.1.0 c.requires.next.1.1 c.args.q c.args.position c.requires.next.0 c.requires.next.1.2
    c.in_ok-motion.motion c.in_ok-motion.ensures.motion c.rest_of.result c.rest_of.ensures c.find_motion.new.alpha c.find_motion.ensures.column
    _ _ c.work_swap.result c.find_motion.ensures.width c.in_ok-motion.ensures.answer c.work_swap.ensures.answer

pub returns-clause-stands : goal.returns-clause-stands
returns-clause-stands g c =
    let t = parts_table c.args.parts.now in
    if_ok_both c.work_swap.result _ _ _ c.work_swap.ensures.line c.work_swap.ensures.pivoted
    (λ count line pivots end new next many broad taken log stands. swap_after c.args.inst.now t log stands c.args.q c.args.position end next
    c.in_ok-motion.motion c.in_ok-motion.ensures.motion c.rest_of.result c.rest_of.ensures c.find_motion.new.alpha c.find_motion.ensures.column
    c.rows-positions.ensures.well_formed c.work_swap.new.by (take count c.work_swap.new.support) c.work_swap.new.out_rows new c.work_swap.new.out_values c.work_swap.new.out_costs line
    (c.work_swap.auto.out_values ∙ c.requires.spare_values ∙ stands.sized.rows ∙ sym stands.sized.values) (c.work_swap.auto.out_costs ∙ c.requires.spare_costs) many broad taken pivots)
