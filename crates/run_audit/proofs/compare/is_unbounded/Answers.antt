-- One point with one ray is the state's.
use Rattle.std.proofs.Common.{sym, ◌∙◌}
use Rattle.run_audit.proofs.Ending.{mapped, other_than_ray, ray_refuted, ray_told}
use Rattle.run_audit.proofs.compare.is_unbounded.Goals as goal

pub returns-in_default : goal.returns-in_default
returns-in_default c = other_than_ray c.args.inst.now c.requires.table.0 c.args.table.now c.requires.table.1 c.args.q c.requires.ends c.args.outcome.now c.in_default.not-Unbounded

pub returns-then-not-branch : goal.returns-then-not-branch
returns-then-not-branch c =
    ray_refuted c.args.inst.now c.requires.table.0 c.args.table.now c.requires.table.1 c.args.q c.requires.ends c.args.outcome.now c.in-Unbounded.x c.in-Unbounded.ray c.as_slice.result.now
    c.in_ok-is_ray.field-0 c.in-Unbounded.is c.as_slice.ensures c.in_ok-is_ray.ensures c.if-not-branch.true

pub returns : goal.returns
returns c =
    mapped c.is_point.result _ _ c.is_point.ensures
    (λ s h. ray_told c.args.inst.now c.requires.table.0 c.args.table.now c.requires.table.1 c.args.q c.requires.ends c.args.outcome.now c.in-Unbounded.x c.in-Unbounded.ray c.as_slice-2.result.now s
    c.in-Unbounded.is c.as_slice-2.ensures (sym c.as_slice.ensures ∙ c.in_ok-is_ray.ensures.0 c.if-not-branch.false) h)
