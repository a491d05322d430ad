-- One Farkas row is the state's.
use Rattle.std.proofs.Common.{◌∙◌}
use Rattle.run_audit.proofs.Ending.{farkas_told, other_than_farkas}
use Rattle.run_audit.proofs.compare.is_farkas.Goals as goal

pub returns-in_default : goal.returns-in_default
returns-in_default c = other_than_farkas c.args.inst.now c.requires.table.0 c.args.table.now c.requires.table.1 c.requires.ends c.args.outcome.now c.in_default.not-Infeasible

pub returns : goal.returns
returns c =
    farkas_told c.args.inst.now c.requires.table.0 c.args.table.now c.requires.table.1 c.requires.ends c.args.outcome.now c.in-Infeasible.y c.as_slice.result.now c.deref.result.now
    c.same_numbers.result c.in-Infeasible.is c.as_slice.ensures (c.deref.ensures.value ∙ c.in_ok-prices.ensures) c.same_numbers.ensures
