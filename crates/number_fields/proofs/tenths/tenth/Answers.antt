use Rattle.std.proofs.Common.{arith}
use Rattle.number_fields.proofs.TenthLemmas.{common_pos, quotient_pos, fine_here, proper_here, cross_here, above_fits, first_fits}
use Rattle.number_fields.proofs.tenths.tenth.Goals as goal

pub nonzero_div-left : goal.nonzero_div-left
nonzero_div-left c = common_pos c.args.digit c.args.numer c.args.denom c.requires.proper _ c.shared-common.ensures

pub nonzero_div-left-2 : goal.nonzero_div-left-2
nonzero_div-left-2 c = quotient_pos c.args.digit c.args.numer c.args.denom c.requires.proper _ c.shared-common.ensures

pub returns-then-denom-left : goal.returns-then-denom-left
returns-then-denom-left c = fine_here c.args.digit c.args.numer c.args.denom c.requires.proper _ c.shared-common.ensures c.if-denom-left.true

pub overflow_mul-above-2 : goal.overflow_mul-above-2
overflow_mul-above-2 c = record { fits = omega (arith, first_fits c.args.digit c.args.numer c.args.denom c.requires.proper _ c.shared-common.ensures c.requires.digit c.if-denom-left.false) }

pub overflow_add-above-2 : goal.overflow_add-above-2
overflow_add-above-2 c = record { fits = omega (arith, above_fits c.args.digit c.args.numer c.args.denom c.requires.proper _ c.shared-common.ensures c.requires.digit c.if-denom-left.false) }

pub returns : goal.returns
returns c = (
  cross_here c.args.digit c.args.numer c.args.denom c.requires.proper _ c.shared-common.ensures,
  proper_here c.args.digit c.args.numer c.args.denom c.requires.proper _ c.shared-common.ensures c.requires.digit c.if-denom-left.false,
)
