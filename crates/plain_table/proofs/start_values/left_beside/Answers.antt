-- The difference is a start sum, so it fits.
use Rattle.std.proofs.Common.{ap₂, sym, subst}
use Rattle.rational.specs.Rational.{◌-ℚ◌}
use Rattle.rational.specs.Width.{FitsWidth}
use Rattle.plain_table.proofs.StartValues.{left_fits}
use Rattle.plain_table.proofs.start_values.left_beside.Goals as goal

pub unreachable-requires : goal.unreachable-requires
unreachable-requires g c =
    c.in-Err.ensures.answer
    (subst (λ v. FitsWidth (g.A.Arith.width c.args.arith.now) v) (sym (ap₂ (λ a b. a -ℚ b) c.requires.residual c.end_passed.ensures))
    (left_fits c.args.inst.now c.requires.well_formed c.args.row c.requires.row (g.A.Arith.width c.args.arith.now) c.args.side c.requires.side c.requires.fits))
