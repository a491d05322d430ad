-- Where the start sums fit, the residual is worked.
use Rattle.std.proofs.Common.{◌≡◌, Option, Some, None}
use Rattle.rational.specs.Rational.{ℚ}
use Rattle.rational.specs.Worked.{settle}
use Rattle.lp_run.specs.Instance.{residual as residual_of}
use Rattle.plain_table.specs.Inner.Starts.{residual_work}
use Rattle.plain_table.proofs.Residuals.{residual_settles}
use Rattle.plain_table.proofs.start_values.fitting_residual.Goals as goal

some_apart : (a : ℚ) (o : Option ℚ) → o ≡ Some a → o ≡ None → ⊥
some_apart a o e n = cc

some_one : (a b : ℚ) (o : Option ℚ) → o ≡ Some a → o ≡ Some b → a ≡ b
some_one a b o e f = cc

pub unreachable-requires : goal.unreachable-requires
unreachable-requires g c =
    let w = g.A.Arith.width c.args.arith.now in
    some_apart (residual_of c.args.inst.now c.args.row) (settle w (residual_work c.args.inst.now c.args.row))
    (residual_settles w c.args.inst.now c.args.row c.requires.fits) c.in-Err.ensures.settled

pub returns-clause-residual : goal.returns-clause-residual
returns-clause-residual g c =
    let w = g.A.Arith.width c.args.arith.now in
    some_one c.in-Ok.residual (residual_of c.args.inst.now c.args.row) (settle w (residual_work c.args.inst.now c.args.row))
    c.in-Ok.ensures.settled (residual_settles w c.args.inst.now c.args.row c.requires.fits)
