use Rattle.std.proofs.Common.{lit<, arith}
use Rattle.std.proofs.Math.Nat.{pow-le-pow_right}
use Rattle.number_fields.proofs.digits.with_zeros.Goals as goal

pub pow-requires : goal.pow-requires
pow-requires c = omega (arith, pow-le-pow_right {n = 10} (lit< tt) c.requires)
