-- Ratios that differ say which limit comes first; at equal ones the columns do.
use Rattle.std.proofs.Common.{inl, sym}
use Rattle.rational.proofs.OrderLaws.{cmp_equal, cmp_greater, cmp_less}
use Rattle.bland_ratio.specs.Inner.Limits.{limit_of}
use Rattle.bland_ratio.proofs.Least.{ties}
use Rattle.bland_ratio.proofs.limits.precedes.Goals as goal

pub returns-in-Less : goal.returns-in-Less
returns-in-Less c = λ q. inl (cmp_less _ _ (sym c.in-Less.ensures))

pub returns-in-Equal : goal.returns-in-Equal
returns-in-Equal c = λ q. ties (limit_of q c.args.a.now) (limit_of q c.args.b.now) (cmp_equal _ _ (sym c.in-Equal.ensures))

pub returns-in-Greater : goal.returns-in-Greater
returns-in-Greater c = λ q. inl (cmp_greater _ _ (sym c.in-Greater.ensures))
