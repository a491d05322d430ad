use Rattle.cert_check.proofs.Walking.{handed_on, stops, walk-then}
use Rattle.cert_check.proofs.checking.point.Goals as goal

pub returns-in_err-each-clause-first : goal.returns-in_err-each-clause-first
returns-in_err-each-clause-first g c = handed_on _ c.from_residual.result c.in_err-each.field-0.0 (stops _ _ _ _ c.in_err-each.ensures.first) c.from_residual.ensures.1

pub returns-clause-first : goal.returns-clause-first
returns-clause-first g c = walk-then _ _ _ _ c.each.ensures.width c.in_ok-each.ensures.first c.each-2.result c.each-2.ensures.first
