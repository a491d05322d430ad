use Rattle.std.proofs.Common.{Ok, Err, ◌∙◌}
use Rattle.cert_check.proofs.Walking.{handed_on, judged-alone, stops, walk-then}
use Rattle.cert_check.proofs.checking.endless.Goals as goal

pub returns-in_err-point-clause-first : goal.returns-in_err-point-clause-first
returns-in_err-point-clause-first g c =
    handed_on _ c.from_residual.result c.in_err-point.field-0.0 (stops _ _ _ _ (stops _ _ _ _ (stops _ _ _ _ c.in_err-point.ensures.first))) c.from_residual.ensures.1

pub returns-in_err-each-clause-first : goal.returns-in_err-each-clause-first
returns-in_err-each-clause-first g c =
    handed_on _ c.from_residual-in_err-each.result c.in_err-each.field-0.0
    (stops _ _ _ _ (stops _ _ _ _ (walk-then _ _ _ _ c.point.ensures.width c.in_ok-point.ensures.first
    (Err c.in_err-each.field-0.0) c.in_err-each.ensures.first))) c.from_residual-in_err-each.ensures.1

pub returns-in_err-each-2-clause-first : goal.returns-in_err-each-2-clause-first
returns-in_err-each-2-clause-first g c =
    handed_on _ c.from_residual-in_err-each-2.result c.in_err-each-2.field-0.0
    (stops _ _ _ _ (walk-then _ _ _ _ (c.each.ensures.width ∙ c.point.ensures.width)
    (walk-then _ _ _ _ c.point.ensures.width c.in_ok-point.ensures.first (Ok tt) c.in_ok-each.ensures.first)
    (Err c.in_err-each-2.field-0.0) c.in_err-each-2.ensures.first)) c.from_residual-in_err-each-2.ensures.1

pub returns-clause-first : goal.returns-clause-first
returns-clause-first g c =
    walk-then _ _ _ _ (c.each-2.ensures.width ∙ (c.each.ensures.width ∙ c.point.ensures.width))
    (walk-then _ _ _ _ (c.each.ensures.width ∙ c.point.ensures.width)
    (walk-then _ _ _ _ c.point.ensures.width c.in_ok-point.ensures.first (Ok tt) c.in_ok-each.ensures.first) (Ok tt) c.in_ok-each-2.ensures.first)
    c.judge.result (judged-alone _ _ _ c.ray_cost.result c.judge.result c.judge.ensures c.ray_cost.ensures.settled)
