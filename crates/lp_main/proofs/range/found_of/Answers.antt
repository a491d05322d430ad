-- The run ends at an optimum, and its ranges are told.
use Rattle.std.proofs.Common.{◌≡◌, Some, ap, subst}
use Rattle.lp_model.specs.Outcome.{optimal}
use Rattle.deck_model.specs.Outcome.{outcome_of}
use Rattle.lp_text.specs.Report.{Report}
use Rattle.lp_main.proofs.Ranging.{ranges_found, solved_by}
use Rattle.lp_main.proofs.range.found_of.Goals as goal

pub ranges_of-requires-clause-optimum : goal.ranges_of-requires-clause-optimum
ranges_of-requires-clause-optimum g c κs within =
    let x = c.in-Optimal.x in
    let y = c.in-Optimal.y in
    let v = c.in-Optimal.objective in
    let log = c.own_log.result.now in (
      x,
      y,
      v,
      solved_by c.args.deck.now c.in_ok-report.report c.in_ok-report.ensures.report log (subst (λ (r : Report). Some log ≡ r.log) c.report.view_is c.own_log.ensures) (optimal x y v)
          (subst (λ (r : Report). r.outcome ≡ optimal x y v) c.report.view_is (ap outcome_of c.in-Optimal.is)),
    )

pub returns-in-Optimal-clause-found : goal.returns-in-Optimal-clause-found
returns-in-Optimal-clause-found g c =
    let x = c.in-Optimal.x in
    let y = c.in-Optimal.y in
    let v = c.in-Optimal.objective in
    let log = c.own_log.result.now in
    ranges_found c.args.deck.now c.in_ok-report.report c.in_ok-report.ensures.report c.rows-rows.ensures.deck x y v
    (subst (λ (r : Report). r.outcome ≡ optimal x y v) c.report.view_is (ap outcome_of c.in-Optimal.is)) log
    (subst (λ (r : Report). Some log ≡ r.log) c.report.view_is c.own_log.ensures) c.in_ok-found-in-Optimal.found c.in_ok-found-in-Optimal.ensures.ranges
