-- Each step judges the next column.
use Rattle.std.proofs.Common.{◌<◌, length, sym, ◌∙◌, ap, subst, arith}
use Rattle.exact_frac.specs.Settles.{Settles}
use Rattle.cert_check.specs.declared.verdict.Rule.TheVariants as rule
use Rattle.cert_check.specs.Inner.Groups.{FirstIs, basic_by, unfit_by}
use Rattle.cert_check.specs.Walk.{stop_at}
use Rattle.cert_check.proofs.Walking.{counted, handed_on, item-passes, item-stops, item_by, judged}
use Rattle.cert_check.proofs.bases.basics.Goals as goal

pub returns-in_err-judge-clause-first : goal.returns-in_err-judge-clause-first
returns-in_err-judge-clause-first g c =
    let d = c.args.deck.now in
    let w = g.A.Arith.width c.args.arith.now in
    let j = c.loop-j.j in
    let lt : j < length d.columns = omega (arith, c.columns-j-end.ensures.count) in
    let sums = basic_by c.args.priced d c.args.basic.now c.args.y.now in
    let settled = subst (λ u. Settles u (sums j) c.costs_nothing-sums.result) c.loop-j.invariant.width c.costs_nothing-sums.ensures.settled in
    let said = judged w (rule.Basic j) (sums j) c.costs_nothing-sums.result settled in
    let stop = subst (FirstIs (stop_at w (item_by rule.Basic sums j))) (sym c.judge.ensures ∙ c.in_err-judge.was) said in
    handed_on _ c.from_residual.result c.in_err-judge.field-0.0 (item-stops (item_by rule.Basic sums) j (length d.columns) w lt _ c.loop-j.invariant.left _ stop) c.from_residual.ensures.1

pub loop-j-preserved : goal.loop-j-preserved
loop-j-preserved g c =
    let d = c.args.deck.now in
    let w = g.A.Arith.width c.args.arith.now in
    let j = c.loop-j.j in
    let lt : j < length d.columns = omega (arith, c.columns-j-end.ensures.count) in
    let sums = basic_by c.args.priced d c.args.basic.now c.args.y.now in
    let settled = subst (λ u. Settles u (sums j) c.costs_nothing-sums.result) c.loop-j.invariant.width c.costs_nothing-sums.ensures.settled in
    let said = judged w (rule.Basic j) (sums j) c.costs_nothing-sums.result settled in
    let is = sym c.judge.ensures ∙ c.in_ok-judge.was in
    let passed = subst (FirstIs (stop_at w (item_by rule.Basic sums j))) is said in
    record {
      width = c.costs_nothing-sums.ensures.width ∙ c.loop-j.invariant.width;
      left = item-passes (item_by rule.Basic sums) j (length d.columns) w lt _ c.loop-j.invariant.left passed;
      unfit = c.costs_nothing-sums.ensures.unfit
          ∙ counted (g.A.Arith.unfit_count c.loop-j.arith) (rule.Basic j) c.costs_nothing-sums.result ∙ ap (unfit_by (g.A.Arith.unfit_count c.loop-j.arith)) is ∙ c.loop-j.invariant.unfit;
    }
