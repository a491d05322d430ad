-- Each step judges the next item.
use Rattle.std.proofs.Common.{◌≡◌, sym, ◌∙◌, ap, subst}
use Rattle.exact_frac.specs.Settles.{Settles}
use Rattle.cert_check.specs.Inner.Groups.{FirstIs, item_of, rule_of, stopped, sums_of, unfit_by}
use Rattle.cert_check.specs.Walk.{stop_at}
use Rattle.cert_check.proofs.Walking.{counted, handed_on, item-passes, item-stops, judged}
use Rattle.cert_check.proofs.walk.look.Goals as goal

pub returns-in_err-judge-clause-first : goal.returns-in_err-judge-clause-first
returns-in_err-judge-clause-first g c =
    let claim = c.args.claim.now in
    let d = claim.deck.now in
    let w = g.A.Arith.width c.args.arith.now in
    let k = c.loop-k.k in
    let sums = sums_of claim.group d claim.x.now claim.y.now k in
    let settled = subst (λ u. Settles u sums c.sums_of-sums.result) c.loop-k.invariant.width c.sums_of-sums.ensures.settled in
    let said = judged w (rule_of claim.group k) sums c.sums_of-sums.result settled in
    let is = ap (λ r. stopped r c.sums_of-sums.result) (sym c.rule_of.ensures) ∙ sym c.judge.ensures ∙ c.in_err-judge.was in
    let stop : stop_at w (item_of claim.group d claim.x.now claim.y.now k) ≡ _ = subst (FirstIs (stop_at w (item_of claim.group d claim.x.now claim.y.now k))) is said in
    handed_on _ c.from_residual.result c.in_err-judge.field-0.0 (item-stops (item_of claim.group d claim.x.now claim.y.now) k c.args.to w c.loop-k-test.true
    _ c.loop-k.invariant.left _ stop) c.from_residual.ensures.1

pub loop-k-preserved : goal.loop-k-preserved
loop-k-preserved g c =
    let claim = c.args.claim.now in
    let d = claim.deck.now in
    let w = g.A.Arith.width c.args.arith.now in
    let k = c.loop-k.k in
    let sums = sums_of claim.group d claim.x.now claim.y.now k in
    let settled = subst (λ u. Settles u sums c.sums_of-sums.result) c.loop-k.invariant.width c.sums_of-sums.ensures.settled in
    let said = judged w (rule_of claim.group k) sums c.sums_of-sums.result settled in
    let is = ap (λ r. stopped r c.sums_of-sums.result) (sym c.rule_of.ensures) ∙ sym c.judge.ensures ∙ c.in_ok-judge.was in
    let passed = subst (FirstIs (stop_at w (item_of claim.group d claim.x.now claim.y.now k))) is said in
    record {
      width = c.sums_of-sums.ensures.width ∙ c.loop-k.invariant.width;
      left = item-passes (item_of claim.group d claim.x.now claim.y.now) k c.args.to w c.loop-k-test.true _ c.loop-k.invariant.left passed;
      unfit = c.sums_of-sums.ensures.unfit
          ∙ counted (g.A.Arith.unfit_count c.loop-k.arith) (rule_of claim.group k) c.sums_of-sums.result ∙ ap (unfit_by (g.A.Arith.unfit_count c.loop-k.arith)) is ∙ c.loop-k.invariant.unfit;
    }
