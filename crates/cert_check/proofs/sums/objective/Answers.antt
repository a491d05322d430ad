use Rattle.std.proofs.Common.{◌∙◌, ap}
use Rattle.rational.specs.Rational.{ℚ}
use Rattle.rational.specs.Worked.{work}
use Rattle.exact_frac.proofs.Working.{settles-exact}
use Rattle.cert_check.specs.Sums.{added, cost_terms}
use Rattle.cert_check.proofs.Adding.{starts-alone, starts-sum}
use Rattle.cert_check.proofs.Values.{settles-like}
use Rattle.cert_check.proofs.sums.objective.Goals as goal

pub returns-then-has_no_cost-clause-settled : goal.returns-then-has_no_cost-clause-settled
returns-then-has_no_cost-clause-settled g c =
    let d = c.args.deck.now in
    let terms = cost_terms d c.args.x.now in
    settles-like _ (work c.constant.result) _ c.fit.result (ap work c.constant.ensures
    ∙ starts-alone d.constant terms (added d.constant terms) c.has_no_cost.result c.has_no_cost.ensures c.if-has_no_cost.true)
    (settles-exact _ c.constant.result c.fit.result c.fit.ensures.answer)

pub returns-clause-settled : goal.returns-clause-settled
returns-clause-settled g c =
    let d = c.args.deck.now in
    let terms = cost_terms d c.args.x.now in
    settles-like _ _ _ c.costs.result
    (ap (λ (s : ℚ). added s terms) c.constant-2.ensures ∙ starts-sum d.constant terms
    (added d.constant terms) c.has_no_cost.result c.has_no_cost.ensures c.if-has_no_cost.false) c.costs.ensures.settled
