use Rattle.sparse_steps.proofs.Steps.{refused}
use Rattle.bland_ratio.proofs.Works.{found_range, no_lower, no_upper, unfit_range}
use Rattle.bland_ratio.proofs.quotients.own_limit.Goals as goal

pub returns-in_default-clause-settled : goal.returns-in_default-clause-settled
returns-in_default-clause-settled g c = no_lower _ c.args.bounds c.args.q c.in_default.ensures

pub returns-in_default-upper-clause-settled : goal.returns-in_default-upper-clause-settled
returns-in_default-upper-clause-settled g c = no_upper _ c.args.bounds c.args.q c.in-Some.lower c.in-Some.ensures c.in_default-upper.ensures

pub returns-clause-settled : goal.returns-clause-settled
returns-clause-settled g c = found_range _ c.args.bounds c.args.q c.in-Some.lower c.in-Some.ensures c.in-Some-upper.upper c.in-Some-upper.ensures c.in_ok-ratio.ratio c.in_ok-ratio.ensures.answer

pub returns-in_err-ratio-clause-settled : goal.returns-in_err-ratio-clause-settled
returns-in_err-ratio-clause-settled g c =
    refused _ _ _ (λ x. x) (unfit_range _ c.args.bounds c.args.q c.in-Some.lower c.in-Some.ensures c.in-Some-upper.upper c.in-Some-upper.ensures c.in_err-ratio.ensures.answer) c.from_residual.ensures.1
