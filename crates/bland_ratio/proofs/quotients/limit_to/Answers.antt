-- The distance, and then its quotient.
use Rattle.std.proofs.Common.{sym, ◌∙◌}
use Rattle.sparse_steps.proofs.Steps.{refused}
use Rattle.bland_ratio.proofs.Works.{found_limit, no_end, size_apart, unfit_distance, unfit_quotient}
use Rattle.bland_ratio.proofs.quotients.limit_to.Goals as goal

pub returns-in_default-clause-settled : goal.returns-in_default-clause-settled
returns-in_default-clause-settled g c = no_end _ _ _ _ _ _ c.in_default.is

pub div-requires : goal.div-requires
div-requires g c = λ e. size_apart c.args.alpha c.requires (sym c.abs.ensures ∙ e)

pub returns-clause-settled : goal.returns-clause-settled
returns-clause-settled g c = found_limit _ _ c.args.value c.args.alpha c.args.column c.args.position c.in-Some.ahead c.in-Some.is _
    c.distance.ensures.width c.in_ok-distance.distance c.abs.result c.in_ok-distance.ensures.answer c.abs.ensures c.in_ok-ratio.ratio c.in_ok-ratio.ensures.answer

pub returns-in_err-ratio-clause-settled : goal.returns-in_err-ratio-clause-settled
returns-in_err-ratio-clause-settled g c =
    refused _ _ _ (λ x. x)
    (unfit_quotient _ _ c.args.value c.args.alpha c.args.column c.args.position c.in-Some.ahead c.in-Some.is _
    c.distance.ensures.width c.in_ok-distance.distance c.abs.result c.in_ok-distance.ensures.answer c.abs.ensures c.in_err-ratio.ensures.answer) c.from_residual-in_err-ratio.ensures.1

pub returns-in_err-distance-clause-settled : goal.returns-in_err-distance-clause-settled
returns-in_err-distance-clause-settled g c =
    refused _ _ _ (λ x. x)
    (unfit_distance _ _ c.args.value c.args.alpha c.args.column c.args.position c.in-Some.ahead c.in-Some.is c.in_err-distance.ensures.answer) c.from_residual.ensures.1
