use Rattle.std.proofs.Common.{Some, sym, ◌∙◌, ap}
use Rattle.lp_model.specs.Deck.{between}
use Rattle.rational.specs.Rational.{◌+ℚ◌}
use Rattle.sparse_steps.proofs.Steps.{refused}
use Rattle.cert_check.proofs.Values.{one_unfit, one_value}
use Rattle.cert_check.proofs.ends.span_above.Goals as goal

pub returns-clause-settled : goal.returns-clause-settled
returns-clause-settled g c =
    one_value _ (c.args.b +ℚ c.args.r) _ c.in_ok-upper.ensures.answer.1 ∙ ap Some (sym (c.new.ensures ∙ ap (λ u. between c.args.b u) c.in_ok-upper.ensures.answer.0))

pub returns-in_err-upper-clause-settled : goal.returns-in_err-upper-clause-settled
returns-in_err-upper-clause-settled g c =
    refused _ _ _ (λ x. x) (one_unfit _ (c.args.b +ℚ c.args.r) _ c.in_err-upper.ensures.answer) c.from_residual.ensures.1
