use Rattle.std.proofs.Common.{refl, sym, ◌∙◌, ap, ap₂, arith}
use Rattle.lp_model.specs.Deck.{Interval, column, in_sense}
use Rattle.rational.specs.Sum.{at}
use Rattle.rational.specs.Worked.{done}
use Rattle.sparse_steps.proofs.Steps.{item_read, refused}
use Rattle.cert_check.specs.Items.{allows, is_at_end}
use Rattle.cert_check.specs.Sums.{reduced_sum}
use Rattle.cert_check.proofs.Tests.{allows-like, sense-like}
use Rattle.cert_check.proofs.Values.{settles-last, settles-never}
use Rattle.cert_check.proofs.items.reduced_cost.Goals as goal

pub returns-clause-settled : goal.returns-clause-settled
returns-clause-settled g c =
    let d = c.args.deck.now in
    let item = item_read c.args.x.now c.args.j c.index-x-j.result (omega (arith, c.requires.column, c.requires.columns)) c.index-x-j.is in
    settles-last _ (reduced_sum d c.args.y.now c.args.j) (λ z. done (allows (in_sense d.sense z)
    (is_at_end (column d c.args.j).bounds.lower (at c.args.x.now c.args.j)) (is_at_end (column d c.args.j).bounds.upper (at c.args.x.now c.args.j))))
    c.in_ok-cost.cost c.allows.result (allows (in_sense d.sense c.in_ok-cost.cost) (is_at_end (column d c.args.j).bounds.lower (at c.args.x.now c.args.j))
    (is_at_end (column d c.args.j).bounds.upper (at c.args.x.now c.args.j))) (c.in_ok-cost.ensures.settled) refl
    (sym (c.allows.ensures ∙ allows-like (c.in_sense.ensures ∙ sense-like _ c.sense.ensures)
    (c.is_at_end-lower.ensures ∙ ap₂ is_at_end (c.lower.ensures ∙ ap (λ (i : Interval). i.lower) c.column_ends-ends.ensures) item)
    (c.is_at_end-upper.ensures ∙ ap₂ is_at_end (c.upper.ensures ∙ ap (λ (i : Interval). i.upper) c.column_ends-ends.ensures) item)))

pub returns-in_err-cost-clause-settled : goal.returns-in_err-cost-clause-settled
returns-in_err-cost-clause-settled g c =
    let d = c.args.deck.now in
    refused _ _ _ (λ x. x) (settles-never _ (reduced_sum d c.args.y.now c.args.j) (λ z. done (allows (in_sense d.sense z)
    (is_at_end (column d c.args.j).bounds.lower (at c.args.x.now c.args.j)) (is_at_end (column d c.args.j).bounds.upper (at c.args.x.now c.args.j))))
    (c.in_err-cost.ensures.settled)) c.from_residual.ensures.1
