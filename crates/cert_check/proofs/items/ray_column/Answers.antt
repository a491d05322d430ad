use Rattle.std.proofs.Common.{Ok, Err, refl, sym, ◌∙◌, ap, ap₂, arith}
use Rattle.std.specs.Option.{is_none}
use Rattle.lp_model.specs.Deck.{Interval, column}
use Rattle.rational.specs.Sum.{at}
use Rattle.rational.specs.Worked.{done, settle, work}
use Rattle.exact_frac.proofs.Working.{settles-exact}
use Rattle.sparse_steps.proofs.Steps.{item_read, refused}
use Rattle.cert_check.specs.Items.{allows}
use Rattle.cert_check.proofs.Tests.{none-test}
use Rattle.cert_check.proofs.Values.{settles-last, settles-never}
use Rattle.cert_check.proofs.items.ray_column.Goals as goal

pub returns-clause-settled : goal.returns-clause-settled
returns-clause-settled g c =
    let d = c.args.deck.now in
    let item = item_read c.args.ray.now c.args.j c.index-ray-j.result (omega (arith, c.requires.column, c.requires.given)) c.index-ray-j.is in
    settles-last _ (work (at c.args.ray.now c.args.j)) (λ v. done (allows v (is_none (column d c.args.j).bounds.upper)
    (is_none (column d c.args.j).bounds.lower))) c.in_ok-item.item c.allows.result
    (allows c.in_ok-item.item (is_none (column d c.args.j).bounds.upper) (is_none (column d c.args.j).bounds.lower))
    (ap (λ v. settle (g.A.Arith.width c.args.arith.now) (work v)) (sym item)
    ∙ settles-exact _ c.index-ray-j.result (Ok c.in_ok-item.item) c.in_ok-item.ensures.answer) refl
    (sym (c.allows.ensures ∙ ap₂ (allows c.in_ok-item.item) (none-test c.is_none.result _ c.is_none.ensures
    ∙ ap is_none (c.upper.ensures ∙ ap (λ (i : Interval). i.upper) c.column_ends-ends.ensures))
    (none-test c.is_none-2.result _ c.is_none-2.ensures ∙ ap is_none
    (c.lower.ensures ∙ ap (λ (i : Interval). i.lower) c.column_ends-ends.ensures))))

pub returns-in_err-item-clause-settled : goal.returns-in_err-item-clause-settled
returns-in_err-item-clause-settled g c =
    let d = c.args.deck.now in
    let item = item_read c.args.ray.now c.args.j c.index-ray-j.result (omega (arith, c.requires.column, c.requires.given)) c.index-ray-j.is in
    refused _ _ _ (λ x. x) (settles-never _ (work (at c.args.ray.now c.args.j)) (λ v. done (allows v (is_none (column d c.args.j).bounds.upper)
    (is_none (column d c.args.j).bounds.lower))) (ap (λ v. settle (g.A.Arith.width c.args.arith.now) (work v)) (sym item)
    ∙ settles-exact _ c.index-ray-j.result (Err c.in_err-item.field-0.0) c.in_err-item.ensures.answer)) c.from_residual.ensures.1
