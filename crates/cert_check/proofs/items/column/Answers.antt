use Rattle.std.proofs.Common.{Ok, Err, refl, sym, ◌∙◌, ap, arith}
use Rattle.lp_model.specs.Deck.{Interval, column}
use Rattle.rational.specs.Sum.{at}
use Rattle.rational.specs.Worked.{done, settle, work}
use Rattle.exact_frac.proofs.Working.{settles-exact}
use Rattle.sparse_steps.proofs.Steps.{item_read, refused}
use Rattle.cert_check.specs.Items.{is_within}
use Rattle.cert_check.proofs.Values.{settles-last, settles-never}
use Rattle.cert_check.proofs.items.column.Goals as goal

pub returns-clause-settled : goal.returns-clause-settled
returns-clause-settled g c =
    let d = c.args.deck.now in
    let item = item_read c.args.x.now c.args.j c.index-x-j.result (omega (arith, c.requires.column, c.requires.given)) c.index-x-j.is in
    settles-last _ (work (at c.args.x.now c.args.j)) (λ v. done (is_within (column d c.args.j).bounds v)) c.in_ok-value.value c.contains.result
    (is_within (column d c.args.j).bounds c.in_ok-value.value) (ap (λ v. settle (g.A.Arith.width c.args.arith.now) (work v)) (sym item)
    ∙ settles-exact _ c.index-x-j.result (Ok c.in_ok-value.value) c.in_ok-value.ensures.answer) refl
    (sym (c.contains.ensures ∙ ap (λ (i : Interval). is_within i c.in_ok-value.value) c.column_ends.ensures))

pub returns-in_err-value-clause-settled : goal.returns-in_err-value-clause-settled
returns-in_err-value-clause-settled g c =
    let d = c.args.deck.now in
    let item = item_read c.args.x.now c.args.j c.index-x-j.result (omega (arith, c.requires.column, c.requires.given)) c.index-x-j.is in
    refused _ _ _ (λ x. x) (settles-never _ (work (at c.args.x.now c.args.j)) (λ v. done (is_within (column d c.args.j).bounds v))
    (ap (λ v. settle (g.A.Arith.width c.args.arith.now) (work v)) (sym item)
    ∙ settles-exact _ c.index-x-j.result (Err c.in_err-value.field-0.0) c.in_err-value.ensures.answer)) c.from_residual.ensures.1
