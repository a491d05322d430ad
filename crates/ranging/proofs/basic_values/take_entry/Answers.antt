use Rattle.std.proofs.Common.{◌≡◌, None, Some, subst}
use Rattle.rational.specs.Worked.{less, settle}
use Rattle.sparse_steps.proofs.Steps.{item_read, refused}
use Rattle.ranging.proofs.Rests.{one_refused, one_taken}
use Rattle.ranging.proofs.basic_values.take_entry.Goals as goal

pub returns-in_err-out-clause-settled : goal.returns-in_err-out-clause-settled
returns-in_err-out-clause-settled g c =
    let out = c.args.out.now in
    let w = g.A.Arith.width c.args.arith.now in
    let item = item_read out c.args.i c.index-out-i.result c.requires c.index-out-i.is in
    refused _ _ _ (λ _. out)
    (one_refused w _ c.args.i c.args.entry c.args.value out c.requires (subst (λ x. settle w (less x c.args.entry c.args.value) ≡ None) item c.in_err-out.ensures.settled))
    c.from_residual.ensures.1

pub returns-clause-settled : goal.returns-clause-settled
returns-clause-settled g c =
    let out = c.args.out.now in
    let w = g.A.Arith.width c.args.arith.now in
    let item = item_read out c.args.i c.index-out-i.result c.requires c.index-out-i.is in
    one_taken w _ c.args.i c.args.entry c.args.value out c.requires c.in_ok-out.field-0
    (subst (λ x. settle w (less x c.args.entry c.args.value) ≡ Some c.in_ok-out.field-0) item c.in_ok-out.ensures.settled)
