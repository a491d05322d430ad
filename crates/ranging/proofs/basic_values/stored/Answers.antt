use Rattle.std.proofs.Common.{◌≡◌, map, None, Some, sym, ◌∙◌, ap, ext_get_or, arith}
use Rattle.std.proofs.lemmas.Result.{IfOk-weaker}
use Rattle.std.proofs.lemmas.List.{get_or-map, length-map}
use Rattle.rational.specs.Rational.{zero_ℚ}
use Rattle.sparse_cols.specs.Work.{gathered}
use Rattle.ranging.proofs.basic_values.stored.Goals as goal

pub returns : goal.returns
returns c =
    let v = c.args.v.now in
    let row = c.loop-i.row in
    let known = c.loop-i.invariant in
    let same : row ≡ map Some v = ext_get_or None row (map Some v) (known.count ∙ sym (length-map v Some))
    (λ k b. known.items k (omega (arith, b, known.count)) ∙ sym (get_or-map Some v k zero_ℚ None (omega (arith, b, known.count)))) in
    IfOk-weaker c.gather.result _ _ (λ column is. is ∙ ap gathered same) c.gather.ensures
