use Rattle.std.proofs.Common.{refl, ◌∙◌, arith}
use Rattle.lp_run.specs.Instance.{row_count}
use Rattle.rational.proofs.VectorLaws.{same_vectors}
use Rattle.ranging.proofs.basic_values.put_rights.Goals as goal

pub returns : goal.returns
returns c =
    let known = c.loop-i.invariant in
    same_vectors c.loop-i.out c.args.inst.now.right (row_count c.args.inst.now) (known.count ∙ c.requires) refl (λ k b. known.items k (omega (arith, b, known.count, c.requires)))
