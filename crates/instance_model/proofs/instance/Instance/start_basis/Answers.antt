use Rattle.std.proofs.Common.{◌++◌, [], ◌∷◌, sym, ◌∙◌, ap₂, arith}
use Rattle.std.proofs.lemmas.List.FromFn.{map-range_with_len_more}
use Rattle.lp_run.specs.State.{start_basic}
use Rattle.instance_model.proofs.instance.Instance.start_basis.Goals as goal

pub loop-row-preserved : goal.loop-row-preserved
loop-row-preserved c =
    c.in_ok-push.ensures.items ∙ ap₂ (λ xs x. xs ++ x ∷ []) c.loop-row.invariant c.start_basic.ensures
    ∙ sym (map-range_with_len_more (start_basic c.args.self.now) 0 c.loop-row.row c.loop-row.row (omega arith))
