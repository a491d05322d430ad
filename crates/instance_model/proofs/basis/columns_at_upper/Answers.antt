-- The next column is one of them where its status says so.
use Rattle.std.proofs.Common.{ℕ, Vec, Global, cond, [], ◌∷◌, ◌++◌, append-nil, sym, ◌∙◌, ap, ap₂}
use Rattle.lp_run.specs.State.{status_of}
use Rattle.instance_model.specs.Basis.{is_at_upper}
use Rattle.instance_model.proofs.Sums.{filter_next}
use Rattle.instance_model.proofs.basis.columns_at_upper.Goals as goal
use Rattle.instance_model.proofs.basis.columns_at_upper.Goals.{then-is_at_upper+in_ok-push, else-is_at_upper}

pub loop-column-preserved : goal.loop-column-preserved
loop-column-preserved c =
    let s = c.args.state.now in
    let j = c.loop-column.column in
    let is = c.is_at_upper.ensures ∙ ap is_at_upper c.status.ensures in
    elim c.if-is_at_upper.branch [
      | then-is_at_upper+in_ok-push w ↦ ap (λ (v : Vec ℕ Global). v.items) w.columns-is ∙ w.in_ok-push.ensures.items
          ∙ ap₂ (λ xs t. xs ++ cond t (j ∷ []) []) c.loop-column.invariant (sym w.if-is_at_upper.true ∙ is)
          ∙ sym (filter_next (λ j. is_at_upper (status_of s j)) j)
      | else-is_at_upper w ↦ ap (λ (v : Vec ℕ Global). v.items) w.columns-is
          ∙ sym (append-nil c.loop-column.columns.items)
          ∙ ap₂ (λ xs t. xs ++ cond t (j ∷ []) []) c.loop-column.invariant (sym w.if-is_at_upper.false ∙ is)
          ∙ sym (filter_next (λ j. is_at_upper (status_of s j)) j)
    ]
