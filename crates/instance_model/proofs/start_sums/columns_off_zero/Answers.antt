-- The next structural is one of them where its start is not 0.
use Rattle.std.proofs.Common.{◌≡◌, ◌<◌, ℕ, Vec, Global, length, ◌∙◌, ap, arith}
use Rattle.std.specs.List.{filter}
use Rattle.rational.specs.Sparse.{upto}
use Rattle.lp_run.specs.Instance.{equations_of, structural_count}
use Rattle.instance_model.specs.Inner.Starts.{starts_off}
use Rattle.instance_model.proofs.Sums.{count_is, moved_more, moved_same}
use Rattle.instance_model.proofs.start_sums.columns_off_zero.Goals as goal
use Rattle.instance_model.proofs.start_sums.columns_off_zero.Goals.{then-not-is_zero+in_ok-push, else-not-is_zero}

pub loop-j-preserved : goal.loop-j-preserved
loop-j-preserved c =
    let d = c.args.deck.now in
    let j = c.loop-j.j in
    let b : j < length d.columns = omega (arith, c.columns-j-end.ensures.count) in
    elim c.if-not-is_zero.branch [
      | then-not-is_zero+in_ok-push w ↦ moved_more d j b c.column_bounds.result c.start_value.result c.is_zero.result c.column_bounds.ensures c.start_value.ensures c.is_zero.ensures
          c.loop-j.columns.items c.if-not-is_zero.columns.items w.if-not-is_zero.true (ap (λ (v : Vec ℕ Global). v.items) w.columns-is ∙ w.in_ok-push.ensures.items) c.loop-j.invariant
      | else-not-is_zero w ↦ ap (λ (v : Vec ℕ Global). v.items) w.columns-is
          ∙ moved_same d j b c.column_bounds.result c.start_value.result c.is_zero.result c.column_bounds.ensures c.start_value.ensures c.is_zero.ensures
          c.loop-j.columns.items w.if-not-is_zero.false c.loop-j.invariant
    ]

pub returns-clause-items : goal.returns-clause-items
returns-clause-items c =
    let d = c.args.deck.now in
    let all : c.loop-j.j ≡ structural_count (equations_of d) = omega (arith, count_is d, c.columns-j-end.ensures.count) in
    c.loop-j.invariant ∙ ap (λ n. filter (starts_off (equations_of d)) (upto n)) all
