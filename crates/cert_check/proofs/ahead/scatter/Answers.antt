-- Each step adds the products of the next column.
use Rattle.std.proofs.Common.{◌≡◌, ◌<◌, length, Some, refl, sym, ◌∙◌, ap, ap₂, subst, arith}
use Rattle.std.proofs.lemmas.List.{get_or-replicate, length-replicate}
use Rattle.lp_model.specs.Deck.{column}
use Rattle.rational.specs.Lines.{subtract}
use Rattle.rational.specs.Rational.{ℚ, zero_ℚ, neg_ℚ}
use Rattle.rational.specs.Sparse.{IsSparse}
use Rattle.rational.specs.Sum.{at}
use Rattle.rational.specs.Worked.{settle}
use Rattle.rational.proofs.Settling.{settle-done}
use Rattle.sparse_cols.specs.Sparse.{IsRising, Sparse}
use Rattle.sparse_steps.proofs.Steps.{item_read}
use Rattle.cert_check.proofs.Adding.{rises}
use Rattle.cert_check.proofs.Scatter.{scatters, sums-more}
use Rattle.cert_check.proofs.ahead.scatter.Goals as goal

pub loop-j-init : goal.loop-j-init
loop-j-init g c =
    let long : length c.args.sums.now ≡ length c.args.deck.now.rows = ap length c.requires.zeros ∙ length-replicate (length c.args.deck.now.rows) zero_ℚ in
    record {
      width = refl;
      unfit = refl;
      long = long;
      sums = λ i lt.
          let is : at c.args.sums.now i ≡ zero_ℚ = ap (λ s. at s i) c.requires.zeros ∙ get_or-replicate (length c.args.deck.now.rows) i zero_ℚ zero_ℚ (omega (arith, long, lt)) in
          settle-done _ zero_ℚ ∙ ap Some (sym is);
    }

pub subtract-requires-after_bounds : goal.subtract-requires-after_bounds
subtract-requires-after_bounds g c = λ κs within.
    let d = c.args.deck.now in
    let sparse = c.columns-j-end.ensures.deck.sparse c.loop-j.j (omega (arith, c.columns-j-end.ensures.count)) in
    let rising = rises (length d.rows) 0 (column d c.loop-j.j).entries sparse in
    subst (λ m. IsRising m 0 c.column.result.now.pairs) (sym c.loop-j.invariant.long)
    (subst (λ ps. IsRising (length d.rows) 0 ps) (sym (ap (λ (s : Sparse ℚ). s.pairs) c.column.ensures)) rising)

pub loop-j-preserved : goal.loop-j-preserved
loop-j-preserved g c =
    let d = c.args.deck.now in
    let w = g.A.Arith.width c.args.arith.now in
    let j = c.loop-j.j in
    let v = c.args.v.now in
    let lt : j < length d.columns = omega (arith, c.columns-j-end.ensures.count) in
    let sparse = c.columns-j-end.ensures.deck.sparse j lt in
    let item = item_read v j c.index-v-j.result (omega (arith, lt, c.requires.given)) c.index-v-j.is in
    let settled = subst (λ u. settle u (subtract c.rows.result c.negated-item.result c.loop-j.sums c.column.result.now.pairs) ≡ Some c.subtract.new.v)
    c.loop-j.invariant.width c.in_ok-subtract.ensures.settled in
    let entries = ap (λ (s : Sparse ℚ). s.pairs) c.column.ensures in
    let worked = ap₂ (λ x ps. settle w (subtract c.rows.result x c.loop-j.sums ps)) (sym (c.negated-item.ensures ∙ ap neg_ℚ item)) (sym entries) ∙ settled in
    let step = scatters w c.rows.result 0 (at v j) (column d j).entries c.loop-j.sums c.subtract.new.v (omega (arith, c.loop-j.invariant.long, c.rows.ensures.count))
    (subst (λ m. IsSparse m 0 (column d j).entries) (sym c.loop-j.invariant.long) sparse) worked in
    record {
      width = c.subtract.ensures.width ∙ c.loop-j.invariant.width;
      unfit = c.in_ok-subtract.ensures.unfit ∙ c.loop-j.invariant.unfit;
      long = step.long ∙ c.loop-j.invariant.long;
      sums = sums-more w d v j c.loop-j.sums c.subtract.new.v c.loop-j.invariant.sums step;
    }
