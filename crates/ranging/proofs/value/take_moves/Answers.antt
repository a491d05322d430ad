use Rattle.std.proofs.Common.{◌≡◌, ◌+◌, ◌<◌, ◌≤◌, ℕ, None, get_or, set, length, sym, ◌∙◌, subst, get_or-set_other, get_or-set_same, length-set, arith}
use Rattle.rational.specs.Rational.{zero_ℚ}
use Rattle.rational.specs.Sum.{at}
use Rattle.plain_table.proofs.Lines.{item_read}
use Rattle.ranging.specs.Inner.Found.{TakesMove}
use Rattle.ranging.proofs.Rising.{rises_set}
use Rattle.ranging.proofs.value.take_moves.Goals as goal
use borrow.Author.Count.{below_more}

pub loop-i-preserved : goal.loop-i-preserved
loop-i-preserved g c =
    let a = c.args in
    let i = c.loop-i.i in
    let rights = c.loop-i.rights in
    let next = c.take_move.result in
    let w = g.A.Arith.width in
    let known = c.loop-i.invariant in
    let within : i < length rights = omega (arith, known.length) in
    let was = item_read rights i c.index-rights-i.result None within c.index-rights-i.is in
    let is_rate = item_read a.rates.now i c.index-rates-i.result zero_ℚ (omega (arith, c.requires)) c.index-rates-i.is in
    let one : TakesMove (w a.arith.now) a.bounds a.value (at a.rates.now i) (get_or a.rights.now i None) next =
    subst (λ v. TakesMove v a.bounds a.value (at a.rates.now i) (get_or a.rights.now i None) next) known.width
    (subst (λ z. TakesMove (w c.loop-i.arith) a.bounds a.value z (get_or a.rights.now i None) next) is_rate
    (subst (λ o. TakesMove (w c.loop-i.arith) a.bounds a.value c.index-rates-i.result o next) (was ∙ known.later i (omega arith)) c.take_move.ensures.taken)) in
    record {
      width = c.take_move.ensures.width ∙ known.width;
      unfit = omega (arith, known.unfit, c.take_move.ensures.unfit);
      length = length-set rights i next ∙ known.length;
      taken = below_more (λ k. TakesMove (w a.arith.now) a.bounds a.value (at a.rates.now k) (get_or a.rights.now k None) (get_or (set rights i next) k None)) i
          (λ k b. subst (TakesMove (w a.arith.now) a.bounds a.value (at a.rates.now k) (get_or a.rights.now k None)) (sym (get_or-set_other rights i k next None (before k i b))) (known.taken k b))
          (subst (TakesMove (w a.arith.now) a.bounds a.value (at a.rates.now i) (get_or a.rights.now i None)) (sym (get_or-set_same rights i next None within)) one);
      later = λ k b. get_or-set_other rights i k next None (past k i b) ∙ known.later k (omega (arith, b));
      rose = rises_set _ _ _ a.rights.now rights i c.index-rights-i.result next known.unfit c.take_move.ensures.unfit within (sym was) c.take_move.ensures.rose known.rose;
    }
  where
    before : (k i : ℕ) → k < i → k ≡ i → ⊥
    before k i b e = omega (arith, b, e)

    past : (k i : ℕ) → i + 1 ≤ k → k ≡ i → ⊥
    past k i b e = omega (arith, b, e)
