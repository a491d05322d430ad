use Rattle.std.proofs.Common.{ℕ, ◌<◌, length, sym, subst, ◌∙◌, arith}
use Rattle.std.proofs.lemmas.List.{length-set}
use Rattle.rational.specs.Rational.{ℚ}
use Rattle.ft_update.proofs.Stored.{apart-below, placed-parts, placed-ends}
use Rattle.ft_update.proofs.columns.place.Goals as goal

pub index_mut-requires : goal.index_mut-requires
index_mut-requires c =
    let ks = c.args.taken.now in
    let pair = c.loop-i-item.result in
    let below = apart-below (length c.args.v.now.items) ks c.requires.apart c.loop-i.i-index pair (omega arith) in
    let within : pair.0 < length c.args.v.now.items = subst (λ (q : ℕ × ℚ). q.0 < length c.args.v.now.items) (sym c.loop-i-item.is) below in
    omega (arith, within, c.loop-i.invariant.length)

pub loop-i-preserved : goal.loop-i-preserved
loop-i-preserved c =
    let ks = c.args.taken.now in
    let pair = c.loop-i-item.result in
    record {
      length = length-set c.loop-i.v.items pair.0 pair.1 ∙ c.loop-i.invariant.length;
      left = placed-parts ks c.loop-i.i-index pair c.loop-i.v.items (omega arith) c.loop-i-item.is ∙ c.loop-i.invariant.left;
    }

pub returns : goal.returns
returns c = sym (placed-ends c.args.taken.now c.loop-i.i-index c.loop-i.v.items (omega arith)) ∙ c.loop-i.invariant.left
