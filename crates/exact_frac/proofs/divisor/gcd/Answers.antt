use Rattle.std.proofs.Common.{◌∙◌, inl, inr, sym, ap}
use Rattle.rational.specs.Gcd.{gcd}
use Rattle.rational.proofs.Gcd.{gcd-comm}
use Rattle.exact_frac.proofs.Euclid.{gcd-zero}
use Rattle.exact_frac.proofs.Scaled.{gcd-one}
use Rattle.exact_frac.proofs.Binary.{one-gcd, zero-gcd}
use Rattle.exact_frac.proofs.divisor.gcd.Goals as goal

pub returns-then-b-eq1 : goal.returns-then-b-eq1
returns-then-b-eq1 c =
    elim c.if-b-eq1.either [
      | inl e ↦ one-gcd c.args.b ∙ ap (λ n. gcd n c.args.b) (sym e)
      | inr e ↦ gcd-one c.args.a ∙ ap (gcd c.args.a) (sym e.1)
    ]

pub returns-then-b-eq0 : goal.returns-then-b-eq0
returns-then-b-eq0 c = sym (gcd-zero c.args.a) ∙ ap (gcd c.args.a) (sym c.if-b-eq0.true)

pub returns-then-a-eq0 : goal.returns-then-a-eq0
returns-then-a-eq0 c = zero-gcd c.args.b ∙ ap (λ n. gcd n c.args.b) (sym c.if-a-eq0.true)

pub returns-then-a-le-LOW : goal.returns-then-a-le-LOW
returns-then-a-le-LOW c = c.with_low-then-a-le-LOW.ensures ∙ gcd-comm c.args.b c.args.a
