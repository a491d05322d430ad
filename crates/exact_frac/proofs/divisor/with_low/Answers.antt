use Rattle.std.proofs.Common.{◌≡◌, ◌∙◌, sym, ap}
use Rattle.rational.specs.Gcd.{gcd}
use Rattle.rational.proofs.Gcd.{gcd-comm}
use Rattle.exact_frac.proofs.Euclid.{gcd-rest, gcd-zero}
use Rattle.exact_frac.proofs.divisor.with_low.Goals as goal
use Rattle.exact_frac.proofs.divisor.with_low.Goals.{then-a-gt-LOW, else-a-gt-LOW}

pub returns-then-rest-eq0 : goal.returns-then-rest-eq0
returns-then-rest-eq0 c =
    let same : gcd c.if-a-gt-LOW.rest c.args.b ≡ gcd c.args.a c.args.b =
    elim c.if-a-gt-LOW.branch [
      | then-a-gt-LOW w ↦ ap (λ n. gcd n c.args.b) w.rest-is ∙ gcd-comm _ c.args.b ∙ gcd-rest c.args.a c.args.b
      | else-a-gt-LOW w ↦ ap (λ n. gcd n c.args.b) w.rest-is
    ] in
    sym (gcd-zero c.args.b) ∙ ap (gcd c.args.b) (sym c.if-rest-eq0.true) ∙ gcd-comm c.args.b c.if-a-gt-LOW.rest ∙ same

pub returns-else-rest-eq0 : goal.returns-else-rest-eq0
returns-else-rest-eq0 c =
    let same : gcd c.if-a-gt-LOW.rest c.args.b ≡ gcd c.args.a c.args.b =
    elim c.if-a-gt-LOW.branch [
      | then-a-gt-LOW w ↦ ap (λ n. gcd n c.args.b) w.rest-is ∙ gcd-comm _ c.args.b ∙ gcd-rest c.args.a c.args.b
      | else-a-gt-LOW w ↦ ap (λ n. gcd n c.args.b) w.rest-is
    ] in
    c.positive_low.ensures ∙ same
