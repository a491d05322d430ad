-- Without a range no end is worked, nor with a range of 0 at an equality.
use Rattle.std.proofs.Common.{Some, sym, ◌∙◌, ap, ap₂}
use Rattle.rational.specs.Worked.{settle}
use Rattle.exact_frac.specs.Constants.{ratio-zero}
use Rattle.cert_check.specs.Sums.{interval_of}
use Rattle.cert_check.proofs.EndLaws.{interval-equal}
use Rattle.cert_check.proofs.Values.{no_value}
use Rattle.cert_check.proofs.ends.interval.Goals as goal

pub returns-in-L-None-clause-settled : goal.returns-in-L-None-clause-settled
returns-in-L-None-clause-settled g c =
    ap₂ (λ k o. settle (g.A.Arith.width c.args.arith.now) (interval_of k c.args.right o)) c.in-L-None.is-0 c.in-L-None.is-1 ∙ no_value _ _ ∙ ap Some (sym c.new.ensures)

pub returns-in-G-None-clause-settled : goal.returns-in-G-None-clause-settled
returns-in-G-None-clause-settled g c =
    ap₂ (λ k o. settle (g.A.Arith.width c.args.arith.now) (interval_of k c.args.right o)) c.in-G-None.is-0 c.in-G-None.is-1 ∙ no_value _ _ ∙ ap Some (sym c.new-in-G-None.ensures)

pub returns-in-E-None-clause-settled : goal.returns-in-E-None-clause-settled
returns-in-E-None-clause-settled g c =
    ap₂ (λ k o. settle (g.A.Arith.width c.args.arith.now) (interval_of k c.args.right o)) c.in-E-None.is-0 c.in-E-None.is-1 ∙ no_value _ _ ∙ ap Some (sym c.new-in-E-None.ensures)

pub returns-in-Equal-clause-settled : goal.returns-in-Equal-clause-settled
returns-in-Equal-clause-settled g c =
    ap₂ (λ k o. settle (g.A.Arith.width c.args.arith.now) (interval_of k c.args.right o)) c.in-E-Some.is-0 c.in-E-Some.is-1
    ∙ interval-equal _ c.args.right c.in-E-Some.range _ ratio-zero c.in-Equal.ensures ∙ ap Some (sym c.new-in-Equal.ensures)
