use Rattle.std.proofs.Common.{Some, None, sym, subst}
use Rattle.std.specs.Option.{option_map}
use Rattle.deck_model.specs.Outcome.{outcome_of}
use Rattle.cert_check.specs.Proved.{Tells}
use Rattle.cert_check.proofs.Holding.{tells}
use Rattle.cert_check.proofs.checking.check.Goals as goal

pub returns-in-None-clause-tells : goal.returns-in-None-clause-tells
returns-in-None-clause-tells g c =
    let o = outcome_of c.args.outcome.now in
    subst (λ b. Tells (g.A.Arith.width c.args.arith.now) c.args.deck.now o (option_map (λ b. b.now) b) c.walked.result) (sym c.in-None.is)
    (tells c.args.deck.now c.walked.ensures.deck _ o None c.requires.lengths c.walked.result c.walked.ensures.judged)

pub returns-in-Some-clause-tells : goal.returns-in-Some-clause-tells
returns-in-Some-clause-tells g c =
    let o = outcome_of c.args.outcome.now in
    subst (λ b. Tells (g.A.Arith.width c.args.arith.now) c.args.deck.now o (option_map (λ b. b.now) b) c.with_basis.result) (sym c.in-Some.is)
    (tells c.args.deck.now c.with_basis.ensures.deck _ o (Some c.in-Some.basis.now) c.requires.lengths c.with_basis.result c.with_basis.ensures.judged)
