use Rattle.std.proofs.Common.{Ok, subst}
use Rattle.std.proofs.lemmas.Result.{err_from_is_err_and}
use Rattle.deck_model.specs.Outcome.{outcome_of}
use Rattle.cert_check.specs.declared.verdict.Stop.TheVariants.{Broken}
use Rattle.cert_check.specs.declared.verdict.Verdict.{Verdict}
use Rattle.cert_check.specs.Judged.{Judges}
use Rattle.cert_check.specs.Walk.{basis_walk, outcome_walk}
use Rattle.cert_check.proofs.Told.{judges-fault, judges-then}
use Rattle.cert_check.proofs.Walking.{stops}
use Rattle.cert_check.proofs.checking.with_basis.Goals as goal

pub returns-in-Yes-clause-judged : goal.returns-in-Yes-clause-judged
returns-in-Yes-clause-judged g c =
    let w = g.A.Arith.width c.args.arith.now in
    let o = outcome_of c.args.outcome.now in
    let first = outcome_walk c.args.deck.now o in
    judges-then w first (basis_walk c.args.deck.now o c.args.basis.now) _ c.told.result c.walked.ensures.width
    (subst (λ (v : Verdict). Judges w first (Ok v)) c.in-Yes.is c.in_ok-walked.ensures.judged) c.told.ensures.judged

pub returns-in-No-clause-judged : goal.returns-in-No-clause-judged
returns-in-No-clause-judged g c =
    let w = g.A.Arith.width c.args.arith.now in
    let o = outcome_of c.args.outcome.now in
    let first = outcome_walk c.args.deck.now o in
    stops w first (basis_walk c.args.deck.now o c.args.basis.now) (Broken c.in-No.rule) (subst (λ (v : Verdict). Judges w first (Ok v)) c.in-No.is c.in_ok-walked.ensures.judged)

pub returns-in_err-walked-clause-judged : goal.returns-in_err-walked-clause-judged
returns-in_err-walked-clause-judged g c =
    let o = outcome_of c.args.outcome.now in
    let p = err_from_is_err_and c.from_residual.result c.from_residual.ensures.1 in
    rw (p.1, p.2)
    (judges-fault _ (outcome_walk c.args.deck.now o) (basis_walk c.args.deck.now o c.args.basis.now) c.in_err-walked.field-0.0 c.in_err-walked.ensures.judged)
