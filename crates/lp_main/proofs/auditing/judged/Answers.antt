-- What a judgement says of the deck.
use Rattle.std.proofs.Common.{Ok, ap}
use Rattle.lp_main.proofs.Audits.{audited}
use Rattle.lp_main.proofs.auditing.judged.Goals as goal

pub returns-in-Ok-clause-audited : goal.returns-in-Ok-clause-audited
returns-in-Ok-clause-audited g c =
    audited c.args.deck.now c.args.report.now c.in-Ok.judgement c.in-Ok.ensures.judged (λ k is. c.in-Ok.ensures.proved k (ap Ok is))
