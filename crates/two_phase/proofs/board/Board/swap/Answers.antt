use Rattle.std.proofs.Common.{ap, arith}
use Rattle.two_phase.specs.declared.draft.DraftParts.{DraftParts}
use Rattle.two_phase.proofs.Switching.{switched_stands}
use Rattle.two_phase.proofs.board.Board.swap.Goals as goal

pub returns-clause-stands : goal.returns-clause-stands
returns-clause-stands g c = λ w stands.
    let parts = c.into_parts-parts.result in
    let is = c.into_parts-parts.ensures in
    switched_stands w c.args.self.now c.args.draft c.take_factors.new.self parts.factors parts.base c.updates-self.result c.requires (omega arith)
    (ap (λ (p : DraftParts). p.factors) is) (ap (λ (p : DraftParts). p.base) is) c.updates-self.ensures.value c.take_factors.ensures stands
