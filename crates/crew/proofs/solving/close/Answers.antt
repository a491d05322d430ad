use Rattle.std.proofs.Common.{◌≡◌, sym, ◌∙◌, ap, subst}
use Rattle.exact_frac.specs.Count.{raised}
use Rattle.factor_run.specs.Calm.{IsCalm}
use Rattle.two_phase.specs.declared.standing.BoardFault.TheVariants as board
use Rattle.crew.proofs.Calms.{absorbed_rose, calm_close, closing_rose, memory_told, nothing_raised}
use Rattle.crew.specs.Answers.{IsCause}
use Rattle.crew.proofs.Rounds.{closing_fault}
use Rattle.crew.proofs.solving.close.Goals as goal

pub returns-in-Err-clause-solves : goal.returns-in-Err-clause-solves
returns-in-Err-clause-solves g c =
    let b = c.args.board in
    subst (λ w. IsCause w b.inst.value b.budget c.fault_of.result) c.requires.width
    (closing_fault (g.A.Arith.width b.arith) b c.requires.stands _ _ _ c.fault_of.result c.in-Err.ensures.fault c.fault_of.ensures)

pub returns-in-Ok-clause-absorbed : goal.returns-in-Ok-clause-absorbed
returns-in-Ok-clause-absorbed g c = c.absorb.ensures.unfit ∙ ap (raised (g.A.Arith.unfit_count c.args.arith.now)) c.in-Ok.ensures.arith.1

pub returns-in-Err-clause-rose : goal.returns-in-Err-clause-rose
returns-in-Err-clause-rose g c =
    let b = c.args.board in
    let refused = c.in-Err.field-0 in
    absorbed_rose (g.A.Arith.unfit_count b.arith) (g.A.Arith.unfit_count refused.board.arith) (g.A.Arith.unfit_count c.args.arith.now) _ c.fault_of.result
    (closing_rose (g.A.Arith.width b.arith) b _ _ refused.fault c.fault_of.result c.in-Err.ensures.fault c.fault_of.ensures)
    (c.absorb-in-Err.ensures.unfit ∙ ap (λ a. raised (g.A.Arith.unfit_count c.args.arith.now) (g.A.Arith.unfit_count a)) c.into_arith.ensures)

pub returns-in-Err-clause-calm : goal.returns-in-Err-clause-calm
returns-in-Err-clause-calm g c calm zero =
    let b = c.args.board in
    let memory : c.in-Err.field-0.fault ≡ board.Memory =
    calm_close (g.A.Arith.width b.arith) b c.requires.stands (subst (λ w. IsCalm w b.inst.value) (sym c.requires.width) calm) _ _ c.in-Err.field-0.fault c.in-Err.ensures.fault in
    let none : g.A.Arith.unfit_count c.into_arith.result ≡ 0 =
    ap (λ a. g.A.Arith.unfit_count a) c.into_arith.ensures ∙ c.in-Err.ensures.fits memory ∙ zero in
    (c.absorb-in-Err.ensures.unfit ∙ nothing_raised (g.A.Arith.unfit_count c.args.arith.now) (g.A.Arith.unfit_count c.into_arith.result) none, memory_told c.in-Err.field-0.fault c.fault_of.result memory c.fault_of.ensures)
