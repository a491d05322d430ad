-- The run and its close, counted together.
use Rattle.std.proofs.Common.{sym, ◌∙◌, ap, subst}
use Rattle.exact_frac.specs.Count.{raised}
use Rattle.factor_run.specs.Calm.{IsCalm}
use Rattle.two_phase.proofs.Grounds.{if_ok}
use Rattle.crew.proofs.Calms.{absorbed_rose, risen_if, risen_since, whole_solve}
use Rattle.crew.proofs.solving.go_on.Goals as goal

pub returns-in-Err-clause-rose : goal.returns-in-Err-clause-rose
returns-in-Err-clause-rose g c =
    let there = g.A.Arith.unfit_count c.run.new.arith in
    risen_since (g.A.Arith.unfit_count c.args.arith.now) there _ c.in-Err.fault c.in-Err.ensures.unfit
    (absorbed_rose (g.A.Arith.unfit_count c.args.board.arith) (g.A.Arith.unfit_count c.run.new.board.arith) there _ c.in-Err.fault c.in-Err.ensures.rose
    (c.absorb.ensures.unfit ∙ ap (λ a. raised there (g.A.Arith.unfit_count a)) c.into_arith.ensures))

pub returns-in-Ok-clause-rose : goal.returns-in-Ok-clause-rose
returns-in-Ok-clause-rose g c = risen_if (g.A.Arith.unfit_count c.args.arith.now) (g.A.Arith.unfit_count c.run.new.arith) _ c.close.result c.in-Ok.ensures.unfit c.close.ensures.rose

pub returns-in-Ok-clause-work : goal.returns-in-Ok-clause-work
returns-in-Ok-clause-work g c calm fresh made =
    let b = c.args.board in
    let new = c.run.new.board in
    let e = c.in-Ok.ensures in
    let worked = e.work (subst (λ w. IsCalm w b.inst.value) (sym c.requires.width) calm) fresh in
    if_ok c.close.result
    (λ closed h. whole_solve (g.A.Arith.width b.arith) b new e.instance e.stands (g.A.Arith.work_count b.arith) (g.A.Arith.work_count c.args.arith.now) (g.A.Arith.work_count new.arith)
    (g.A.Arith.work_count c.run.new.arith) (g.A.Arith.work_count c.close.new.arith) worked made closed.moves h.0 h.1)
    c.close.ensures.work
