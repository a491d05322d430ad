use Rattle.std.proofs.Common.{◌≡◌, ◌≢◌, true, false, sym, ◌∙◌}
use Rattle.lp_model.specs.Log.{is_move, moves}
use Rattle.two_phase.proofs.Plains.{fitted_on, overflow_first}
use Rattle.two_phase.proofs.Taking.{entry_within}
use Rattle.two_phase.proofs.plain.take_on.Goals as goal
use Rattle.two_phase.proofs.plain.take_on.Goals.{else-is_move-via-then-is_move+else-moves-budget, else-is_move-via-else-is_move}

apart : true ≡ false → ⊥
apart e = cc e

pub returns-in-Ok-clause-reached : goal.returns-in-Ok-clause-reached
returns-in-Ok-clause-reached g c =
    let w = g.A.Arith.width c.args.arith.now in
    let a = c.args in
    let left : is_move a.entry ≡ true → moves a.log.now ≢ a.budget =
    elim c.else-is_move.branch [
      | else-is_move-via-then-is_move+else-moves-budget w ↦ λ is same. w.if-moves-budget.false (w.moves.ensures ∙ same)
      | else-is_move-via-else-is_move w ↦ λ is same. apart (sym is ∙ sym c.is_move.ensures ∙ w.if-is_move.false)
    ] in (
      c.requires.next,
      c.in_ok-push.ensures.ok,
      fitted_on w a.inst.now a.log.now a.table.now c.requires.fitted a.entry c.push.new.self c.step.new.self c.in_ok-push.ensures.ok c.in-Ok.ensures.listed
          (c.in-Ok.ensures.stands a.log.now c.requires.fitted.stands),
      entry_within a.log.now c.push.new.self a.budget a.entry c.in_ok-push.ensures.ok c.requires.within left,
    )

pub returns-in-Err-clause-fault : goal.returns-in-Err-clause-fault
returns-in-Err-clause-fault g c = overflow_first _ c.args.inst.now c.args.log.now c.args.table.now c.requires.fitted c.in-Err.place c.in-Err.ensures.listed
