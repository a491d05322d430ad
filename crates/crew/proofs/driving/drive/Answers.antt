use Rattle.std.proofs.Common.{refl, ◌∙◌, ap, sym, subst, arith}
use Rattle.std.specs.Arc.{arc_value}
use Rattle.two_phase.specs.Board.{BoardStands}
use Rattle.two_phase.specs.declared.standing.Recorded.TheVariants as recorded
use Rattle.crew.specs.Inner.Driving.{IsCalmOn, StandsOn}
use Rattle.crew.specs.Inner.Rounds.{GoesOn}
use Rattle.crew.proofs.CalmRounds.{both_err, goes_nearer, goes_running}
use Rattle.crew.proofs.Calms.{spent_rose}
use Rattle.crew.proofs.Rounds.{ended_cause}
use Rattle.crew.proofs.driving.drive.Goals as goal

pub rounds-init : goal.rounds-init
rounds-init g c = record {
  running = c.requires.running;
  same = record { stands = c.requires.running.stands; instance = refl; budget = refl };
  board_width = refl;
  board_unfit = omega arith;
  width = refl;
  unfit = omega arith;
  calm = λ on. (on, refl, refl);
}

pub rounds-smaller : goal.rounds-smaller
rounds-smaller g c =
    let w = g.A.Arith.width c.args.board.now.arith in
    let inv = c.rounds.invariant in
    let e = c.in_ok-standing.ensures in
    goes_nearer w c.rounds.board c.round.new.board inv.running.stands (subst (λ w. StandsOn w c.rounds.board c.round.new.board) inv.board_width e.same) _ e.goes c.in_default.not-Ended

pub rounds-preserved : goal.rounds-preserved
rounds-preserved g c =
    let b = c.rounds.board in
    let new = c.round.new.board in
    let e = c.in_ok-standing.ensures in
    let inv = c.rounds.invariant in
    let stands = subst (λ w. BoardStands w new) inv.board_width e.same.stands in
    record {
      running = record { stands = stands; running = goes_running b new _ e.goes c.in_default.not-Ended };
      same = record { stands = stands; instance = e.same.instance ∙ inv.same.instance; budget = e.same.budget ∙ inv.same.budget };
      board_width = e.board_counts.0 ∙ inv.board_width;
      board_unfit = omega (arith, inv.board_unfit, e.board_counts.1);
      width = e.counts.0 ∙ inv.width;
      unfit = omega (arith, inv.unfit, e.counts.1);
      calm = λ on.
          let (there, board_fits, fits) = inv.calm on in
          let kept = e.calm (subst (λ w. IsCalmOn w b) (sym inv.board_width) there) in
          (subst (λ w. IsCalmOn w new) inv.board_width kept.3, kept.0 ∙ board_fits, kept.1 ∙ fits);
    }

pub returns-in-Ended-clause-fault : goal.returns-in-Ended-clause-fault
returns-in-Ended-clause-fault g c =
    let new = c.round.new.board in
    let e = c.in_ok-standing.ensures in
    let inv = c.rounds.invariant in
    let goes : GoesOn c.rounds.board new (recorded.Ended c.in-Ended.standing) = subst (GoesOn c.rounds.board new) c.in-Ended.is e.goes in
    both_err _ _ c.end_of.result
    (ended_cause (g.A.Arith.width c.args.board.now.arith) new (subst (λ w. BoardStands w new) inv.board_width e.same.stands)
    c.args.board.now.inst.value (ap (λ a. arc_value a) (e.same.instance ∙ inv.same.instance))
    c.args.budget (e.same.budget ∙ inv.same.budget ∙ c.requires.budget) c.in-Ended.standing goes.1 c.end_of.result c.end_of.ensures.spent)
    (spent_rose c.args.budget _ _ c.end_of.result (λ f told. told.0) c.end_of.ensures.spent)
