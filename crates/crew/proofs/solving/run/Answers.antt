use Rattle.std.proofs.Common.{◌+◌, refl, ◌∙◌, ap, sym, subst, arith}
use Rattle.two_phase.proofs.Grounds.{not_plain}
use Rattle.two_phase.proofs.Tallies.{nothing_worked}
use Rattle.crew.proofs.Calms.{calm_yet, on_ok_all, risen_if, round_worked, spent_rose}
use Rattle.plain_table.proofs.Coming.{handed_on}
use Rattle.crew.specs.Inner.Works.{HasRisen}
use Rattle.std.specs.Arc.{arc_value}
use Rattle.two_phase.specs.Board.{AreBuilt, BoardStands}
use Rattle.two_phase.specs.declared.standing.Recorded.TheVariants as recorded
use Rattle.crew.specs.Inner.Rounds.{GoesOn}
use Rattle.crew.proofs.Rounds.{ended_cause, entry_nearer}
use Rattle.crew.proofs.solving.run.Goals as goal

pub rounds-smaller-in-Entry : goal.rounds-smaller-in-Entry
rounds-smaller-in-Entry g c =
    let w = g.A.Arith.width c.rounds.board.arith in
    let e = c.in-Entry.field-0 in
    let goes : GoesOn c.rounds.board c.round.new.board (recorded.Entry e) = subst (GoesOn c.rounds.board c.round.new.board) c.in-Entry.is c.in_ok-round.ensures.goes in
    entry_nearer w c.rounds.board c.round.new.board (subst (λ w. BoardStands w c.rounds.board) (sym c.rounds.invariant.board_width) c.rounds.invariant.stands) c.in_ok-round.ensures.stands
    c.in_ok-round.ensures.instance e goes.0

pub returns-in-Ended-clause-fault : goal.returns-in-Ended-clause-fault
returns-in-Ended-clause-fault g c =
    let goes : GoesOn c.rounds.board c.round.new.board (recorded.Ended c.in-Ended.standing) = subst (GoesOn c.rounds.board c.round.new.board) c.in-Ended.is c.in_ok-round.ensures.goes in
    ended_cause (g.A.Arith.width c.args.board.now.arith) c.round.new.board (subst (λ w. BoardStands w c.round.new.board) c.rounds.invariant.board_width c.in_ok-round.ensures.stands)
    c.args.board.now.inst.value (ap (λ a. arc_value a) (c.in_ok-round.ensures.instance ∙ c.rounds.invariant.instance))
    c.args.budget (c.in_ok-round.ensures.budget ∙ c.rounds.invariant.budget ∙ c.requires.budget) c.in-Ended.standing goes.1 c.end_of.result c.end_of.ensures.spent

pub returns-in-Ended-clause-rose : goal.returns-in-Ended-clause-rose
returns-in-Ended-clause-rose g c = spent_rose c.args.budget _ _ c.end_of.result (λ f told. told.0) c.end_of.ensures.spent

pub returns-in_err-round-clause-rose : goal.returns-in_err-round-clause-rose
returns-in_err-round-clause-rose g c =
    let before = g.A.Arith.unfit_count c.args.board.now.arith in
    let after = g.A.Arith.unfit_count c.round.new.board.arith in
    let there = g.A.Arith.unfit_count c.rounds.board.arith in
    risen_if before there after c.from_residual.result c.rounds.invariant.board_unfit (handed_on _ (HasRisen there after) c.from_residual.ensures.1 c.in_err-round.ensures.rose)

pub rounds-init : goal.rounds-init
rounds-init g c =
    let b = c.args.board.now in
    record {
      stands = c.requires.stands;
      running = c.requires.running;
      instance = refl;
      budget = refl;
      board_width = refl;
      width = refl;
      unfit = omega arith;
      board_unfit = omega arith;
      calm = λ calm fresh. (fresh.built, not_plain b.ground fresh.factors, refl, refl, nothing_worked b.inst.value b.log b.updates (g.A.Arith.work_count b.arith + g.A.Arith.work_count c.args.arith.now) fresh.log fresh.updates);
    }

pub rounds-preserved-in-Entry : goal.rounds-preserved-in-Entry
rounds-preserved-in-Entry g c =
    let start = c.args.board.now in
    let b = c.rounds.board in
    let new = c.round.new.board in
    let e = c.in_ok-round.ensures in
    let inv = c.rounds.invariant in
    let before = g.A.Arith.work_count start.arith + g.A.Arith.work_count c.args.arith.now in
    let goes : GoesOn b new (recorded.Entry c.in-Entry.field-0) = subst (GoesOn b new) c.in-Entry.is e.goes in
    record {
      stands = subst (λ w. BoardStands w new) inv.board_width e.stands;
      running = goes.1;
      instance = e.instance ∙ inv.instance;
      budget = e.budget ∙ inv.budget;
      board_width = e.board_width ∙ inv.board_width;
      width = e.width ∙ inv.width;
      unfit = omega (arith, inv.unfit, e.unfit);
      board_unfit = omega (arith, inv.board_unfit, e.board_unfit);
      calm = λ calm fresh.
          let (along, factors, board_fits, fits, worked) = inv.calm calm fresh in
          let kept = e.calm (calm_yet _ _ inv.board_width start b new inv.instance calm) (subst (λ w. AreBuilt w b) (sym inv.board_width) along) factors in
          let entry = round_worked _ _ inv.board_width start b new inv.instance calm before _ _ _ _ c.in-Entry.is along factors worked (e.work before) in
          (subst (λ w. AreBuilt w new) inv.board_width (e.built (subst (λ w. AreBuilt w b) (sym inv.board_width) along)), entry.0, kept.0 ∙ board_fits, kept.1 ∙ fits, entry.1);
    }

pub rounds-preserved : goal.rounds-preserved
rounds-preserved g c =
    let start = c.args.board.now in
    let b = c.rounds.board in
    let new = c.round.new.board in
    let e = c.in_ok-round.ensures in
    let inv = c.rounds.invariant in
    let before = g.A.Arith.work_count start.arith + g.A.Arith.work_count c.args.arith.now in
    let goes : GoesOn b new recorded.Rescued = subst (GoesOn b new) c.in-Rescued.is e.goes in
    record {
      stands = subst (λ w. BoardStands w new) inv.board_width e.stands;
      running = goes.1;
      instance = e.instance ∙ inv.instance;
      budget = e.budget ∙ inv.budget;
      board_width = e.board_width ∙ inv.board_width;
      width = e.width ∙ inv.width;
      unfit = omega (arith, inv.unfit, e.unfit);
      board_unfit = omega (arith, inv.board_unfit, e.board_unfit);
      calm = λ calm fresh.
          let (along, factors, board_fits, fits, worked) = inv.calm calm fresh in
          absurd (round_worked _ _ inv.board_width start b new inv.instance calm before _ _ _ _ c.in-Rescued.is along factors worked (e.work before));
    }

pub returns-in-Ended-clause-work : goal.returns-in-Ended-clause-work
returns-in-Ended-clause-work g c calm fresh =
    let start = c.args.board.now in
    let b = c.rounds.board in
    let new = c.round.new.board in
    let e = c.in_ok-round.ensures in
    let inv = c.rounds.invariant in
    let before = g.A.Arith.work_count start.arith + g.A.Arith.work_count c.args.arith.now in
    let (along, factors, board_fits, fits, worked) = inv.calm calm fresh in
    on_ok_all c.end_of.result (round_worked _ _ inv.board_width start b new inv.instance calm before _ _ _ _ c.in-Ended.is along factors worked (e.work before))
