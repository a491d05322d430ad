use Rattle.std.proofs.Common.{◌≡◌, refl, ◌∙◌, [], arith}
use Rattle.std.proofs.lemmas.Result.{err_from_is_err_and}
use Rattle.mps_cards.proofs.GatheringLemmas.{FailsToRead-turn, Gathers-ended, Gathers-unended, IsAtEnd-read, IsGatherFault-piece, IsGathering-start, IsGathering-turn, empty_from_none}
use Rattle.mps_cards.proofs.gathering.gather.Goals as goal

pub pieces-init : goal.pieces-init
pieces-init g c = record {
  so_far = rw c.new.ensures.items (IsGathering-start c.args.ahead.now (g.S.Source.remaining c.args.source.now) c.args.since c.args.asked.most c.args.asked.keep c.requires);
  few = omega (arith, c.new.ensures.len);
  stays = refl;
}

pub returns-in_err-take_from-clause-fault : goal.returns-in_err-take_from-clause-fault
returns-in_err-take_from-clause-fault g c =
    let p = err_from_is_err_and c.from_residual.result c.from_residual.ensures.1 in
    rw (p.1, p.2)
    (IsGatherFault-piece _ _ _ _ _ _ c.pieces.line c.pieces.invariant.so_far _ _ c.pieces.invariant.stays _ c.in_err-take_from.ensures.fault)

pub returns-then-branch-clause-line : goal.returns-then-branch-clause-line
returns-then-branch-clause-line g c =
    Gathers-ended _ _ _ _ _ _ c.pieces.line c.pieces.invariant.so_far c.take_from.new.self _ _ _ c.if-branch.true c.in_ok-take_from.ensures.ok c.finished.ensures

pub returns-in_err-fill-clause-fault : goal.returns-in_err-fill-clause-fault
returns-in_err-fill-clause-fault g c =
    let p = err_from_is_err_and c.from_residual-in_err-fill.result c.from_residual-in_err-fill.ensures.1 in
    rw (p.1, p.2)
    (FailsToRead-turn _ _ _ _ _ _ c.pieces.line c.pieces.invariant.so_far c.take_from.new.self _ _ _ _ _ _ c.if-branch.false c.in_ok-take_from.ensures.ok
    c.in_err-fill.ensures.kept c.pieces.invariant.stays c.in_err-fill.ensures.rose)

pub returns-then-not-branch-clause-line : goal.returns-then-not-branch-clause-line
returns-then-not-branch-clause-line g c =
    let read = IsGathering-turn _ _ _ _ _ _ c.pieces.line c.pieces.invariant.so_far c.take_from.new.self _ _ _ _ c.if-branch.false c.in_ok-take_from.ensures.ok
    c.in_ok-fill.ensures.given c.in_ok-fill.ensures.few in
    let empty : c.fill.new.self ≡ [] = empty_from_none c.in_ok-fill.field-0 c.fill.new.self c.if-not-branch.true c.in_ok-fill.ensures.more.1 in
    Gathers-unended _ _ _ _ _ _ c.take_from.new.self read _ (IsAtEnd-read _ _ _ c.in_ok-fill.ensures.given c.in_ok-fill.ensures.end empty) (omega arith) c.finished-then-not-branch.ensures

pub returns-then-not-branch-clause-needed : goal.returns-then-not-branch-clause-needed
returns-then-not-branch-clause-needed g c =
    let read = IsGathering-turn _ _ _ _ _ _ c.pieces.line c.pieces.invariant.so_far c.take_from.new.self _ _ _ _ c.if-branch.false c.in_ok-take_from.ensures.ok
    c.in_ok-fill.ensures.given c.in_ok-fill.ensures.few in
    read.takes

pub pieces-preserved : goal.pieces-preserved
pieces-preserved g c = record {
  so_far = IsGathering-turn _ _ _ _ _ _ c.pieces.line c.pieces.invariant.so_far c.take_from.new.self _ _ _ _ c.if-branch.false c.in_ok-take_from.ensures.ok
      c.in_ok-fill.ensures.given c.in_ok-fill.ensures.few;
  few = c.in_ok-take_from.ensures.few;
  stays = c.in_ok-fill.ensures.stays ∙ c.pieces.invariant.stays;
}
