use Rattle.std.proofs.Common.{sym, subst}
use Rattle.two_phase.specs.Drafts.{DraftStands, IsOfRun}
use Rattle.reinverter.proofs.Followed.{parts_at, parts_stand, parts_take}
use Rattle.reinverter.proofs.replaying.replay.Goals as goal

pub follow-requires-clause-exact : goal.follow-requires-clause-exact
follow-requires-clause-exact g c κs within =
    let d = c.args.draft in
    (d.number, parts_at d c.requires.draft c.into_parts-inst.result c.into_parts-inst.ensures c.deref.result.now c.deref.ensures c.args.entry c.requires.next)

pub after-requires : goal.after-requires
after-requires g c =
    parts_take c.args.draft c.requires.draft c.into_parts-inst.result c.into_parts-inst.ensures c.deref.result.now c.deref.ensures c.args.entry c.requires.next c.in-Ok.ensures.well_formed

pub of_parts-requires : goal.of_parts-requires
of_parts-requires g c =
    (parts_stand c.args.draft c.requires.draft c.into_parts-inst.result c.into_parts-inst.ensures c.deref.result.now c.deref.ensures c.args.entry c.requires.next
    (g.A.Arith.width c.args.arith.now) c.requires.updates c.after.new.self c.after.ensures c.follow.new.factors c.in-Ok.ensures.followed).0

pub returns-in-Ok-clause-stands : goal.returns-in-Ok-clause-stands
returns-in-Ok-clause-stands g c =
    subst (λ d. DraftStands d × IsOfRun d) (sym c.of_parts.ensures)
    (parts_stand c.args.draft c.requires.draft c.into_parts-inst.result c.into_parts-inst.ensures c.deref.result.now c.deref.ensures c.args.entry c.requires.next
    (g.A.Arith.width c.args.arith.now) c.requires.updates c.after.new.self c.after.ensures c.follow.new.factors c.in-Ok.ensures.followed)
