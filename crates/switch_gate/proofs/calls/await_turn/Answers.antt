use Rattle.std.proofs.Common.{◌≡◌, ◌∙◌, ap, arith}
use Rattle.switch_gate.proofs.Places.{Looks-called}
use Rattle.switch_gate.proofs.Allowed.{draws, looks}
use Rattle.switch_gate.proofs.calls.await_turn.Goals as goal

pub fetch_add-turn-requires : goal.fetch_add-turn-requires
fetch_add-turn-requires g c =
    (c.requires.table.0, omega arith, draws g.T.Numbered.number g.T.Numbered.lineage _ _ _ _ c.requires.idle.1 c.requires.idle.0)

pub load-requires : goal.load-requires
load-requires g c =
    let parts : c.loop.seat.me.0.parts ≡ c.args.seat.now.me.0.parts = ap (λ m. m.0.parts) c.loop.invariant.1.2 in
    (c.loop.invariant.0 ∙ c.requires.table.0, omega arith, looks g.T.Numbered.number g.T.Numbered.lineage _ _ _ _ (omega arith))

pub returns-then-load-turn-clause-called : goal.returns-then-load-turn-clause-called
returns-then-load-turn-clause-called g c =
    let i = c.loop.invariant.1 in
    (i.0, Looks-called c.args.seat.now.me.0 c.args.seat.now.me.1 _ _ _ _ _ i.2 i.1 c.load.ensures.2 c.if-load-turn.true)
