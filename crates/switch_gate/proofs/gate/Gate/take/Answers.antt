use Rattle.std.proofs.Common.{◌≡◌, ◌∙◌, ◌∷◌, Some, sym, ap, arith}
use Rattle.atomic_table.specs.Table.{rest}
use Rattle.switch_gate.proofs.Allowed.{takes_value}
use Rattle.switch_gate.proofs.gate.Gate.take.Goals as goal

pub load-old-requires : goal.load-old-requires
load-old-requires g c =
    let pass = c.args.pass in
    let called = c.await_turn.ensures.called in
    let parts : c.await_turn.new.seat.me.0.parts ≡ pass.seat.me.0.parts = ap (λ m. m.0.parts) called.1 in (
      c.await_turn.ensures.table ∙ c.requires.0,
      omega arith,
      takes_value g.T.Numbered.number g.T.Numbered.lineage _ _ _ _ (omega arith) called.0 (ap (λ m. m.0.place) called.1),
    )

pub exchange-requires : goal.exchange-requires
exchange-requires g c =
    let takes = c.load-old.ensures.2 in (
      c.load-old.ensures.0 ∙ (c.await_turn.ensures.table ∙ c.requires.0),
      (Some takes.1, ap (λ m. m.1) takes.6 ∙ ap (λ slots. (0, Some takes.1) ∷ slots) (sym (ap (λ m. rest m.1) takes.6))),
    )
