use Rattle.std.proofs.Common.{◌≡◌, ◌+◌, ◌-◌, ◌∙◌, ◌∷◌, Some, sym, ap, arith}
use Rattle.atomic_table.specs.Table.{rest}
use Rattle.switch_gate.proofs.Places.{held_turn}
use Rattle.switch_gate.proofs.Allowed.{adds, advances}
use Rattle.switch_gate.proofs.gate.Gate.give.Goals as goal

pub fetch_add-requires : goal.fetch_add-requires
fetch_add-requires g c =
    let hold = c.args.held.hold in
    let turn = held_turn hold.seat.me.0.place hold.holds in
    let view : c.exchange.new.seat.me.0 ≡ hold.seat.me.0 = ap (λ m. m.0) c.exchange.ensures.3 in
    let parts : c.exchange.new.seat.me.0.parts ≡ hold.seat.me.0.parts = ap (λ v. v.parts) view in
    let seen : c.exchange.new.seat.me.0.seen ≡ hold.seat.me.0.seen = ap (λ v. v.seen) view in
    let some_parts = hold.some_parts in
    let old = hold.number in (
      c.exchange.ensures.0 ∙ c.requires.gate.0,
      omega arith,
      adds g.T.Numbered.number g.T.Numbered.lineage _ _ _ _ (omega arith) turn.0 _ (ap (λ v. v.place) view ∙ turn.1) (omega arith),
    )

pub fetch_add-requires-2 : goal.fetch_add-requires-2
fetch_add-requires-2 g c =
    let hold = c.args.held.hold in
    let turn = held_turn hold.seat.me.0.place hold.holds in
    let view : c.exchange.new.seat.me.0 ≡ hold.seat.me.0 = ap (λ m. m.0) c.exchange.ensures.3 in
    let added = c.fetch_add.ensures.2 in
    let parts : c.fetch_add.new.seat.me.0.parts ≡ hold.seat.me.0.parts = ap (λ m. m.0.parts) added ∙ ap (λ v. v.parts) view in
    let seen : c.fetch_add.new.seat.me.0.seen ≡ hold.seat.me.0.seen + (c.number-number.result - hold.old) =
    ap (λ m. m.0.seen) added ∙ ap (λ v. v.seen + (c.number-number.result - hold.old)) view
    in
    let some_parts = hold.some_parts in
    let old = hold.number in
    let number = c.number-number.ensures in (
      c.fetch_add.ensures.0 ∙ (c.exchange.ensures.0 ∙ c.requires.gate.0),
      omega arith,
      advances g.T.Numbered.number g.T.Numbered.lineage _ _ _ _ (omega arith) turn.0 c.args.held.value
          (ap (λ m. m.0.place) added ∙ (ap (λ v. v.place) view ∙ turn.1))
          (ap (λ m. m.1) added ∙ (ap (λ m. m.1) c.exchange.ensures.3 ∙ ap (λ slots. (0, Some c.args.held.value) ∷ rest slots) hold.slot))
          (omega arith)
          (ap Some c.requires.lineage ∙ sym (ap (λ m. m.0.lineage) added ∙ (ap (λ v. v.lineage) view ∙ c.requires.gate.1))),
    )
