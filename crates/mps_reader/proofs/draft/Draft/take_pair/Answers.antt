-- A pair names its row, and its number is used there.
use Rattle.std.proofs.Common.{◌<◌, length, arith, ap, sym, ◌∙◌}
use Rattle.mps_model.specs.DeckSoFar.{place_of}
use Rattle.mps_reader.specs.declared.draft.Draft.{Draft}
use Rattle.mps_reader.specs.Inner.Standing.{slot_is, slot_of}
use Rattle.mps_reader.proofs.PairSteps.{slot-marked, vacant, full_found, pair_full, pair_taken, refused}
use Rattle.mps_reader.proofs.draft.Draft.take_pair.Goals as goal

pub use_number-requires-clause-vacant : goal.use_number-requires-clause-vacant
use_number-requires-clause-vacant c = vacant c.args.how c.args.self.now c.requires.stands.0 c.requires.stands.1 c.requires.may c.in-Some.place (sym c.is_named.ensures ∙ c.if-is_named.false)

pub set-requires : goal.set-requires
set-requires c =
    let s = c.requires.stands.0 in
    let h = c.requires.stands.1 in
    let within : slot_is (length c.args.self.now.deck.rows) c.in-Some.place < length c.args.self.now.named =
    slot-marked c.args.how c.args.self.now s h c.requires.may c.args.name.now c.in-Some.place (ap (place_of s) (sym c.in_ok-name.ensures) ∙ sym (c.in-Some.ensures.place s h))
    (ap (slot_of c.args.self.now.deck c.args.self.now.free_rows.keys) (sym c.in_ok-name.ensures) ∙ sym c.in-Some.ensures.slot) in
    omega (arith, within, c.slot-slot.ensures, ap (λ (d : Draft). length d.named) c.in_ok-use_number.ensures.ok)

pub returns-in_err-use_number-clause-judged : goal.returns-in_err-use_number-clause-judged
returns-in_err-use_number-clause-judged c = λ s h. refused _ _ _ _ c.from_residual-in_err-use_number.ensures.1
    (full_found _ _ _ c.in_err-use_number.ensures.room
    (pair_full c.args.how c.args.self.now s h c.requires.may c.args.name.now c.in-Some.place
    (ap (place_of s) (sym c.in_ok-name.ensures) ∙ sym (c.in-Some.ensures.place s h))
    (ap (slot_of c.args.self.now.deck c.args.self.now.free_rows.keys) (sym c.in_ok-name.ensures) ∙ sym c.in-Some.ensures.slot)
    c.args.text.now c.in-Ok.value c.in-Ok.ensures (sym c.is_named.ensures ∙ c.if-is_named.false)))

pub returns-clause-judged : goal.returns-clause-judged
returns-clause-judged c = λ s h.
    pair_taken c.args.how c.args.self.now s h c.requires.may c.args.name.now c.in-Some.place
    (ap (place_of s) (sym c.in_ok-name.ensures) ∙ sym (c.in-Some.ensures.place s h))
    (ap (slot_of c.args.self.now.deck c.args.self.now.free_rows.keys) (sym c.in_ok-name.ensures) ∙ sym c.in-Some.ensures.slot)
    c.args.text.now c.in-Ok.value c.in-Ok.ensures (sym c.is_named.ensures ∙ c.if-is_named.false)
    c.use_number.new.self c.slot-slot.result c.set.new.self c.in_ok-use_number.ensures.ok c.slot-slot.ensures c.set.ensures c.in_ok-use_number.ensures.room
