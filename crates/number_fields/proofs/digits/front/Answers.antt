use Rattle.std.proofs.Common.{◌≡◌, ◌+◌, ◌-◌, ◌*◌, ◌/◌, ◌%◌, ◌^◌, ◌<◌, ◌++◌, lit<, sym, ◌∙◌, ap₂, arith}
use Rattle.std.proofs.Math.Nat.{mod-lt}
use Rattle.lp_text.specs.Digits.{digits_value}
use Rattle.number_fields.proofs.Places.{past_first, front_more, front_large, front_small}
use Rattle.number_fields.proofs.digits.front.Goals as goal

pub loop-place-init : goal.loop-place-init
loop-place-init c =
    (sym (past_first c.args.whole.now c.args.decimals.now c.max-place.result c.requires.whole c.requires.decimals (omega (arith, c.max-place.ensures))), lit< tt, omega (arith, c.max-place.ensures))

pub returns-then-number-last : goal.returns-then-number-last
returns-then-number-last c =
    front_large (digits_value (c.args.whole.now ++ c.args.decimals.now)) c.args.places c.loop-place.place c.loop-place.number c.digit-last.result
    (omega arith) (omega arith) c.loop-place.invariant.0 c.digit-last.ensures c.if-number-last.true

pub loop-place-preserved : goal.loop-place-preserved
loop-place-preserved c =
    let n = digits_value (c.args.whole.now ++ c.args.decimals.now) in
    let k = c.loop-place.place in
    let digit : n / 10 ^ (k - 1) % 10 < 10 = mod-lt (n / 10 ^ (k - 1)) (lit< tt) in
    let same : c.digit-last.result ≡ n / 10 ^ (k - 1) % 10 = c.digit-last.ensures in (
      ap₂ (λ a b. 10 * a + b) c.loop-place.invariant.0 same ∙ front_more n k (omega arith),
      front_small c.loop-place.number c.digit-last.result (omega arith) c.if-number-last.false,
      omega arith,
    )
