use Rattle.std.proofs.Common.{◌++◌, arith}
use Rattle.lp_text.specs.Digits.{digits_value}
use Rattle.number_fields.proofs.PartLemmas.{part_init, part_further, part_fine}
use Rattle.number_fields.proofs.digits.last_part.Goals as goal

pub loop-place-init : goal.loop-place-init
loop-place-init c = part_init (digits_value (c.args.whole.now ++ c.args.decimals.now))

pub returns-in-None : goal.returns-in-None
returns-in-None c =
    part_fine (digits_value (c.args.whole.now ++ c.args.decimals.now)) c.loop-place.place c.args.places c.digit-next.result c.loop-place.numer c.loop-place.denom
    (omega arith) c.digit-next.ensures c.loop-place.invariant.0 c.loop-place.invariant.1 c.in-None.ensures

pub loop-place-preserved : goal.loop-place-preserved
loop-place-preserved c = (
  part_further (digits_value (c.args.whole.now ++ c.args.decimals.now)) c.loop-place.place c.digit-next.result c.loop-place.numer c.loop-place.denom
      c.in-Some.above c.in-Some.below c.digit-next.ensures c.loop-place.invariant.0 c.loop-place.invariant.1 c.in-Some.ensures.0,
  c.in-Some.ensures.1,
)
