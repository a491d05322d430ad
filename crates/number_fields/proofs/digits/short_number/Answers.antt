use Rattle.std.proofs.Common.{arith}
use Rattle.number_fields.proofs.Places.{short_decimals, short_whole}
use Rattle.number_fields.proofs.digits.short_number.Goals as goal

pub overflow_mul-number : goal.overflow_mul-number
overflow_mul-number c = record {
  fits = omega (
    arith,
    c.loop-byte.invariant,
    short_whole c.args.whole.now c.args.decimals.now c.loop-byte.byte-index
        c.requires.whole c.loop-byte-test.true c.requires.short,
  );
}

pub overflow_add-number : goal.overflow_add-number
overflow_add-number c = record {
  fits = omega (
    arith,
    c.loop-byte.invariant,
    c.from.ensures,
    c.from.auto,
    short_whole c.args.whole.now c.args.decimals.now c.loop-byte.byte-index c.requires.whole c.loop-byte-test.true c.requires.short,
  );
}

pub overflow_mul-number-in-loop-decimal : goal.overflow_mul-number-in-loop-decimal
overflow_mul-number-in-loop-decimal c = record {
  fits = omega (
    arith,
    c.loop-decimal.invariant,
    short_decimals c.args.whole.now c.args.decimals.now c.loop-decimal.decimal-index c.requires.whole c.requires.decimals c.loop-decimal-test.true
        c.requires.short,
  );
}

pub overflow_add-number-in-loop-decimal : goal.overflow_add-number-in-loop-decimal
overflow_add-number-in-loop-decimal c = record {
  fits = omega (
    arith,
    c.loop-decimal.invariant,
    c.from-in-loop-decimal.ensures,
    c.from-in-loop-decimal.auto,
    short_decimals c.args.whole.now c.args.decimals.now c.loop-decimal.decimal-index c.requires.whole c.requires.decimals c.loop-decimal-test.true
        c.requires.short,
  );
}
