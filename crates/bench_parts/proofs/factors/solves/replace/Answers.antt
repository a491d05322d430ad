-- The pivot element is the solution's item in the position.
use Rattle.std.proofs.Common.{◌≡◌, ◌<◌, length, ◌∙◌, true, arith}
use Rattle.std.proofs.lemmas.List.{get_or_read}
use Rattle.rational.specs.Rational.{zero_ℚ}
use Rattle.bench_parts.proofs.factors.solves.replace.Goals as goal

pub update-requires-clause-pivot : goal.update-requires-clause-pivot
update-requires-clause-pivot g c _ _ = (
  c.args.out.now,
  c.requires.form,
  λ none.
      let within : c.args.p < length c.args.out.now = omega (arith, c.requires.position, c.requires.out) in
      let element = get_or_read c.args.out.now c.args.p c.index-out-p.result within c.index-out-p.is zero_ℚ in
      let yes : c.is_zero.result ≡ true = c.is_zero.ensures.1 (element ∙ none) in
      cc,
)
