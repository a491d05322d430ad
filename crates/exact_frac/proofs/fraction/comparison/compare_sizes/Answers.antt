use Rattle.std.proofs.Common.{◌*◌, ◌^◌, ◌<◌, ◌∙◌, sym, ap, rules}
use Rattle.std.specs.Ordering.{nat_cmp}
use Rattle.exact_frac.proofs.Wide.{cmp_scaled, cmp_low, cmp_high}
use Rattle.exact_frac.proofs.fraction.comparison.compare_sizes.Goals as goal

pub returns-then-b-d : goal.returns-then-b-d
returns-then-b-d c =
    c.cmp.ensures ∙ cmp_scaled c.args.a c.args.c c.args.d c.requires.right
    ∙ ap (λ b. nat_cmp (c.args.a * c.args.d) (c.args.c * b)) (sym c.if-b-d.true)

pub returns-then-high_left-high_right : goal.returns-then-high_left-high_right
returns-then-high_left-high_right c =
    c.cmp-then-high_left-high_right.ensures
    ∙ cmp_low _ _ _ _ _ _ c.wide_product-high_left.ensures c.wide_product-high_right.ensures c.if-high_left-high_right.true

pub returns-else-high_left-high_right : goal.returns-else-high_left-high_right
returns-else-high_left-high_right c =
    let left : c.wide_product-high_left.result.1 < 2 ^ 128 = search rules in
    let right : c.wide_product-high_right.result.1 < 2 ^ 128 = search rules in
    c.cmp-else-high_left-high_right.ensures
    ∙ cmp_high _ _ _ _ _ _ c.wide_product-high_left.ensures c.wide_product-high_right.ensures c.if-high_left-high_right.false left right
