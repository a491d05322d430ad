use Rattle.std.proofs.Common.{◌*◌, ◌/◌, ◌%◌, ◌^◌, ◌∙◌, ap₂}
use Rattle.std.proofs.Math.Nat.{div-add-mod}
use Rattle.exact_frac.proofs.Wide.{product_by_words}
use Rattle.exact_frac.proofs.magnitude.wide_product.Goals as goal

pub returns : goal.returns
returns c =
    product_by_words (2 ^ 64) (c.args.a / 2 ^ 64) (c.args.a % 2 ^ 64) (c.args.b / 2 ^ 64) (c.args.b % 2 ^ 64) _ _ _ _ _ _ _ _
    c.carrying_mul-first.ensures c.carrying_mul-middle.ensures c.carrying_mul-second.ensures c.carrying_mul_add-third.ensures
    ∙ ap₂ ◌*◌ (div-add-mod c.args.a (2 ^ 64)) (div-add-mod c.args.b (2 ^ 64))
