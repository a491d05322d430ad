use Rattle.std.proofs.Common.{◌*◌, ◌%◌, ◌∙◌, ap}
use Rattle.std.proofs.lemmas.Nat.{mul-mod_first}
use Rattle.exact_frac.proofs.fraction.sum.scaled_rest.Goals as goal

pub returns : goal.returns
returns c =
    c.div_rem-2.ensures.rest ∙ ap (λ r. r * c.args.by % c.args.divisor) c.div_rem.ensures.rest
    ∙ mul-mod_first c.args.a c.args.by c.args.divisor
