use Rattle.std.proofs.Common.{Some, ap, ◌∙◌}
use Rattle.std.specs.Prelude.{map}
use Rattle.std.specs.String.{string_bytes}
use Rattle.lp_main.proofs.Sizes.{made_within}
use Rattle.lp_main.proofs.words.served.Goals as goal

pub returns-in-Ok-Make-clause-sized : goal.returns-in-Ok-Make-clause-sized
returns-in-Ok-Make-clause-sized c =
    made_within (map string_bytes c.args.words.now) c.in-Ok-Make.size (c.in-Ok-Make.ensures ∙ ap Some c.in-Ok-Make.field-0-is)
