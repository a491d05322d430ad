use Rattle.std.proofs.Common.{◌∙◌, subst, sym}
use Rattle.report_lines.specs.Inner.{Splits}
use Rattle.report_lines.proofs.Values.{no_number}
use Rattle.report_lines.proofs.lines.objective.Goals as goal

pub returns-in_default : goal.returns-in_default
returns-in_default c =
    let none = subst (Splits c.args.line.now) c.in_default.is c.split.ensures.rest in
    (sym c.split.ensures.first ∙ c.in_ok-fixed.ensures, no_number _ none.1)
