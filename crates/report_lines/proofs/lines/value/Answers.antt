use Rattle.std.proofs.Common.{◌∙◌, ap, subst, sym}
use Rattle.report_lines.specs.Inner.{Splits}
use Rattle.report_lines.specs.Judged.{part}
use Rattle.report_lines.proofs.Values.{no_part, value_misnamed}
use Rattle.report_lines.proofs.lines.value.Goals as goal

pub returns-in_default : goal.returns-in_default
returns-in_default c =
    let none = subst (Splits c.args.line.now) c.in_default.is c.split.ensures.rest in
    (sym c.split.ensures.first ∙ c.in_ok-fixed.ensures, no_part _ none.1)

pub returns-else-is_name : goal.returns-else-is_name
returns-else-is_name c =
    let rest = c.in-Some.rest.now in
    let word = sym c.split.ensures.first ∙ c.in_ok-fixed.ensures in
    let outer = subst (Splits c.args.line.now) c.in-Some.is c.split.ensures.rest in
    let text = c.in-Some-read.ensures.0 ∙ c.split-2.ensures.first in (
      c.in-Some-read.value,
      word,
      record { text_is = text ∙ ap part (sym outer.1); fits = c.in-Some-read.ensures.1 },
      value_misnamed c.args.line.now c.args.word.now rest c.args.name.now _ c.split-2.result.1 outer.0 word text c.split-2.ensures.rest
          (λ is. let yes = c.is_name.ensures.1 is in let no = c.if-is_name.false in cc),
    )
