use Rattle.std.proofs.Common.{◌∙◌, subst, sym, arith}
use Rattle.report_lines.specs.Inner.{Splits}
use Rattle.report_lines.proofs.SwapLines.{swap_line}
use Rattle.report_lines.proofs.Plain.{index_text}
use Rattle.report_lines.proofs.entries.swap.Goals as goal

pub returns : goal.returns
returns c =
    let line = c.args.line.now in
    let rest = c.in-Some.rest.now in
    let more = c.in-Some-rest.rest.now in
    let first = subst (Splits line) c.in-Some.is c.split.ensures.rest in
    let second = subst (Splits rest) c.in-Some-rest.is c.split-2.ensures.rest in
    let third = subst (Splits more) c.in-Some-end.is c.split-3.ensures.rest in
    let column = c.in-Some-number.ensures in
    let position = c.in-Some-number-2.ensures in (
      swap_line line rest more c.in-Some-end.end.now _ _ _ _ first.0 (sym c.split.ensures.first ∙ c.in_ok-fixed.ensures)
          second.0 (sym c.split-2.ensures.first ∙ index_text _ c.in-Some-number.column column.0 column.1 (omega arith))
          third.0 (sym c.split-3.ensures.first ∙ index_text _ c.in-Some-number-2.position position.0 position.1 (omega arith))
          c.in-Some-side.ensures,
      (omega arith, omega arith),
    )
