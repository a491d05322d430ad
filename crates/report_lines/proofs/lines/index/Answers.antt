use Rattle.std.proofs.Common.{◌∷◌, ◌++◌, ◌∙◌, ap₂, subst, sym, List, ℕ, arith}
use Rattle.report_lines.specs.Inner.{Splits}
use Rattle.report_lines.proofs.Plain.{index_text}
use Rattle.report_lines.proofs.lines.index.Goals as goal

pub returns : goal.returns
returns c =
    let word = sym c.split.ensures.first ∙ c.in_ok-fixed.ensures in
    let outer = subst (Splits c.args.line.now) c.in-Some.is c.split.ensures.rest in
    let number = c.in-Some-number.ensures in
    let text = index_text c.in-Some.text.now c.in-Some-number.value number.0 number.1 (omega arith) in
    (outer.0 ∙ ap₂ (λ (w t : List ℕ). w ++ 32 ∷ t) word text, omega arith, omega arith)
