use Rattle.std.proofs.Common.{sym, subst}
use Rattle.report_lines.specs.FirstFlaw.{Follows, optimal, infeasible, unbounded}
use Rattle.report_reader.specs.Inner.Lines.{after_kind}
use Rattle.report_reader.specs.declared.judges.Kind.TheVariants.{Optimal, Infeasible, Unbounded}
use Rattle.report_reader.proofs.judges.outcome_kind.Goals as goal

pub returns-then-is : goal.returns-then-is
returns-then-is c = λ d. let same = c.is.ensures.0 c.if-is.true in (same, subst (λ line. Follows d line (after_kind d Optimal)) (sym same) optimal)

pub returns-then-is-2 : goal.returns-then-is-2
returns-then-is-2 c = λ d. let same = c.is-else-is.ensures.0 c.if-is-2.true in (same, subst (λ line. Follows d line (after_kind d Infeasible)) (sym same) infeasible)

pub returns-then-is-3 : goal.returns-then-is-3
returns-then-is-3 c = λ d. let same = c.is-else-is-2.ensures.0 c.if-is-3.true in (same, subst (λ line. Follows d line (after_kind d Unbounded)) (sym same) unbounded)
