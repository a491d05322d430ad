use Rattle.std.proofs.Common.{Some, sym, ◌∙◌, ap, subst}
use Rattle.std.specs.Prelude.{codes}
use Rattle.lp_text.specs.Report.{basis_lines, number_lines}
use Rattle.cert_text.specs.Writes.{Writes}
use Rattle.cert_text.proofs.Written.{Writes-refused, Writes-then}
use Rattle.cert_text.proofs.write.write_basis.Goals as goal

pub returns-in_err-write_numbers : goal.returns-in_err-write_numbers
returns-in_err-write_numbers g c =
    let is = ap Some c.basis.view_is ∙ sym c.in-Some.is in
    subst (λ b. Writes g.K.Sink.contents g.K.Sink.fault_count c.args.out.now c.write_numbers.new.out (basis_lines b) c.from_residual.result) is
    (Writes-refused (number_lines (codes "UPPER") (codes "AT") c.basis.inside.upper) c.in_err-write_numbers.ensures c.from_residual.ensures.1)

pub returns : goal.returns
returns g c =
    let is = ap Some c.basis.view_is ∙ sym c.in-Some.is in
    subst (λ b. Writes g.K.Sink.contents g.K.Sink.fault_count c.args.out.now c.write_numbers-2.new.out (basis_lines b) c.write_numbers-2.result) is
    (Writes-then c.in_ok-write_numbers.ensures c.write_numbers-2.ensures)
