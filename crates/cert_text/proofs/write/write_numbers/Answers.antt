use Rattle.std.proofs.Common.{map}
use Rattle.lp_text.specs.Report.{number_line}
use Rattle.cert_text.proofs.Written.{Writes-refused, Writes-then}
use Rattle.cert_text.proofs.write.write_numbers.Goals as goal

pub returns-in_err-write_line : goal.returns-in_err-write_line
returns-in_err-write_line g c =
    Writes-refused (map (number_line c.args.word.now) c.args.numbers.now) (rw c.len.ensures at c.in_err-write_line.ensures) c.from_residual.ensures.1

pub returns : goal.returns
returns g c =
    Writes-then (rw c.len.ensures at c.in_ok-write_line.ensures) (rw c.as_slice.ensures at c.write_each_number.ensures)
