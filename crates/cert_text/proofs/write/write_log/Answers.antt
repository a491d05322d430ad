use Rattle.std.proofs.Common.{map}
use Rattle.lp_text.specs.Report.{entry_line}
use Rattle.cert_text.proofs.Written.{Writes-refused, Writes-then}
use Rattle.cert_text.proofs.write.write_log.Goals as goal

pub returns-in_err-write_line : goal.returns-in_err-write_line
returns-in_err-write_line g c =
    rw c.in-Some.is (Writes-refused (map entry_line c.in-Some.log) (rw c.len.ensures at c.in_err-write_line.ensures) c.from_residual.ensures.1)

pub returns : goal.returns
returns g c =
    rw c.in-Some.is (Writes-then (rw c.len.ensures at c.in_ok-write_line.ensures) (rw c.entries.ensures at c.write_entries.ensures))
