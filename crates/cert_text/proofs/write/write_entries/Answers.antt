use Rattle.std.proofs.Common.{◌<◌, [], length, map, Ok, arith}
use Rattle.std.proofs.lemmas.List.{get_or-map, length-map}
use Rattle.lp_text.specs.Report.{entry_line}
use Rattle.cert_text.proofs.Written.{Writes-next, Writes-stopped}
use Rattle.cert_text.proofs.write.write_entries.Goals as goal

pub loop-entry-preserved : goal.loop-entry-preserved
loop-entry-preserved g c =
    let entries = c.args.entries.now in
    let i = c.loop-entry.entry-index in
    let within : i < length entries = omega arith in
    Writes-next {r = Ok tt} (map entry_line entries) i (simp length-map within) c.loop-entry.invariant c.in_ok-write_line.ensures (get_or-map entry_line entries i _ [] within)

pub returns-in_err-write_line : goal.returns-in_err-write_line
returns-in_err-write_line g c =
    let entries = c.args.entries.now in
    let i = c.loop-entry.entry-index in
    let within : i < length entries = omega arith in
    Writes-stopped (map entry_line entries) i (simp length-map within) c.loop-entry.invariant c.in_err-write_line.ensures (get_or-map entry_line entries i _ [] within)
    c.from_residual.ensures.1
