use Rattle.std.proofs.Common.{◌<◌, length, Ok, arith}
use Rattle.lp_text.specs.Report.{value_lines}
use Rattle.cert_text.specs.Names.{names_of}
use Rattle.cert_text.proofs.ValueLines.{get_or-value_lines, length-value_lines}
use Rattle.cert_text.proofs.Written.{Writes-all, Writes-next, Writes-stopped}
use Rattle.cert_text.proofs.write.write_values.Goals as goal

pub loop-index-preserved : goal.loop-index-preserved
loop-index-preserved g c =
    let word = c.args.word.now in
    let values = c.args.values.now in
    let names = names_of c.args.names.now in
    let i = c.loop-index.index in
    let within : i < length names = omega arith in
    Writes-next {r = Ok tt} (value_lines word values names) i (simp length-value_lines within) c.loop-index.invariant c.in_ok-write_line.ensures
    (get_or-value_lines word values names i c.get-value.result c.get-name.result.now within c.get-value.ensures c.get-name.ensures)

pub returns-in_err-write_line : goal.returns-in_err-write_line
returns-in_err-write_line g c =
    let word = c.args.word.now in
    let values = c.args.values.now in
    let names = names_of c.args.names.now in
    let i = c.loop-index.index in
    let within : i < length names = omega arith in
    Writes-stopped (value_lines word values names) i (simp length-value_lines within) c.loop-index.invariant c.in_err-write_line.ensures
    (get_or-value_lines word values names i c.get-value.result c.get-name.result.now within c.get-value.ensures c.get-name.ensures)
    c.from_residual.ensures.1

pub returns : goal.returns
returns g c =
    let word = c.args.word.now in
    let values = c.args.values.now in
    let names = names_of c.args.names.now in
    Writes-all (value_lines word values names) c.loop-index.index (simp length-value_lines (omega arith)) c.loop-index.invariant
