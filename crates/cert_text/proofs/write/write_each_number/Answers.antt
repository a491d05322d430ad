use Rattle.std.proofs.Common.{◌<◌, [], length, map, Ok, arith}
use Rattle.std.proofs.lemmas.List.{get_or-map, length-map}
use Rattle.lp_text.specs.Report.{number_line}
use Rattle.cert_text.proofs.Written.{Writes-next, Writes-stopped}
use Rattle.cert_text.proofs.write.write_each_number.Goals as goal

pub loop-number-preserved : goal.loop-number-preserved
loop-number-preserved g c =
    let line = number_line c.args.word.now in
    let numbers = c.args.numbers.now in
    let i = c.loop-number.number-index in
    let within : i < length numbers = omega arith in
    Writes-next {r = Ok tt} (map line numbers) i (simp length-map within) c.loop-number.invariant c.in_ok-write_line.ensures (get_or-map line numbers i _ [] within)

pub returns-in_err-write_line : goal.returns-in_err-write_line
returns-in_err-write_line g c =
    let line = number_line c.args.word.now in
    let numbers = c.args.numbers.now in
    let i = c.loop-number.number-index in
    let within : i < length numbers = omega arith in
    Writes-stopped (map line numbers) i (simp length-map within) c.loop-number.invariant c.in_err-write_line.ensures (get_or-map line numbers i _ [] within)
    c.from_residual.ensures.1
