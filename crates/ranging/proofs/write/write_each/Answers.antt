use Rattle.std.proofs.Common.{◌<◌, length, Ok, arith}
use Rattle.cert_text.specs.Names.{names_of}
use Rattle.cert_text.proofs.Written.{Writes-all, Writes-next, Writes-stopped}
use Rattle.ranging.specs.Text.{ranged_lines}
use Rattle.ranging.proofs.RangedLines.{get_or-ranged_lines, length-ranged_lines}
use Rattle.ranging.proofs.write.write_each.Goals as goal

pub loop-index-preserved : goal.loop-index-preserved
loop-index-preserved g c =
    let word = c.args.word.now in
    let ranges = c.args.ranges.now in
    let names = names_of c.args.names.now in
    let i = c.loop-index.index in
    let within : i < length names = omega arith in
    let also : i < length ranges = omega (arith, c.requires) in
    Writes-next {r = Ok tt} (ranged_lines word ranges names) i (simp length-ranged_lines within) c.loop-index.invariant c.in_ok-write_line.ensures
    (get_or-ranged_lines word ranges names i c.index-ranges-index.result c.get-name.result.now within also c.index-ranges-index.is c.get-name.ensures)

pub returns-in_err-write_line : goal.returns-in_err-write_line
returns-in_err-write_line g c =
    let word = c.args.word.now in
    let ranges = c.args.ranges.now in
    let names = names_of c.args.names.now in
    let i = c.loop-index.index in
    let within : i < length names = omega arith in
    let also : i < length ranges = omega (arith, c.requires) in
    Writes-stopped (ranged_lines word ranges names) i (simp length-ranged_lines within) c.loop-index.invariant c.in_err-write_line.ensures
    (get_or-ranged_lines word ranges names i c.index-ranges-index.result c.get-name.result.now within also c.index-ranges-index.is c.get-name.ensures)
    c.from_residual.ensures.1

pub returns : goal.returns
returns g c =
    let names = names_of c.args.names.now in
    Writes-all (ranged_lines c.args.word.now c.args.ranges.now names) c.loop-index.index (simp length-ranged_lines (omega arith)) c.loop-index.invariant
