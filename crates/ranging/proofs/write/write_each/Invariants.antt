use Rattle.std.proofs.Common.{take, Ok}
use Rattle.cert_text.specs.Names.{names_of}
use Rattle.cert_text.specs.Writes.{Writes}
use Rattle.ranging.specs.Text.{ranged_lines}
use Rattle.ranging.proofs.write.write_each.Given as goal

-- the lines of the names before this one are written
abbrev pub invariant-loop-index : goal.invariant-loop-index
invariant-loop-index g l = Writes g.K.Sink.contents g.K.Sink.fault_count l.fn.out l.out (take l.index (ranged_lines l.word l.ranges (names_of l.names))) (Ok tt)
