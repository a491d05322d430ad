use Rattle.std.proofs.Common.{map, take, Ok}
use Rattle.lp_text.specs.Report.{entry_line}
use Rattle.cert_text.specs.Writes.{Writes}
use Rattle.cert_text.proofs.write.write_entries.Given as goal

-- the lines of the entries before this one are written
abbrev pub invariant-loop-entry : goal.invariant-loop-entry
invariant-loop-entry g l = Writes g.K.Sink.contents g.K.Sink.fault_count l.fn.out l.out (take l.entry-index (map entry_line l.entries)) (Ok tt)
