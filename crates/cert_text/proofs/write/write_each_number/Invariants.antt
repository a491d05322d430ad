use Rattle.std.proofs.Common.{map, take, Ok}
use Rattle.lp_text.specs.Report.{number_line}
use Rattle.cert_text.specs.Writes.{Writes}
use Rattle.cert_text.proofs.write.write_each_number.Given as goal

-- the lines of the numbers before this one are written
abbrev pub invariant-loop-number : goal.invariant-loop-number
invariant-loop-number g l = Writes g.K.Sink.contents g.K.Sink.fault_count l.fn.out l.out (take l.number-index (map (number_line l.word) l.numbers)) (Ok tt)
