use Rattle.std.proofs.Common.{◌≡◌, ◌-◌, length, map}
use Rattle.std.specs.List.{All}
use Rattle.lp_text.specs.Report.{entry_line}
use Rattle.report_lines.specs.FirstFlaw as expected
use Rattle.report_lines.specs.FirstFlaw.{column_total, repeated}
use Rattle.report_lines.specs.Judged.{IsWithin}
use Rattle.report_reader.proofs.Taking.{SoFar}
use Rattle.report_reader.proofs.lists.read_entries.Given as goal

abbrev pub invariant-loop-index : goal.invariant-loop-index
invariant-loop-index g l = record {
  count : length l.log ≡ l._index;
  all : All (IsWithin (column_total l.deck) (length l.deck.rows)) l.log;
  taken : SoFar l.deck g.S.Source.remaining g.S.Source.fault_count l.fn.lines l.fn.source l.lines l.source
      (repeated expected.entry l.count) (repeated expected.entry (l.count - l._index)) (λ ls. ls ≡ map (entry_line) l.log);
}
