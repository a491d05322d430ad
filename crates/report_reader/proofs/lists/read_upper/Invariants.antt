use Rattle.std.proofs.Common.{◌≡◌, ◌<◌, ◌-◌, length, map}
use Rattle.std.specs.List.{All}
use Rattle.std.specs.Prelude.{codes}
use Rattle.lp_text.specs.Report.{number_line}
use Rattle.report_lines.specs.FirstFlaw as expected
use Rattle.report_lines.specs.FirstFlaw.{column_total, repeated}
use Rattle.report_reader.specs.Reading.{IsRising}
use Rattle.report_reader.proofs.Taking.{SoFar}
use Rattle.report_reader.proofs.lists.read_upper.Given as goal

abbrev pub invariant-loop-index : goal.invariant-loop-index
invariant-loop-index g l = record {
  count : length l.list.items ≡ l._index;
  all : All (λ q. q < column_total l.deck) l.list.items;
  below : All (λ q. q < l.least) l.list.items;
  rising : IsRising l.list.items;
  taken : SoFar l.deck g.S.Source.remaining g.S.Source.fault_count l.fn.lines l.fn.source l.lines l.source
      (repeated (expected.at 0) l.count) (repeated (expected.at l.least) (l.count - l._index)) (λ ls. ls ≡ map (number_line (codes "AT")) l.list.items);
}
