use Rattle.std.proofs.Common.{◌≡◌, ◌<◌, ◌-◌, length, map}
use Rattle.std.specs.List.{All}
use Rattle.std.specs.Prelude.{codes}
use Rattle.lp_text.specs.Report.{number_line}
use Rattle.report_lines.specs.FirstFlaw as expected
use Rattle.report_lines.specs.FirstFlaw.{column_total, repeated}
use Rattle.report_reader.proofs.Taking.{SoFar}
use Rattle.report_reader.proofs.lists.read_basic.Given as goal

abbrev pub invariant-loop-position : goal.invariant-loop-position
invariant-loop-position g l = record {
  count : length l.list.items ≡ l._position;
  all : All (λ q. q < column_total l.deck) l.list.items;
  taken : SoFar l.deck g.S.Source.remaining g.S.Source.fault_count l.fn.lines l.fn.source l.lines l.source
      (repeated expected.basic (length l.deck.rows)) (repeated expected.basic ((length l.deck.rows) - l._position))
      (λ ls. ls ≡ map (number_line (codes "BASIC")) l.list.items);
}
