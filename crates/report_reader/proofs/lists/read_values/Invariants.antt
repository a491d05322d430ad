use Rattle.std.proofs.Common.{◌≡◌, drop, length}
use Rattle.lp_model.specs.Deck.{Deck}
use Rattle.cert_text.specs.Names.{names_of}
use Rattle.report_lines.specs.FirstFlaw.{values}
use Rattle.report_reader.specs.Inner.Reads.{IsReady}
use Rattle.report_reader.proofs.Loops.{AreSoFar}
use Rattle.report_reader.proofs.Taking.{SoFar}
use Rattle.report_reader.proofs.lists.read_values.Given as goal

abbrev pub invariant-loop-index : goal.invariant-loop-index
invariant-loop-index g l = record {
  ready : IsReady l.lines;
  count : length l.list.items ≡ l.index;
  taken : (d : Deck) → SoFar d g.S.Source.remaining g.S.Source.fault_count l.fn.lines l.fn.source l.lines l.source
      (values l.word (names_of l.names)) (values l.word (drop l.index (names_of l.names))) (AreSoFar l.word (names_of l.names) l.list.items);
}
