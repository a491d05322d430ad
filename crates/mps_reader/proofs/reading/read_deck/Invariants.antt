use Rattle.std.proofs.Common.{◌≡◌, ◌-◌}
use Rattle.lp_text.specs.Limits.{byte_limit}
use Rattle.mps_reader.specs.Answers.{IsReadAsNeeded}
use Rattle.mps_reader.specs.Inner.Reached.{Reached}
use Rattle.mps_reader.proofs.reading.read_deck.Given as goal

abbrev pub invariant-lines : goal.invariant-lines
invariant-lines g l = record {
  reached : Reached l.form l.fn.lines.kept (g.S.Source.remaining l.fn.source) (g.S.Source.remaining l.source) l.lines l.draft;
  needed : IsReadAsNeeded l.form l.fn.lines.kept (g.S.Source.remaining l.fn.source) (g.S.Source.remaining l.source);
  stays : g.S.Source.fault_count l.source ≡ g.S.Source.fault_count l.fn.source;
}

-- each line has a byte
abbrev pub decreases-lines : goal.decreases-lines
decreases-lines g l = byte_limit - l.lines.since
