use Rattle.std.proofs.Common.{◌≡◌, ◌≤◌, ◌+◌, ◌-◌, length, vec_len}
use Rattle.mps_cards.proofs.GatheringLemmas.{IsGathering}
use Rattle.mps_cards.proofs.gathering.gather.Given as goal

-- the line so far, which no fault has cut
abbrev pub invariant-pieces : goal.invariant-pieces
invariant-pieces g l = record {
  so_far : IsGathering l.fn.ahead (g.S.Source.remaining l.fn.source) l.since l.asked.most l.asked.keep l.ahead (g.S.Source.remaining l.source) l.line.bytes.items l.line.longer l.line.through;
  few : vec_len l.line.bytes ≤ l.asked.keep;
  stays : g.S.Source.fault_count l.source ≡ g.S.Source.fault_count l.fn.source;
}

-- each piece but the first has a byte
abbrev pub decreases-pieces : goal.decreases-pieces
decreases-pieces g l = l.asked.most - l.line.through + (1 - length l.ahead)
