use Rattle.std.proofs.Common.{length, ◌-◌, ◌≡◌, ◌≤◌, take}
use Rattle.io_ends.specs.Bytes.{Appends}
use Rattle.io_ends.proofs.ends.write_all.Given as goal

-- the first `done` bytes were taken, and no write has failed
abbrev pub invariant-loop-done : goal.invariant-loop-done
invariant-loop-done g l = record {
  within : l.done ≤ length l.piece;
  taken : Appends (g.K.Sink.contents l.fn.sink) (g.K.Sink.contents l.sink) (take l.done l.piece);
  unfailing : g.K.Sink.fault_count l.sink ≡ g.K.Sink.fault_count l.fn.sink;
}

abbrev pub decreases-loop-done : goal.decreases-loop-done
decreases-loop-done g l = length l.piece - l.done
