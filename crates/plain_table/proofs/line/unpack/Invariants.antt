use Rattle.std.proofs.Common.{◌≡◌, length}
use Rattle.plain_table.proofs.Supports.{IsUnpackedTo}
use Rattle.plain_table.proofs.line.unpack.Given as goal

abbrev pub invariant-loop-k : goal.invariant-loop-k
invariant-loop-k l = record {
  count : length l.line ≡ length l.fn.line;
  unpacked : IsUnpackedTo l.columns l.packed l.fn.line l.line l.k;
}
