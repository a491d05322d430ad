use Rattle.std.proofs.Common.{◌≡◌, ◌≤◌, length}
use Rattle.plain_table.proofs.Supports.{IsFound}
use Rattle.plain_table.proofs.support.find_support.Given as goal

abbrev pub invariant-loop-j : goal.invariant-loop-j
invariant-loop-j l = record {
  count : length l.out ≡ length l.line;
  room : l.count ≤ l.j;
  found : IsFound l.line l.out l.count l.j;
}
