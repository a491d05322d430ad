use Rattle.std.proofs.Common.{◌≡◌, length}
use Rattle.plain_table.specs.Inner.Rows.{AreWide}
use Rattle.plain_table.proofs.making.zero_rows.Given as goal

abbrev pub invariant-loop-made : goal.invariant-loop-made
invariant-loop-made l = record {
  count : length l.rows.items ≡ l.made;
  wide : AreWide l.width l.rows.items;
}
