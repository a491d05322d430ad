use Rattle.std.proofs.Common.{◌+◌, ◌*◌}
use Rattle.plain_table.proofs.rows.+rows.Given as goal

abbrev pub decreases-eliminate_all : goal.decreases-eliminate_all
decreases-eliminate_all g l = 3 * l.depth

abbrev pub decreases-eliminate_halves : goal.decreases-eliminate_halves
decreases-eliminate_halves g l = 3 * l.depth + 2

abbrev pub decreases-eliminate_halves-back : goal.decreases-eliminate_halves-back
decreases-eliminate_halves-back g l = 3 * l.depth + 1

abbrev pub decreases-eliminate_halves-front : goal.decreases-eliminate_halves-front
decreases-eliminate_halves-front g l = 3 * l.depth + 1
