use Rattle.std.proofs.Common.{◌+◌, ◌*◌}
use Rattle.cert_check.proofs.walk.+halves.Given as goal

abbrev pub decreases-look_all : goal.decreases-look_all
decreases-look_all g l = 3 * l.depth

abbrev pub decreases-look_halves : goal.decreases-look_halves
decreases-look_halves g l = 3 * l.depth + 2

abbrev pub decreases-look_halves-back : goal.decreases-look_halves-back
decreases-look_halves-back g l = 3 * l.depth + 1

abbrev pub decreases-look_halves-front : goal.decreases-look_halves-front
decreases-look_halves-front g l = 3 * l.depth + 1
