use Rattle.std.specs.Prelude.{true, false, cond, None}
use Rattle.std.proofs.Common.{◌∙◌, ap, sym}
use Rattle.exact_frac.specs.Constants.{ratio-zero}
use Rattle.mps_reader.proofs.BoundEnds.{taken_away}
use Rattle.mps_reader.proofs.bounds.Ends.lower_below.Goals as goal
use Rattle.mps_reader.proofs.bounds.Ends.lower_below.Goals.{else-lt-via-then-lt+else-not-self, else-lt-via-else-lt}

pub returns-then-not-self : goal.returns-then-not-self
returns-then-not-self c =
    ap (λ t. cond t None c.args.self.lower) (sym c.if-not-self.true)
    ∙ taken_away c.args.value _ c.args.self.lower true c.args.self.is_lowered ratio-zero c.if-lt.ensures

pub returns-else-lt : goal.returns-else-lt
returns-else-lt c = elim c.else-lt.branch [
  | else-lt-via-then-lt+else-not-self w ↦
      ap (λ t. cond t None c.args.self.lower) (sym w.if-not-self.false)
      ∙ taken_away c.args.value _ c.args.self.lower true c.args.self.is_lowered ratio-zero (sym w.if-lt.true ∙ c.lt.ensures)
  | else-lt-via-else-lt w ↦ taken_away c.args.value _ c.args.self.lower false c.args.self.is_lowered ratio-zero (sym w.if-lt.false ∙ c.lt.ensures)
]
