use Rattle.std.proofs.Common.{Option, ◌∙◌, ap₂}
use Rattle.std.specs.Option.{unwrap_or}
use Rattle.rational.specs.Rational.{ℚ}
use Rattle.exact_frac.specs.Constants.{ratio-zero}
use Rattle.sparse_steps.proofs.Entries.{entry_from}
use Rattle.sparse_steps.proofs.entry.Goals as goal

pub returns : goal.returns
returns c = c.unwrap_or.ensures ∙ ap₂ (λ (o : Option ℚ) (z : ℚ). unwrap_or o z) c.get.ensures ratio-zero ∙ entry_from c.args.column.now.pairs c.args.row
