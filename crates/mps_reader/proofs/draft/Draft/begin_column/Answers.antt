-- A column is added where there is room, with bounds from 0 up and no row named.
use Rattle.std.proofs.Common.{Some, None, refl, ap, arith}
use Rattle.exact_frac.specs.Constants.{ratio-zero, zero_fits}
use Rattle.mps_reader.proofs.Columns.{begin_column-full, begun_column}
use Rattle.mps_reader.proofs.draft.Draft.begin_column.Goals as goal

pub returns-then-columns-ge-COLUMN_LIMIT-clause-judged :
    goal.returns-then-columns-ge-COLUMN_LIMIT-clause-judged
returns-then-columns-ge-COLUMN_LIMIT-clause-judged c = λ s h. begin_column-full c.args.self.now s h c.args.name (omega arith)

pub invariant_of-push : goal.invariant_of-push
invariant_of-push c = zero_fits

pub returns-clause-judged : goal.returns-clause-judged
returns-clause-judged c =
    λ s h.
    begun_column c.args.self.now s h c.args.name c.requires.at (omega arith) _ (ap (λ z. record { lower = Some z; upper = None }) ratio-zero) refl c.push.new.self c.in_ok-push.ensures.items
    c.add_column.new.self c.in_ok-add_column.ensures.ok c.clear.new.self c.clear.ensures
