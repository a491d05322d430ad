use Rattle.std.proofs.Common.{◌≡◌, ℕ, ◌+◌, ◌++◌, List, length, drop, sym, subst, ap, ◌∙◌, arith}
use Rattle.rational.specs.Rational.{ℚ}
use Rattle.sparse_cols.specs.Sparse.{Sparse, IsRising}
use Rattle.factor_model.specs.Vectors.{stored_from, stored_pair}
use Rattle.ft_update.proofs.Stored.{rising-stored, stored-parts, stored-ends}
use Rattle.ft_update.proofs.columns.sparse.Goals as goal

pub loop-i-preserved : goal.loop-i-preserved
loop-i-preserved c =
    let v = c.args.v.now in
    let i = c.loop-i.i in
    let x = c.index-v-i.result in
    let pairs = c.loop-i.column.pairs in
    let stored : c.store.new.column ≡ record { length = c.loop-i.column.length; pairs = pairs ++ stored_pair i x } = c.in_ok-store.ensures in
    let now = ap (λ (column : Sparse ℚ). column.pairs) stored in
    record {
      length = ap (λ (column : Sparse ℚ). column.length) stored ∙ c.loop-i.invariant.length;
      rising = subst (λ (ps : List (ℕ × ℚ)). IsRising (i + 1) 0 ps) (sym now) (rising-stored i x pairs c.loop-i.invariant.rising);
      left = ap (λ (ps : List (ℕ × ℚ)). ps ++ stored_from (i + 1) (drop (i + 1) v)) now ∙ stored-parts v i x pairs (omega arith) c.index-v-i.is ∙ c.loop-i.invariant.left;
    }

pub returns : goal.returns
returns c =
    let v = c.args.v.now in
    let pairs = c.loop-i.column.pairs in
    let same = sym (stored-ends v c.loop-i.i pairs (omega arith)) ∙ c.loop-i.invariant.left in
    ap (λ (n : ℕ). record { length = n; pairs = pairs }) c.loop-i.invariant.length ∙ ap (λ (ps : List (ℕ × ℚ)). record { length = length v; pairs = ps }) same
