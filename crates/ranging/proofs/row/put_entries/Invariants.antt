use Rattle.std.proofs.Common.{◌≡◌, ◌<◌, ◌≤◌, ℕ, length, true}
use Rattle.rational.specs.Sum.{at}
use Rattle.lp_run.specs.Instance.{column_count}
use Rattle.ranging.specs.Inner.Solves.{entry_by}
use Rattle.ranging.specs.Listing.{is_looked_at}
use Rattle.ranging.proofs.row.put_entries.Given as goal

-- the entries of the columns below k are put
abbrev pub invariant-loop-k : goal.invariant-loop-k
invariant-loop-k g l = record {
  width : g.A.Arith.width l.arith ≡ g.A.Arith.width l.fn.arith;
  unfit : g.A.Arith.unfit_count l.fn.arith ≤ g.A.Arith.unfit_count l.arith;
  each : length l.row ≡ column_count l.inst;
  looked : (k : ℕ) → k < l.k → is_looked_at l.inst l.state k ≡ true → at l.row k ≡ entry_by l.inst l.rates k;
}
