-- The ranges by the rows that are solved for: one position after the other.
use Rattle.std.proofs.Common.{◌≡◌, ℕ, ◌+◌, ◌<◌, List, ◌∙◌, ap}
use Rattle.lp_model.specs.declared.Status.TheVariants as status
use Rattle.rational.specs.Rational.{ℚ}
use Rattle.rational.specs.Sum.{at}
use Rattle.lp_run.specs.Instance.{Instance, row_count}
use Rattle.lp_run.specs.Solution.{Values, reduced}
use Rattle.lp_run.specs.State.{State, basic, status_of}
use Rattle.lp_run.specs.Tableau.{HasTable}
use Rattle.lp_run.proofs.Regularity.{one_prices, table_solves}
use Rattle.lp_run.proofs.Runs.{reached_has_table}
use Rattle.bland_laws.proofs.Always.{instance_holds}
use Rattle.ranging.specs.declared.limits.Limits.{Limits}
use Rattle.ranging.specs.declared.row.Vectors.{Vectors}
use Rattle.ranging.specs.Inner.Found.{AreBegun, AreWorked, TakesPosition}
use Rattle.ranging.specs.Inner.Solves.{AreKnown, AreReduced, IsRead, IsReached}
use Rattle.ranging.proofs.Known.{begun, taken}
use Rattle.ranging.proofs.Reached.{reached_kept}
use Rattle.ranging.proofs.Rows.{entry_read, row_read}

module _ (w : ℕ) (inst : Instance) (s : State) (reached : IsReached inst s) (costs : List ℚ) (known : AreReduced inst s costs) (β : List ℚ) where
  has : HasTable inst s
  has = reached_has_table inst reached.1.0 s reached.1.1

  marked : (p : ℕ) → p < row_count inst → status_of s (basic s p) ≡ status.Basic
  marked = (instance_holds inst reached.0 reached.1.0 s reached.1.1).marked

  -- before any position
  pub known_begun : (limits : Limits) → AreBegun inst s costs limits → AreKnown w inst s β 0 limits
  known_begun limits h table y is_table prices =
      begun w inst s table (reduced inst s y) β costs limits
      (λ k c l. known.looked k c l ∙ ap (λ y. reduced inst s y k) (one_prices inst s (reached_kept inst s reached).regular known.prices y known.are_prices prices)) h

  -- one position more
  pub known_more : (p : ℕ) → p < row_count inst → (value : ℚ) → value ≡ at β p → (v : Vectors) → IsRead inst s p v → (old new : Limits)
      → TakesPosition w inst s costs p value v.row.items v.rates.items old new → AreKnown w inst s β p old → AreKnown w inst s β (p + 1) new
  known_more p b value is v read old new takes before table y is_table prices =
      taken w inst s table (reduced inst s y) β (reached_kept inst s reached).valid marked p b costs value v.row.items v.rates.items old new (record {
        costs_read = λ k c l. known.looked k c l ∙ ap (λ y. reduced inst s y k) (one_prices inst s (reached_kept inst s reached).regular known.prices y known.are_prices prices);
        value_read = is;
        row_read = λ structural k c l. read.entries.looked structural k c l ∙ entry_read inst s has table is_table p b v.rates.items read.row k c;
        rates_read = λ i c. row_read inst s has table is_table p b v.rates.items read.row i c;
      }) takes (before table y is_table prices)

  -- all positions
  pub known_worked : Values inst s β → (limits : Limits) → AreKnown w inst s β (row_count inst) limits → AreWorked w inst s limits
  known_worked values limits h =
      let is_table = table_solves inst s has.table has.inverse has.entries in
      (has.table, known.prices, β, is_table, known.are_prices, values, h has.table known.prices is_table known.are_prices)
