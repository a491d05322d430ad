-- The plain table at the last state of a run: what of it a position reads, and why there is none.
use Rattle.std.proofs.Common.{◌≡◌, ℕ, ◌+◌, ◌<◌, List, ◌++◌, length, Err, ◌∙◌, ap, arith}
use Rattle.std.proofs.lemmas.List.{append_assoc}
use Rattle.lp_model.specs.declared.Entry.{Entry}
use Rattle.lp_model.specs.declared.Place.{Place}
use Rattle.lp_model.specs.declared.Status.TheVariants as status
use Rattle.rational.specs.Rational.{ℚ}
use Rattle.rational.specs.Sum.{at}
use Rattle.lp_run.specs.Instance.{Instance, IsWellFormed, column_count, row_count, structural_count}
use Rattle.lp_run.specs.Listing.{IsFirstUnfit, StartFits, first_unfit, start_listing}
use Rattle.lp_run.specs.Run.{IsRun}
use Rattle.lp_run.specs.Solution.{reduced}
use Rattle.lp_run.specs.State.{IsState, State, basic, status_of}
use Rattle.lp_run.proofs.FirstUnfit.{fit-append, unfit-append}
use Rattle.bland_laws.proofs.Always.{instance_holds, kept}
use Rattle.bland_laws.proofs.Existence.{goes_on_or_ends}
use Rattle.table_laws.specs.Fitted.{HasOverflown}
use Rattle.plain_table.specs.Next.{prices}
use Rattle.plain_table.specs.Plain.{Plain, Stands, cell}
use Rattle.plain_table.proofs.Replays.{listed_there}
use Rattle.ranging.specs.declared.limits.Limits.{Limits}
use Rattle.ranging.specs.Inner.Found.{AreBegun, AreLimits, IsTableFault, TakesPosition, range_fault}
use Rattle.plain_table.specs.Answers.{Refuses, unfit_after_making}
use Rattle.plain_table.specs.declared.faults.TableFault.{TableFault}
use Rattle.plain_table.specs.declared.faults.TableFault.TheVariants as table
use Rattle.ranging.proofs.Known.{begun, taken}

-- what is worked before a state is listed up to it
pub table_refused : (w : ℕ) (inst : Instance) → IsWellFormed inst → StartFits w inst → (log : List Entry) (s : State) → IsRun inst log s → (here : Place) → HasOverflown w inst log here
    → (s : State) × IsRun inst log s × IsFirstUnfit w inst log s here
table_refused w inst well_formed start log s run here h =
    let holds = instance_holds inst well_formed log s run in
    let now = listed_there inst (length log) s holds.table (goes_on_or_ends inst s holds) in (
      s,
      run,
      (
        h.before,
        now.0,
        h.worked,
        now.1,
        ap (first_unfit w) (append_assoc (start_listing inst) h.before now.0) ∙ fit-append w (start_listing inst) (h.before ++ now.0) start ∙ unfit-append w h.before now.0 here h.first,
      ),
    )

pub refused_told : (w : ℕ) (inst : Instance) → IsWellFormed inst → StartFits w inst → (log : List Entry) (s : State) → IsRun inst log s → (before after : ℕ) (f : TableFault)
    → Refuses w inst log f → after ≡ unfit_after_making {A = Plain} before (Err f) → IsTableFault w inst log before after (range_fault f)
refused_told w inst well_formed start log s run before after table.Memory h rose = tt
refused_told w inst well_formed start log s run before after (table.Overflow here) h rose = (table_refused w inst well_formed start log s run here h, omega (arith, rose))

module _ (w : ℕ) (inst : Instance) (well_formed : IsWellFormed inst) (log : List Entry) (t : Plain) (stands : Stands inst log t) where
  valid : IsState inst t.state
  valid = (kept inst well_formed log t.state stands.table.reached).valid

  marked : (p : ℕ) → p < row_count inst → status_of t.state (basic t.state p) ≡ status.Basic
  marked = (instance_holds inst well_formed log t.state stands.table.reached).marked

  -- one position more, of the rows of the table
  pub table_taken : (p : ℕ) → p < row_count inst → (value : ℚ) (row rates : List ℚ) (old new : Limits) → value ≡ at t.values p
      → ((k : ℕ) → k < column_count inst → at row k ≡ cell t p k) → ((i : ℕ) → i < row_count inst → at rates i ≡ cell t p (structural_count inst + i))
      → TakesPosition w inst t.state t.costs p value row rates old new → AreLimits w inst t.state (cell t) (reduced inst t.state (prices inst t)) t.values p old
      → AreLimits w inst t.state (cell t) (reduced inst t.state (prices inst t)) t.values (p + 1) new
  table_taken p b value row rates old new is_value is_row is_rates takes known =
      taken w inst t.state (cell t) (reduced inst t.state (prices inst t)) t.values valid marked p b t.costs value row rates old new (record {
        costs_read = λ k c _. stands.table.costs k c;
        value_read = is_value;
        row_read = λ _ k c _. is_row k c;
        rates_read = is_rates;
      }) takes known

  -- before any position
  pub table_begun : (limits : Limits) → AreBegun inst t.state t.costs limits → AreLimits w inst t.state (cell t) (reduced inst t.state (prices inst t)) t.values 0 limits
  table_begun limits h = begun w inst t.state (cell t) (reduced inst t.state (prices inst t)) t.values t.costs limits (λ k c _. stands.table.costs k c) h
