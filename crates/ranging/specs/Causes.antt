-- Why there are no ranges.
use Rattle.std.specs.Prelude.{◌≡◌, ℕ, ◌<◌, ◌≤◌, List, [], ◌∷◌, length, Some, None}
use Rattle.lp_model.specs.declared.Entry.{Entry}
use Rattle.exact_frac.specs.Count.{raised}
use Rattle.rational.specs.Lines.{gather, subtract}
use Rattle.rational.specs.Rational.{ℚ, zero_ℚ, one_ℚ}
use Rattle.rational.specs.Sparse.{at_index, upto}
use Rattle.rational.specs.Sum.{at}
use Rattle.rational.specs.Worked.{Worked, bind, done, settle}
use Rattle.lp_run.specs.Instance.{Instance, column_count, column_kind, row_count, structural, structural_count}
use Rattle.lp_run.specs.Listing.{IsFirstUnfit}
use Rattle.lp_run.specs.Run.{IsRun}
use Rattle.lp_run.specs.Solution.{Prices, times_basis}
use Rattle.lp_run.specs.State.{State, rest}
use Rattle.bland_ratio.specs.Pricing.{kind_entries, priced}
use Rattle.factor_model.specs.Factors.{Factors, btran, ftran}
use Rattle.factor_model.specs.Vectors.{unit_vector}
use Rattle.factor_run.specs.Built.{made_anew}
use Rattle.factor_run.specs.Calm.{basic_costs}
use Rattle.ranging.specs.declared.fault.RangeFault.{RangeFault}
use Rattle.ranging.specs.declared.fault.RangeFault.TheVariants as fault
use Rattle.ranging.specs.Listing.{RangeLists, Ranged, first_wide}

-- ── what is worked over factors ──

-- the numbers less each of these columns times the value at which it rests
abbrev pub less_rests : Instance → State → List ℕ → List ℚ → Worked (List ℚ)
less_rests inst s [] v = done v
less_rests inst s (j ∷ js) v = bind (subtract (row_count inst) (rest inst s j) v (kind_entries inst (column_kind inst j))) (less_rests inst s js)

-- what the columns at rest leave of the right sides, in rising columns
abbrev pub rests_taken : Instance → State → Worked (List ℚ)
rests_taken inst s = less_rests inst s (upto (column_count inst)) inst.right

-- row p of the inverse of the basis matrix
pub record IsRowOf (inst : Instance) (s : State) (p : ℕ) (ρ : List ℚ) : Type 0 where
  pub one_each : length ρ ≡ row_count inst
  pub solves : (k : ℕ) → k < row_count inst → times_basis inst s (at ρ) k ≡ at_index k p one_ℚ

-- the negative of that row times structural k, in rising rows
abbrev pub crossed : Instance → List ℚ → ℕ → Worked ℚ
crossed inst ρ k = gather (row_count inst) ρ zero_ℚ (structural inst k).entries

-- the factors are made for the basis of the state
abbrev pub AreMade : ℕ → Instance → State → Factors → Type 0
AreMade w inst s f = settle w (made_anew inst s 0) ≡ Some (Some f)

-- factors are given up at the state: they do not fit; what the columns at rest leave does not; the basic values, the prices or a row of the
-- inverse does not, worked with the factors; an entry of the table or a reduced cost does not
pub data GivesUp (w : ℕ) (inst : Instance) (s : State) : Type 0 where
  made : settle w (made_anew inst s 0) ≡ None → GivesUp w inst s
  left : settle w (rests_taken inst s) ≡ None → GivesUp w inst s
  values : (f : Factors) → AreMade w inst s f → settle w (ftran f (rests_taken inst s).answer) ≡ None → GivesUp w inst s
  prices : (f : Factors) → AreMade w inst s f → settle w (btran f (basic_costs inst s)) ≡ None → GivesUp w inst s
  row : (f : Factors) (p : ℕ) → AreMade w inst s f → p < row_count inst → settle w (btran f (unit_vector (row_count inst) p)) ≡ None → GivesUp w inst s
  crossing : (p k : ℕ) (ρ : List ℚ) → p < row_count inst → IsRowOf inst s p ρ → k < structural_count inst → settle w (crossed inst ρ k) ≡ None → GivesUp w inst s
  cost : (y : List ℚ) (k : ℕ) → Prices inst s y → k < column_count inst → settle w (priced inst s.phase y k) ≡ None → GivesUp w inst s

-- ── causes ──

-- at the width w: the place of the run's first value that does not fit, where factors are given up too; or that of the first value of the ranges that
-- does not fit; and the count of unfit results has risen. Want of memory has no cause
abbrev pub IsRangeCause : ℕ → Instance → List Entry → ℕ → ℕ → RangeFault → Type 0
IsRangeCause w inst log before after fault.Memory = Unit {0}
IsRangeCause w inst log before after (fault.Overflow here) = ((s : State) × IsRun inst log s × IsFirstUnfit w inst log s here × GivesUp w inst s) × (raised before 1 ≤ after)
IsRangeCause w inst log before after (fault.Unfit here) = ((s : State) × (vs : List Ranged) × IsRun inst log s × RangeLists inst s vs × (first_wide w vs ≡ Some here)) × (raised before 1 ≤ after)

abbrev pub IsMemory : RangeFault → Type 0
IsMemory f = f ≡ fault.Memory
