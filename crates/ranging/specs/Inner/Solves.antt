-- What is worked with the factors of a state's basis.
use Rattle.std.specs.Prelude.{◌≡◌, ℕ, ◌<◌, List, length, Option, Some, None, true}
use Rattle.lp_model.specs.declared.Entry.{Entry}
use Rattle.lp_model.specs.declared.Side.{Side}
use Rattle.lp_model.specs.declared.Side.TheVariants as side
use Rattle.rational.specs.Rational.{ℚ, ◌*ℚ◌, neg_ℚ}
use Rattle.rational.specs.Sum.{at, sum_ℚ}
use Rattle.rational.specs.Worked.{settle}
use Rattle.lp_run.specs.Instance.{Instance, IsWellFormed, coefficient, column_count, row_count, structural_count}
use Rattle.lp_run.specs.Run.{IsRun}
use Rattle.lp_run.specs.Solution.{IsTable, Prices, Values, basis_entry, reduced}
use Rattle.lp_run.specs.State.{State, basic}
use Rattle.factor_model.specs.Factors.{AreFactors, Factors}
use Rattle.ranging.specs.declared.factors.Solved.{Solved}
use Rattle.ranging.specs.declared.limits.Limits.{Limits}
use Rattle.ranging.specs.declared.row.Vectors.{Vectors}
use Rattle.ranging.specs.Causes.{AreMade, IsRowOf, crossed}
use Rattle.ranging.specs.Inner.Found.{AreLimits}
use Rattle.ranging.specs.Listing.{is_looked_at}

-- the state is one of a run
abbrev pub IsReached : Instance → State → Type 0
IsReached inst s = IsWellFormed inst × ((log : List Entry) × IsRun inst log s)

-- the factors are those that are made for the basis of the state
pub record AreMadeFor (w : ℕ) (inst : Instance) (s : State) (f : Factors) : Type 0 where
  pub made : AreMade w inst s f
  pub factors : AreFactors (row_count inst) f (basis_entry inst s)

-- a reduced cost for each column, which is the column's where it is looked at, at some prices of the state
pub record AreReduced (inst : Instance) (s : State) (costs : List ℚ) : Type 0 where
  pub each : length costs ≡ column_count inst
  pub prices : List ℚ
  pub are_prices : Prices inst s prices
  pub looked : (k : ℕ) → k < column_count inst → is_looked_at inst s k ≡ true → at costs k ≡ reduced inst s prices k

-- what is solved for once at a state
pub record IsSolved (w : ℕ) (inst : Instance) (s : State) (solved : Solved) : Type 0 where
  pub factors : AreMadeFor w inst s solved.factors
  pub values : Values inst s solved.values.items
  pub costs : AreReduced inst s solved.costs.items

-- ── a position ──

-- the vectors have the lengths that positions ask for
pub record AreVectors (inst : Instance) (v : Vectors) : Type 0 where
  pub unit : length v.unit.items ≡ row_count inst
  pub work : length v.work.items ≡ row_count inst
  pub rates : length v.rates.items ≡ row_count inst
  pub row : length v.row.items ≡ column_count inst

-- a row ρ of the inverse of the basis matrix times column k
abbrev pub entry_by : Instance → List ℚ → ℕ → ℚ
entry_by inst ρ k = sum_ℚ (row_count inst) (λ i. at ρ i *ℚ coefficient inst i k)

-- a number with the sign of an artificial
abbrev pub signed : Option Side → ℚ → ℚ
signed None x = x
signed (Some side.Lower) x = neg_ℚ x
signed (Some side.Upper) x = x

-- a value does not fit that is worked for the product of the row with structural k
abbrev pub IsUncrossed : ℕ → Instance → List ℚ → ℕ → Type 0
IsUncrossed w inst ρ k = (k < structural_count inst) × (settle w (crossed inst ρ k) ≡ None)

-- a row has an item for each column: where a structural is basic in position p, the entry of each column that is looked at
pub record AreEntries (inst : Instance) (s : State) (p : ℕ) (ρ row : List ℚ) : Type 0 where
  pub each : length row ≡ column_count inst
  pub looked : basic s p < structural_count inst → (k : ℕ) → k < column_count inst → is_looked_at inst s k ≡ true → at row k ≡ entry_by inst ρ k

-- position p is read
pub record IsRead (inst : Instance) (s : State) (p : ℕ) (v : Vectors) : Type 0 where
  pub vectors : AreVectors inst v
  pub row : IsRowOf inst s p v.rates.items
  pub entries : AreEntries inst s p v.rates.items v.row.items

-- what is known by the positions below this one, by the table and the prices of the state
abbrev pub AreKnown : ℕ → Instance → State → List ℚ → ℕ → Limits → Type 0
AreKnown w inst s β to limits = (table : ℕ → ℕ → ℚ) (y : List ℚ) → IsTable inst s table → Prices inst s y → AreLimits w inst s table (reduced inst s y) β to limits
