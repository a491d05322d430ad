-- Flags of numbers.
use Rattle.std.specs.Prelude.{◌≡◌, ℕ, ◌<◌, Bool, true, false, List, slice_index_or}

-- whether the flag of i is set
abbrev pub is_set : List Bool → ℕ → Bool
is_set flags i = slice_index_or flags i false

-- i is the first number whose flag is set
pub record IsFirstSet (flags : List Bool) (i : ℕ) : Type 0 where
  pub set : is_set flags i ≡ true
  pub none_before : (j : ℕ) → j < i → is_set flags j ≡ false

-- no flag is set
abbrev pub NoneSet : List Bool → Type 0
NoneSet flags = (i : ℕ) → is_set flags i ≡ false
