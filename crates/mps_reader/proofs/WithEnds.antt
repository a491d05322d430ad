-- A deck with the ends of its columns, against the deck without them.
use Rattle.std.proofs.Common.{◌≡◌, ℕ, zero, suc, ◌+◌, List, [], ◌∷◌, ◌++◌, length, get_or, set, sum_by, position, cond, Some, None, Bool, true, false, not, nat_lt, refl, sym, ap, ap₂, ◌∙◌}
use Rattle.std.specs.List.{position_or_len}
use Rattle.std.proofs.lemmas.List.Sums.{sum_by-cons}
use Rattle.rational.specs.Rational.{ℚ, eq_ℚ, one_unless_zero, zero_ℚ}
use Rattle.lp_model.specs.Deck.{Column, Deck, Interval, no_column, nonnegative}
use Rattle.lp_model.specs.Edit.{change_column, entry_count, find_column, insert_entry, same_bytes, with_column, with_cost, with_entry}
use Rattle.mps_reader.specs.declared.bounds.Ends.{Ends}
use Rattle.mps_reader.specs.Inner.Standing.{interval_of, deck_with, with_ends}

-- ── lists of columns ──

pub length-with_ends : (cs : List Column) (ends : List Ends) → length (with_ends cs ends) ≡ length cs
length-with_ends [] ends = refl
length-with_ends (c ∷ cs) [] = refl
length-with_ends (c ∷ cs) (e ∷ ends) = ap suc (length-with_ends cs ends)

-- what a column's bounds do not change
module _ {X : Type 0} (f : Column → X) (blind : (c : Column) (b : Interval) → f (record c { bounds = b }) ≡ f c) where
  pub get_or-with_ends : (cs : List Column) (ends : List Ends) (j : ℕ) → f (get_or (with_ends cs ends) j no_column) ≡ f (get_or cs j no_column)
  get_or-with_ends [] ends j = refl
  get_or-with_ends (c ∷ cs) [] j = refl
  get_or-with_ends (c ∷ cs) (e ∷ ends) zero = blind c (interval_of e)
  get_or-with_ends (c ∷ cs) (e ∷ ends) (suc j) = get_or-with_ends cs ends j

module _ (p : Column → Bool) (blind : (c : Column) (b : Interval) → p (record c { bounds = b }) ≡ p c) where
  pub place-with_ends : (cs : List Column) (ends : List Ends) → position_or_len p (with_ends cs ends) ≡ position_or_len p cs
  place-with_ends [] ends = refl
  place-with_ends (c ∷ cs) [] = refl
  place-with_ends (c ∷ cs) (e ∷ ends) = ap₂ (λ b n. cond (not b) (1 + n) 0) (blind c (interval_of e)) (place-with_ends cs ends)

  pub position-with_ends : (cs : List Column) (ends : List Ends) → position p (with_ends cs ends) ≡ position p cs
  position-with_ends cs ends = ap₂ (λ n m. cond (nat_lt n m) (Some n) None) (place-with_ends cs ends) (length-with_ends cs ends)

module _ (f : Column → ℕ) (blind : (c : Column) (b : Interval) → f (record c { bounds = b }) ≡ f c) where
  pub sum_by-with_ends : (cs : List Column) (ends : List Ends) → sum_by f (with_ends cs ends) ≡ sum_by f cs
  sum_by-with_ends [] ends = refl
  sum_by-with_ends (c ∷ cs) [] = refl
  sum_by-with_ends (c ∷ cs) (e ∷ ends) =
      sum_by-cons f (record c { bounds = interval_of e }) (with_ends cs ends) ∙ ap₂ (λ n m. n + m) (blind c (interval_of e)) (sum_by-with_ends cs ends)
      ∙ sym (sum_by-cons f c cs)

-- one column more, with its ends
pub push-with_ends : (cs : List Column) (ends : List Ends) (c : Column) (e : Ends) → length ends ≡ length cs
    → with_ends (cs ++ c ∷ []) (ends ++ e ∷ []) ≡ with_ends cs ends ++ record c { bounds = interval_of e } ∷ []
push-with_ends [] [] c e same = refl
push-with_ends [] (x ∷ ends) c e same = absurd (cc same)
push-with_ends (b ∷ cs) [] c e same = absurd (cc same)
push-with_ends (b ∷ cs) (x ∷ ends) c e same =
    let fewer : length ends ≡ length cs = cc same in
    ap (λ l. record b { bounds = interval_of x } ∷ l) (push-with_ends cs ends c e fewer)

-- a change of one column that leaves its bounds
module _ (f : Column → Column) (blind : (c : Column) (b : Interval) → f (record c { bounds = b }) ≡ record (f c) { bounds = b }) where
  pub set-with_ends : (cs : List Column) (ends : List Ends) (j : ℕ) → set (with_ends cs ends) j (f (get_or (with_ends cs ends) j no_column)) ≡ with_ends (set cs j (f (get_or cs j no_column))) ends
  set-with_ends [] ends j = refl
  set-with_ends (c ∷ cs) [] zero = refl
  set-with_ends (c ∷ cs) [] (suc j) = refl
  set-with_ends (c ∷ cs) (e ∷ ends) zero = ap (λ x. x ∷ with_ends cs ends) (blind c (interval_of e))
  set-with_ends (c ∷ cs) (e ∷ ends) (suc j) = ap (λ l. record c { bounds = interval_of e } ∷ l) (set-with_ends cs ends j)

-- ── decks ──

module _ (d : Deck) (free_rows : List (List ℕ)) (ends : List Ends) where
  pub deck_with-columns : length (deck_with d free_rows ends).columns ≡ length d.columns
  deck_with-columns = length-with_ends d.columns ends

  pub deck_with-find_column : (name : List ℕ) → find_column (deck_with d free_rows ends) name ≡ find_column d name
  deck_with-find_column name = position-with_ends (λ c. same_bytes c.name name) (λ c b. refl) d.columns ends

  pub deck_with-entry_count : entry_count (deck_with d free_rows ends) ≡ entry_count d
  deck_with-entry_count = sum_by-with_ends (λ c. length c.entries + one_unless_zero c.cost) (λ c b. refl) d.columns ends

  -- a new column, whose ends go to the end
  pub deck_with-with_column : (name : List ℕ) (e : Ends) → interval_of e ≡ nonnegative → length ends ≡ length d.columns
      → deck_with (with_column d name) free_rows (ends ++ e ∷ []) ≡ with_column (deck_with d free_rows ends) name
  deck_with-with_column name e up same =
      ap (λ cs. record (deck_with d free_rows ends) { columns = cs })
      (push-with_ends d.columns ends (record no_column { name = name }) e same ∙ ap (λ b. with_ends d.columns ends ++ record no_column { name = name; bounds = b } ∷ []) up)

  -- a change of one column that leaves its bounds
  pub deck_with-change_column : (f : Column → Column) → ((c : Column) (b : Interval) → f (record c { bounds = b }) ≡ record (f c) { bounds = b }) → (j : ℕ)
      → change_column (deck_with d free_rows ends) j f ≡ deck_with (change_column d j f) free_rows ends
  deck_with-change_column f blind j = ap (λ cs. record (deck_with d free_rows ends) { columns = cs }) (set-with_ends f blind d.columns ends j)

  pub deck_with-with_cost : (j : ℕ) (v : ℚ) → with_cost (deck_with d free_rows ends) j v ≡ deck_with (with_cost d j v) free_rows ends
  deck_with-with_cost j v = deck_with-change_column (λ c. record c { cost = v }) (λ c b. refl) j

  pub deck_with-with_entry : (j i : ℕ) (v : ℚ) → with_entry (deck_with d free_rows ends) j i v ≡ deck_with (with_entry d j i v) free_rows ends
  deck_with-with_entry j i v = by_test (eq_ℚ v zero_ℚ)
    where
      by_test : (b : Bool) → cond b (deck_with d free_rows ends) (change_column (deck_with d free_rows ends) j (λ c. record c { entries = insert_entry i v c.entries }))
          ≡ deck_with (cond b d (change_column d j (λ c. record c { entries = insert_entry i v c.entries }))) free_rows ends
      by_test true = refl
      by_test false = deck_with-change_column (λ c. record c { entries = insert_entry i v c.entries }) (λ c b. refl) j
