-- The ends of one column changed: what they are in the deck, and which columns have a lower end set.
use Rattle.std.specs.Prelude.{◌≡◌, ℕ, zero, suc, ◌<◌, List, [], ◌∷◌, length, get_or, set, Bool, true, false, ◌&&◌, ◌||◌, ◌==◌, Some, if◌then◌else◌}
use Rattle.std.specs.List.{list_any}
use Rattle.std.proofs.Common.{refl, sym, ap, ◌∙◌, arith}
use Rattle.std.proofs.lemmas.List.Quantifiers.{position-Some}
use Rattle.lp_model.specs.Deck.{Column, Deck, column, no_column}
use Rattle.lp_model.specs.Edit.{find_column, same_bytes, with_bounds}
use Rattle.mps_reader.specs.declared.bounds.Ends.{Ends}
use Rattle.mps_reader.specs.Inner.Standing.{interval_of, deck_with, is_lowered, with_ends}

-- ── lists ──

-- other ends at j are other bounds of column j
pub with_ends-set : (cs : List Column) (ends : List Ends) (j : ℕ) (e : Ends) → j < length ends
    → set (with_ends cs ends) j (record (get_or (with_ends cs ends) j no_column) { bounds = interval_of e }) ≡ with_ends cs (set ends j e)
with_ends-set [] ends j e h = refl
with_ends-set (c ∷ cs) [] j e h = absurd (omega (arith, h))
with_ends-set (c ∷ cs) (x ∷ ends) zero e h = refl
with_ends-set (c ∷ cs) (x ∷ ends) (suc j) e h =
    let less : j < length ends = omega (arith, h) in
    ap (λ l. record c { bounds = interval_of x } ∷ l) (with_ends-set cs ends j e less)

-- the bounds of column j are between the ends at j
pub bounds-with_ends : (cs : List Column) (ends : List Ends) (j : ℕ) (e : Ends) → j < length ends → j < length cs
    → (get_or (with_ends cs ends) j no_column).bounds ≡ interval_of (get_or ends j e)
bounds-with_ends [] ends j e h k = absurd (omega (arith, k))
bounds-with_ends (c ∷ cs) [] j e h k = absurd (omega (arith, h))
bounds-with_ends (c ∷ cs) (x ∷ ends) zero e h k = refl
bounds-with_ends (c ∷ cs) (x ∷ ends) (suc j) e h k =
    let less : j < length ends = omega (arith, h) in
    let also : j < length cs = omega (arith, k) in
    bounds-with_ends cs ends j e less also

pub is_lowered-get : (ends : List Ends) (j : ℕ) (e : Ends) → j < length ends → is_lowered ends j ≡ (get_or ends j e).is_lowered
is_lowered-get [] j e h = absurd (omega (arith, h))
is_lowered-get (x ∷ ends) zero e h = refl
is_lowered-get (x ∷ ends) (suc j) e h =
    let less : j < length ends = omega (arith, h) in
    is_lowered-get ends j e less

first_only : (i : ℕ) → (0 == suc i) ≡ false
first_only i = grind arith

not_first : (j : ℕ) → (suc j == 0) ≡ false
not_first j = grind arith

both_later : (j i : ℕ) → (suc j == suc i) ≡ (j == i)
both_later j i = grind arith

none_more : (t b : Bool) → ((t && false) || b) ≡ b
none_more true b = refl
none_more false b = refl

lowered_here : (t a b : Bool) → b ≡ (t || a) → ((t && true) || a) ≡ b
lowered_here true a b h = sym h
lowered_here false a b h = sym h

-- column j is lowered where it was, or where the new ends say so
lowered_after : (t : Bool) (ends : List Ends) (j i : ℕ) (e : Ends) → j < length ends → e.is_lowered ≡ (t || is_lowered ends j)
    → ((t && (j == i)) || is_lowered ends i) ≡ is_lowered (set ends j e) i
lowered_after t [] j i e h k = absurd (omega (arith, h))
lowered_after t (x ∷ ends) zero zero e h k = lowered_here t x.is_lowered e.is_lowered k
lowered_after t (x ∷ ends) zero (suc i) e h k = ap (λ b. (t && b) || is_lowered ends i) (first_only i) ∙ none_more t (is_lowered ends i)
lowered_after t (x ∷ ends) (suc j) zero e h k = ap (λ b. (t && b) || x.is_lowered) (not_first j) ∙ none_more t x.is_lowered
lowered_after t (x ∷ ends) (suc j) (suc i) e h k =
    let less : j < length ends = omega (arith, h) in
    ap (λ b. (t && b) || is_lowered ends i) (both_later j i) ∙ lowered_after t ends j i e less k

pub lowered-set : (t : Bool) (lowered : List ℕ) (ends : List Ends) (j : ℕ) (e : Ends) → j < length ends → e.is_lowered ≡ (t || is_lowered ends j)
    → ((i : ℕ) → list_any (λ k. k == i) lowered ≡ is_lowered ends i)
    → (i : ℕ) → list_any (λ k. k == i) (if t then j ∷ lowered else lowered) ≡ is_lowered (set ends j e) i
lowered-set true lowered ends j e h k same i = ap (λ b. (j == i) || b) (same i) ∙ lowered_after true ends j i e h k
lowered-set false lowered ends j e h k same i = same i ∙ lowered_after false ends j i e h k

-- ── decks ──

module _ (d : Deck) (free_rows : List (List ℕ)) (ends : List Ends) (j : ℕ) (inside : j < length ends) where
  pub deck_with-bounds : (e : Ends) → j < length d.columns → (column (deck_with d free_rows ends) j).bounds ≡ interval_of (get_or ends j e)
  deck_with-bounds e h = bounds-with_ends d.columns ends j e inside h

  pub deck_with-set : (e : Ends) → with_bounds (deck_with d free_rows ends) j (interval_of e) ≡ deck_with d free_rows (set ends j e)
  deck_with-set e = ap (λ cs. record (deck_with d free_rows ends) { columns = cs }) (with_ends-set d.columns ends j e inside)

pub column_within : (d : Deck) (name : List ℕ) (j : ℕ) → find_column d name ≡ Some j → j < length d.columns
column_within d name j h = (position-Some (λ c. same_bytes c.name name) d.columns j no_column h).0
