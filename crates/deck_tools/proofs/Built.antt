-- A deck with one more row, or one more column.
use Rattle.std.proofs.Common.{◌≡◌, ℕ, ◌<◌, List, [], ◌∷◌, ◌++◌, length, set, None, false, refl, ap}
use Rattle.std.proofs.Common.{ap₂, ◌∙◌, arith}
use Rattle.std.specs.Prelude.{nat_lt}
use Rattle.std.proofs.Math.Seq.{get_or-append_seam, set-append_seam}
use Rattle.std.proofs.lemmas.Bool.Decides.{nat_tests}
use Rattle.rational.specs.Rational.{ℚ, eq_ℚ, one_ℚ, ratio, whole, zero_ℚ}
use Rattle.lp_model.specs.declared.RowKind.{RowKind}
use Rattle.lp_model.specs.Deck.{Column, Deck, Row, column, nonnegative, no_column, no_row}
use Rattle.lp_model.specs.Edit.{change_column, change_row, insert_entry, with_column, with_cost, with_entry, with_right, with_row}

one_is_some : eq_ℚ one_ℚ zero_ℚ ≡ false
unfolding eq_ℚ one_ℚ zero_ℚ whole ratio
one_is_some = refl

-- ── rows ──

last_row : (d : Deck) (r : Row) (f : Row → Row) → change_row (record d { rows = d.rows ++ r ∷ [] }) (length d.rows) f ≡ record d { rows = d.rows ++ f r ∷ [] }
last_row d r f =
    ap (λ x. record d { rows = set (d.rows ++ r ∷ []) (length d.rows) (f x) }) (get_or-append_seam d.rows r [] no_row)
    ∙ ap (λ l. record d { rows = l }) (set-append_seam d.rows r [] (f r))

pub row_built : (d : Deck) (name : List ℕ) (kind : RowKind) (right : ℚ)
    → with_right (with_row d name kind) (length d.rows) right ≡ record d { rows = d.rows ++ record { name = name; kind = kind; right = right; range = None } ∷ [] }
row_built d name kind right = last_row d (record no_row { name = name; kind = kind }) (λ r. record r { right = right })

-- ── columns ──

abbrev pub plus : Deck → Column → Deck
plus d c = record d { columns = d.columns ++ c ∷ [] }

pub last_column_is : (d : Deck) (c : Column) → column (plus d c) (length d.columns) ≡ c
last_column_is d c = get_or-append_seam d.columns c [] no_column

last_column : (d : Deck) (c : Column) (f : Column → Column) → change_column (plus d c) (length d.columns) f ≡ plus d (f c)
last_column d c f =
    ap (λ x. record d { columns = set (d.columns ++ c ∷ []) (length d.columns) (f x) }) (last_column_is d c)
    ∙ ap (λ l. record d { columns = l }) (set-append_seam d.columns c [] (f c))

pub costed : (d : Deck) (name : List ℕ) (cost : ℚ)
    → with_cost (with_column d name) (length d.columns) cost ≡ plus d (record no_column { name = name; cost = cost })
costed d name cost = last_column d (record no_column { name = name }) (λ c. record c { cost = cost })

-- a 1 is put in
pub one_more : (d : Deck) (c : Column) (i : ℕ)
    → with_entry (plus d c) (length d.columns) i one_ℚ ≡ plus d (record c { entries = insert_entry i one_ℚ c.entries })
one_more d c i = rw one_is_some (last_column d c (λ x. record x { entries = insert_entry i one_ℚ x.entries }))

behind : (first second : ℕ) → first < second → nat_lt second first ≡ false
behind first second h = grind (arith, nat_tests)

pub second_entry : (first second : ℕ) → first < second → insert_entry second one_ℚ ((first, one_ℚ) ∷ []) ≡ (first, one_ℚ) ∷ (second, one_ℚ) ∷ []
second_entry first second h =
    let later : nat_lt second first ≡ false = behind first second h in
    rw later refl

-- a column with its cost and a 1 in two rows
pub column_made : (d a b c e : Deck) (j : ℕ) (name : List ℕ) (cost : ℚ) (first second : ℕ) → first < second → a ≡ with_column d name → j ≡ length d.columns
    → b ≡ with_cost a j cost → c ≡ with_entry b j first one_ℚ → e ≡ with_entry c j second one_ℚ
    → e ≡ plus d (record { name = name; cost = cost; entries = (first, one_ℚ) ∷ (second, one_ℚ) ∷ []; bounds = nonnegative })
column_made d a b c e j name cost first second order made at costed_is once twice =
    let with : b ≡ plus d (record no_column { name = name; cost = cost }) =
    costed_is ∙ ap₂ (λ (x : Deck) (i : ℕ). with_cost x i cost) made at ∙ costed d name cost in
    let one : c ≡ plus d (record no_column { name = name; cost = cost; entries = (first, one_ℚ) ∷ [] }) =
    once ∙ ap₂ (λ (x : Deck) (i : ℕ). with_entry x i first one_ℚ) with at ∙ one_more d (record no_column { name = name; cost = cost }) first in
    twice ∙ ap₂ (λ (x : Deck) (i : ℕ). with_entry x i second one_ℚ) one at
    ∙ one_more d (record no_column { name = name; cost = cost; entries = (first, one_ℚ) ∷ [] }) second
    ∙ ap (λ (l : List (ℕ × ℚ)). plus d (record no_column { name = name; cost = cost; entries = l })) (second_entry first second order)
