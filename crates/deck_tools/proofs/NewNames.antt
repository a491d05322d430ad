-- The names of a transport deck differ.
use Rattle.std.proofs.Common.{◌≡◌, ◌≢◌, ℕ, zero, suc, ◌+◌, ◌*◌, ◌/◌, ◌%◌, ◌<◌, ◌≤◌, List, [], ◌∷◌, ◌++◌, length, map, Some}
use Rattle.std.proofs.Common.{None, is_some, Bool, false, cond, refl, sym, subst, ap, ap₂, ◌∙◌, arith, append_assoc, length-append, nat_eq}
use Rattle.std.proofs.Common.{nat_lt}
use Rattle.std.specs.Prelude.{◌&&◌, ◌||◌, position, codes}
use Rattle.std.specs.Fmt.{decimal}
use Rattle.std.specs.List.{All, position_or_len}
use Rattle.std.specs.Str.{bytes_eq}
use Rattle.std.specs.Str.Parse.{AllDigits}
use Rattle.std.proofs.Math.Nat.{div-add-mod, div-le_self, mul-le-mul_left}
use Rattle.std.proofs.lemmas.Bool.{false_from_ne_true}
use Rattle.std.proofs.lemmas.Bool.Decides.{nat_tests}
use Rattle.std.proofs.lemmas.Fmt.{decimal_injective, decimal_is_IsNumeral}
use Rattle.std.proofs.lemmas.List.Elements.{All-append}
use Rattle.std.proofs.lemmas.List.FromFn.{map-range_with_len_more, get_or-map-range_with_len, length-map-range_with_len}
use Rattle.std.proofs.lemmas.List.Sums.{position_or_len_is}
use Rattle.std.proofs.lemmas.Slice.Eq.{bytes_eq-Decides}
use Rattle.std.proofs.lemmas.Str.Parse.{digit_from_value}
use Rattle.rational.specs.Rational.{ℚ, one_ℚ}
use Rattle.rational.specs.Sparse.{upto}
use Rattle.lp_model.specs.declared.RowKind.TheVariants.{L, G}
use Rattle.lp_model.specs.Deck.{Column, Deck, Row, no_column, no_row, nonnegative}
use Rattle.lp_model.specs.Edit.{is_column_name, is_row_name, new_deck, same_bytes}
use Rattle.deck_tools.proofs.Built.{plus}
use Rattle.deck_tools.specs.Transport.{cost_of, number, route, sink, source, transport}

-- ── no item passes ──

nat_lt-irrefl : (n : ℕ) → nat_lt n n ≡ false
nat_lt-irrefl n = grind (arith, nat_tests)

position-none : {X : Type 0} (p : X → Bool) (xs : List X) (d : X) → All (λ x. p x ≡ false) xs → position p xs ≡ None
position-none p xs d fails =
    let past : position_or_len p xs ≡ length xs = position_or_len_is p xs (length xs) d (omega arith) (λ k below. fails k d below) (λ within. absurd (omega arith)) in
    ap (λ n. cond (nat_lt n (length xs)) (Some n) None) past ∙ ap (λ b. cond b (Some (length xs)) None) (nat_lt-irrefl (length xs))

all_upto : {X : Type 0} (P : X → Type 0) (f : ℕ → X) (n : ℕ) → ((j : ℕ) → j < n → P (f j)) → All P (map f (upto n))
all_upto P f n each k d below =
    let within : k < n = rw length-map-range_with_len at below in
    subst P (sym (get_or-map-range_with_len f 0 n k k d within (omega arith))) (each k within)

-- ── names that differ ──

same_bytes-is : (xs ys : List ℕ) → same_bytes xs ys ≡ bytes_eq xs ys
same_bytes-is [] [] = refl
same_bytes-is [] (y ∷ ys) = refl
same_bytes-is (x ∷ xs) [] = refl
same_bytes-is (x ∷ xs) (y ∷ ys) = ap (λ b. nat_eq x y && b) (same_bytes-is xs ys)

differ : (xs ys : List ℕ) → (xs ≡ ys → ⊥) → same_bytes xs ys ≡ false
differ xs ys apart = same_bytes-is xs ys ∙ false_from_ne_true (bytes_eq xs ys) (λ e. apart ((bytes_eq-Decides xs ys).0 e))

tails : (c : ℕ) (xs ys : List ℕ) → c ∷ xs ≡ c ∷ ys → xs ≡ ys
tails c xs ys e = cc

pub numbered_differ : (c i j : ℕ) → i < 1000 → j < 1000 → i ≢ j → same_bytes (c ∷ decimal (i + 1)) (c ∷ decimal (j + 1)) ≡ false
numbered_differ c i j small few apart = differ (c ∷ decimal (i + 1)) (c ∷ decimal (j + 1))
    (λ e. let same : i + 1 ≡ j + 1 = decimal_injective (i + 1) (j + 1) (omega arith) (omega arith) (tails c (decimal (i + 1)) (decimal (j + 1)) e) in apart (omega arith))

-- digits before a byte that is none
cut : (ds es xs ys : List ℕ) → AllDigits 10 ds → AllDigits 10 es → ds ++ 95 ∷ xs ≡ es ++ 95 ∷ ys → (ds ≡ es) × (xs ≡ ys)
cut [] [] xs ys p q e = (refl, cc)
cut [] (c ∷ es) xs ys p q e =
    let range = digit_from_value c q.0 in
    let head : 95 ≡ c = cc in
    absurd (omega arith)
cut (c ∷ ds) [] xs ys p q e =
    let range = digit_from_value c p.0 in
    let head : c ≡ 95 = cc in
    absurd (omega arith)
cut (c ∷ ds) (b ∷ es) xs ys p q e =
    let head : c ≡ b = cc in
    let rest : ds ++ 95 ∷ xs ≡ es ++ 95 ∷ ys = cc in
    let below = cut ds es xs ys p.1 q.1 rest in
    (ap₂ (λ x l. x ∷ l) head below.0, below.1)

pub routes_differ : (i j k l : ℕ) → i < 1000 → j < 1000 → k < 1000 → l < 1000 → (i ≡ k → j ≡ l → ⊥)
    → same_bytes (88 ∷ decimal (i + 1) ++ 95 ∷ decimal (j + 1)) (88 ∷ decimal (k + 1) ++ 95 ∷ decimal (l + 1)) ≡ false
routes_differ i j k l a b c d apart = differ (88 ∷ decimal (i + 1) ++ 95 ∷ decimal (j + 1)) (88 ∷ decimal (k + 1) ++ 95 ∷ decimal (l + 1)) (λ e.
    let parts = cut (decimal (i + 1)) (decimal (k + 1)) (decimal (j + 1)) (decimal (l + 1))
    (decimal_is_IsNumeral (i + 1) (omega arith)).0.1 (decimal_is_IsNumeral (k + 1) (omega arith)).0.1
    (tails 88 (decimal (i + 1) ++ 95 ∷ decimal (j + 1)) (decimal (k + 1) ++ 95 ∷ decimal (l + 1)) e) in
    let first : i + 1 ≡ k + 1 = decimal_injective (i + 1) (k + 1) (omega arith) (omega arith) parts.0 in
    let second : j + 1 ≡ l + 1 = decimal_injective (j + 1) (l + 1) (omega arith) (omega arith) parts.1 in
    apart (omega arith) (omega arith))

-- ── the rows and the columns so far have other names ──

no_name : (d : Deck) (name : List ℕ) → same_bytes d.objective name ≡ false → All (λ r. same_bytes r.name name ≡ false) d.rows → is_row_name d name ≡ false
no_name d name objective rows = ap₂ (λ a o. a || is_some o) objective (position-none (λ r. same_bytes r.name name) d.rows no_row rows)

pub new_source : (d : Deck) (k : ℕ) → k < 20 → d.objective ≡ codes "COST" → d.rows ≡ map source (upto k) → is_row_name d (83 ∷ decimal (k + 1)) ≡ false
new_source d k few objective rows =
    no_name d (83 ∷ decimal (k + 1)) (ap (λ o. same_bytes o (83 ∷ decimal (k + 1))) objective)
    (subst (λ l. All (λ r. same_bytes r.name (83 ∷ decimal (k + 1)) ≡ false) l) (sym rows)
    (all_upto (λ r. same_bytes r.name (83 ∷ decimal (k + 1)) ≡ false) source k (λ j below. numbered_differ 83 j k (omega arith) (omega arith) (λ e. omega arith))))

pub new_sink : (d : Deck) (n k : ℕ) → k < n → n ≤ 20 → d.objective ≡ codes "COST" → d.rows ≡ map source (upto n) ++ map sink (upto k)
    → is_row_name d (68 ∷ decimal (k + 1)) ≡ false
new_sink d n k within few objective rows =
    no_name d (68 ∷ decimal (k + 1)) (ap (λ o. same_bytes o (68 ∷ decimal (k + 1))) objective)
    (subst (λ l. All (λ r. same_bytes r.name (68 ∷ decimal (k + 1)) ≡ false) l) (sym rows)
    (All-append (λ r. same_bytes r.name (68 ∷ decimal (k + 1)) ≡ false) (map source (upto n)) (map sink (upto k))
    (all_upto (λ r. same_bytes r.name (68 ∷ decimal (k + 1)) ≡ false) source n (λ j below. refl))
    (all_upto (λ r. same_bytes r.name (68 ∷ decimal (k + 1)) ≡ false) sink k (λ j below. numbered_differ 68 j k (omega arith) (omega arith) (λ e. omega arith)))))

size_pos : (k n : ℕ) → k < n * n → 0 < n
size_pos k zero within = absurd (omega arith)
size_pos k (suc n) within = omega arith

square_most : (n : ℕ) → n ≤ 20 → n * n ≤ 400
square_most n few =
    let row : n * n ≤ n * 20 = mul-le-mul_left n few in
    omega (arith, row)

pub new_route : (d : Deck) (n k : ℕ) → k < n * n → n ≤ 20 → d.columns ≡ map (route n) (upto k)
    → is_column_name d (88 ∷ decimal (k / n + 1) ++ 95 ∷ decimal (k % n + 1)) ≡ false
new_route d n k within few columns =
    let some : 0 < n = size_pos k n within in
    let most : n * n ≤ 400 = square_most n few in
    let name = 88 ∷ decimal (k / n + 1) ++ 95 ∷ decimal (k % n + 1) in
    ap is_some (position-none (λ c. same_bytes c.name name) d.columns no_column
    (subst (λ l. All (λ c. same_bytes c.name name ≡ false) l) (sym columns)
    (all_upto (λ c. same_bytes c.name name ≡ false) (route n) k (λ j below.
    routes_differ (j / n) (j % n) (k / n) (k % n)
    (omega (arith, div-le_self j n)) (omega arith) (omega (arith, div-le_self k n)) (omega arith)
    (λ e f. let same : j ≡ k = sym (div-add-mod j n) ∙ ap₂ (λ a b. n * a + b) e f ∙ div-add-mod k n in omega arith)))))

-- ── one more row, and one more column ──

abbrev pub based : List Row → Deck
based rows = record (new_deck (codes "MAKE") (codes "COST")) { rows = rows }

pub source_added : (d e : Deck) (k : ℕ) (name : List ℕ) (right : ℚ) → d ≡ based (map source (upto k)) → name ≡ 83 ∷ decimal (k + 1)
    → right ≡ number (20 + (k + 1) % 5)
    → e ≡ record d { rows = d.rows ++ record { name = name; kind = L; right = right; range = None } ∷ [] } → e ≡ based (map source (upto (k + 1)))
source_added d e k name right before named valued more =
    more ∙ ap (λ (x : Deck). record x { rows = x.rows ++ record { name = name; kind = L; right = right; range = None } ∷ [] }) before
    ∙ ap₂ (λ (a : List ℕ) (b : ℚ). based (map source (upto k) ++ record { name = a; kind = L; right = b; range = None } ∷ [])) named valued
    ∙ ap based (sym (map-range_with_len_more source 0 k k (omega arith)))

pub sink_added : (d e : Deck) (n k : ℕ) (name : List ℕ) (right : ℚ) → d ≡ based (map source (upto n) ++ map sink (upto k))
    → name ≡ 68 ∷ decimal (k + 1) → right ≡ number (15 + (k + 1) % 4)
    → e ≡ record d { rows = d.rows ++ record { name = name; kind = G; right = right; range = None } ∷ [] } → e ≡ based (map source (upto n) ++ map sink (upto (k + 1)))
sink_added d e n k name right before named valued more =
    more ∙ ap (λ (x : Deck). record x { rows = x.rows ++ record { name = name; kind = G; right = right; range = None } ∷ [] }) before
    ∙ ap₂ (λ (a : List ℕ) (b : ℚ). based ((map source (upto n) ++ map sink (upto k)) ++ record { name = a; kind = G; right = b; range = None } ∷ [])) named valued
    ∙ ap based (append_assoc (map source (upto n)) (map sink (upto k)) (sink k ∷ [])
    ∙ ap (λ l. map source (upto n) ++ l) (sym (map-range_with_len_more sink 0 k k (omega arith))))

-- the deck with the first k routes
abbrev pub routed : ℕ → ℕ → Deck
routed n k = record (transport n) { columns = map (route n) (upto k) }

-- the column of a route, of this name and cost
abbrev pub sent : ℕ → ℕ → List ℕ → ℚ → Column
sent n k name cost = record { name = name; cost = cost; entries = (k / n, one_ℚ) ∷ (n + k % n, one_ℚ) ∷ []; bounds = nonnegative }

pub route_added : (d e : Deck) (n k : ℕ) (name : List ℕ) (cost : ℚ) → d ≡ routed n k → name ≡ 88 ∷ decimal (k / n + 1) ++ 95 ∷ decimal (k % n + 1)
    → cost ≡ number (cost_of (k / n + 1) (k % n + 1))
    → e ≡ plus d (sent n k name cost) → e ≡ routed n (k + 1)
route_added d e n k name cost before named costed more =
    more ∙ ap (λ (x : Deck). plus x (sent n k name cost)) before
    ∙ ap₂ (λ (a : List ℕ) (b : ℚ). plus (routed n k) (sent n k a b)) named costed
    ∙ ap (λ (l : List Column). record (transport n) { columns = l }) (sym (map-range_with_len_more (route n) 0 k k (omega arith)))

pub few_columns : (d : Deck) (n k : ℕ) → k < n * n → n ≤ 20 → d ≡ routed n k → length d.columns < 2147483648
few_columns d n k within few is =
    let most : n * n ≤ 400 = square_most n few in
    let count : length d.columns ≡ k = ap (λ (x : Deck). length x.columns) is ∙ length-map-range_with_len (route n) 0 k in
    omega arith

pub row_within : (d : Deck) (n k : ℕ) → k < n * n → d ≡ routed n k → n + k % n < length d.rows
row_within d n k within is =
    let some : 0 < n = size_pos k n within in
    let first : length (map source (upto n)) ≡ n = length-map-range_with_len source 0 n in
    let second : length (map sink (upto n)) ≡ n = length-map-range_with_len sink 0 n in
    let count : length d.rows ≡ length (map source (upto n)) + length (map sink (upto n)) = ap (λ (x : Deck). length x.rows) is
    ∙ length-append (map source (upto n)) (map sink (upto n)) in
    omega arith

pub few_sources : (d : Deck) (k : ℕ) → k < 20 → d ≡ based (map source (upto k)) → length d.rows < 65535
few_sources d k few is =
    let count : length d.rows ≡ k = ap (λ (x : Deck). length x.rows) is ∙ length-map-range_with_len source 0 k in
    omega arith

pub few_sinks : (d : Deck) (n k : ℕ) → k < n → n ≤ 20 → d ≡ based (map source (upto n) ++ map sink (upto k)) → length d.rows < 65535
few_sinks d n k within few is =
    let first : length (map source (upto n)) ≡ n = length-map-range_with_len source 0 n in
    let second : length (map sink (upto k)) ≡ k = length-map-range_with_len sink 0 k in
    let count : length d.rows ≡ length (map source (upto n)) + length (map sink (upto k)) = ap (λ (x : Deck). length x.rows) is
    ∙ length-append (map source (upto n)) (map sink (upto k)) in
    omega arith
