-- What each line of a text keeps: the deck so far has what a deck that was read has.
use Rattle.std.proofs.Common.{◌≡◌, ℕ, zero, suc, ◌+◌, ◌-◌, ◌<◌, ◌≤◌, Bool, true, false, not, cond, List, [], ◌∷◌, ◌++◌, length, map, get_or, set, position, Option, Some, None, Result, Ok, Err}
use Rattle.std.proofs.Common.{refl, ap, subst, ◌∙◌, arith, nat_lt, inl, ℤ, nat_abs}
use Rattle.std.specs.Prelude.{IfSome, if◌then◌else◌, is_some, sum_by}
use Rattle.std.specs.List.{AllByRecursion, IsDistinct, position_or_len}
use Rattle.std.proofs.lemmas.Bool.Decides.{nat_tests}
use Rattle.std.proofs.lemmas.List.Quantifiers.{position-Some}
use Rattle.std.proofs.lemmas.List.Sums.{sum_by-cons}
use Rattle.rational.specs.Rational.{ℚ, zero_ℚ}
use Rattle.rational.specs.Sparse.{IsSparse}
use Rattle.rational.specs.Width.{fits_width}
use Rattle.lp_model.specs.Deck.{Column, Deck, Row, column, no_row, row as row_at}
use Rattle.lp_model.specs.Edit.{find_row, has_entry, same_bytes}
use Rattle.lp_text.proofs.SameBytes.{same_bytes-equal}
use Rattle.lp_text.specs.Limits.{column_limit, entry_limit, row_limit}
use Rattle.lp_text.specs.declared.Form.{Form}
use Rattle.lp_text.specs.declared.Form.TheVariants.{Fixed, Free}
use Rattle.mps_model.specs.declared.FieldFault.{FieldFault}
use Rattle.mps_model.specs.declared.Section.{Section}
use Rattle.mps_model.specs.declared.Section.TheVariants.{Columns}
use Rattle.mps_model.specs.declared.FieldFault.TheVariants.{Exponent, Malformed, Unfit}
use Rattle.mps_model.specs.DeckSoFar.{DeckSoFar, RowPlace, free_place, is_among, no_cards, place_of, row}
use Rattle.mps_model.specs.NumberField.{after_decimals, all_digits, exponent_of, field_value, fitting, spelled_value, unsigned, value_with}
use Rattle.mps_model.specs.PairCards.{number_in}
use Rattle.lp_text.specs.declared.LineFault.{LineFault}
use Rattle.lp_text.specs.declared.LineFault.TheVariants.{Number as number_fault}
use Rattle.mps_model.specs.Sections.{has_begun}
use Rattle.deck_laws.specs.Spellable.{IsEnd, IsKeptRow, IsName, IsNumber, IsTitle}
use Rattle.deck_laws.proofs.ColumnsRead.{weight}
use Rattle.deck_laws.proofs.RowsRead.{name_of_row}

-- ── lists with one change ──

module _ {X : Type 0} where
  -- what holds of each holds after a change of one
  pub all-change : (P : X → Type 0) (f : X → X) (xs : List X) (j : ℕ) (d : X) → AllByRecursion P xs → (P (get_or xs j d) → P (f (get_or xs j d))) → AllByRecursion P (set xs j (f (get_or xs j d)))
  all-change P f [] j d h step = tt
  all-change P f (x ∷ xs) zero d h step = (step h.0, h.1)
  all-change P f (x ∷ xs) (suc j) d h step = (h.0, all-change P f xs j d h.1 step)

  pub map-change : {Y : Type 0} (g : X → Y) (f : X → X) (xs : List X) (j : ℕ) (d : X) → ((x : X) → g (f x) ≡ g x) → map g (set xs j (f (get_or xs j d))) ≡ map g xs
  map-change g f [] j d same = refl
  map-change g f (x ∷ xs) zero d same = ap (λ y. y ∷ map g xs) (same x)
  map-change g f (x ∷ xs) (suc j) d same = ap (λ ys. g x ∷ ys) (map-change g f xs j d same)

  pub all-more : (P : X → Type 0) (xs : List X) (x : X) → AllByRecursion P xs → P x → AllByRecursion P (xs ++ x ∷ [])
  all-more P [] x h k = (k, tt)
  all-more P (y ∷ xs) x h k = (h.0, all-more P xs x h.1 k)

  -- a sum after a change of one by at most so much
  pub sum-change : (w : X → ℕ) (f : X → X) (more : ℕ) (xs : List X) (j : ℕ) (d : X) → ((x : X) → w (f x) ≤ w x + more) → sum_by w (set xs j (f (get_or xs j d))) ≤ sum_by w xs + more
  sum-change w f more [] j d step = omega arith
  sum-change w f more (x ∷ xs) zero d step = omega (arith, sum_by-cons w (f x) xs, sum_by-cons w x xs, step x)
  sum-change w f more (x ∷ xs) (suc j) d step =
      omega (arith, sum_by-cons w x (set xs j (f (get_or xs j d))), sum_by-cons w x xs, sum-change w f more xs j d step)

-- ── names once ──

pub distinct_more : (names : List (List ℕ)) (name : List ℕ) → IsDistinct same_bytes names → AllByRecursion (λ y. same_bytes y name ≡ false) names → IsDistinct same_bytes (names ++ name ∷ [])
unfolding IsDistinct
distinct_more [] name h k = (tt, tt)
distinct_more (n ∷ names) name h k = (all-more (λ y. same_bytes n y ≡ false) names name h.0 k.0, distinct_more names name h.1 k.1)

-- where no name is found, none is the same
pub none_found : {X : Type 0} (name_of : X → List ℕ) (name : List ℕ) (xs : List X) → position (λ x. same_bytes (name_of x) name) xs ≡ None
    → AllByRecursion (λ y. same_bytes y name ≡ false) (map name_of xs)
none_found {X} name_of name xs e = all xs (past (nat_lt (position_or_len (λ x. same_bytes (name_of x) name) xs) (length xs)) refl e)
  where
    below : (i n : ℕ) → nat_lt i n ≡ false → n ≤ i
    below i n h = grind (arith, nat_tests)

    past : (t : Bool) → nat_lt (position_or_len (λ x. same_bytes (name_of x) name) xs) (length xs) ≡ t → cond t (Some (position_or_len (λ x. same_bytes (name_of x) name) xs)) None ≡ None
        → length xs ≤ position_or_len (λ x. same_bytes (name_of x) name) xs
    past true h e = absurd (cc e)
    past false h e = below (position_or_len (λ x. same_bytes (name_of x) name) xs) (length xs) h

    all : (ys : List X) → length ys ≤ position_or_len (λ x. same_bytes (name_of x) name) ys → AllByRecursion (λ y. same_bytes y name ≡ false) (map name_of ys)
    all [] h = tt
    all (y ∷ ys) h = by (all ys) (same_bytes (name_of y) name) refl h
      where
        by : (length ys ≤ position_or_len (λ x. same_bytes (name_of x) name) ys → AllByRecursion (λ z. same_bytes z name ≡ false) (map name_of ys)) → (t : Bool) → same_bytes (name_of y) name ≡ t
            → length (y ∷ ys) ≤ cond (not t) (1 + position_or_len (λ x. same_bytes (name_of x) name) ys) 0 → (same_bytes (name_of y) name ≡ false)
            × AllByRecursion (λ z. same_bytes z name ≡ false) (map name_of ys)
        by rest true is h = absurd (omega arith)
        by rest false is h = (is, rest (omega arith))

-- ── the deck so far ──

-- the first N row is the objective, and its name is no row's
abbrev pub IsHead : Deck → List (List ℕ) → Type 0
IsHead d [] = Unit {0}
IsHead d (name ∷ others) = (name ≡ d.objective) × AllByRecursion (λ y. same_bytes name y ≡ false) (map name_of_row d.rows)

-- a column over so many rows
pub record IsColumn (rows : ℕ) (c : Column) : Type 0 where
  pub cost : IsNumber c.cost
  pub sparse : IsSparse rows 0 c.entries
  pub entries : AllByRecursion (λ (e : ℕ × ℚ). IsNumber e.1) c.entries
  pub lower : IfSome c.bounds.lower IsEnd
  pub upper : IfSome c.bounds.upper IsEnd

-- while columns are read, the rows of the last one's entries are named
abbrev pub AreNamed : List Section → Deck → List (List ℕ) → Type 0
AreNamed (Columns ∷ begun) d named = (k : ℕ) → has_entry (column d (length d.columns - 1)).entries k ≡ true → is_among (row_at d k).name named ≡ true
AreNamed begun d named = Unit {0}

-- what a deck's name, rows, columns and constant keep in a form
pub record KeepsDeck (form : Form) (name : List ℕ) (rows : List Row) (columns : List Column) (constant : ℚ) : Type 0 where
  pub title : IsTitle form name
  pub row_names : AllByRecursion (λ (r : Row). IsName form r.name) rows
  pub column_names : AllByRecursion (λ (c : Column). IsName form c.name) columns
  pub rows_once : IsDistinct same_bytes (map name_of_row rows)
  pub columns_once : IsDistinct same_bytes (map (λ (c : Column). c.name) columns)
  pub kept_rows : AllByRecursion IsKeptRow rows
  pub kept_columns : AllByRecursion (IsColumn (length rows)) columns
  pub number : IsNumber constant
  pub few_rows : length rows ≤ row_limit
  pub few_columns : length columns ≤ column_limit
  pub few_entries : sum_by weight columns ≤ entry_limit

-- what the deck so far keeps, by its sections, its deck, the N rows and the rows that were named
pub record KeepsParts (form : Form) (begun : List Section) (d : Deck) (free : List (List ℕ)) (named : List (List ℕ)) : Type 0 where
  pub deck : KeepsDeck form d.name d.rows d.columns d.constant
  pub names : AllByRecursion (IsName form) free
  pub head : IsHead d free
  pub entered : AreNamed begun d named
  pub none_yet : has_begun Columns begun ≡ false → d.columns ≡ []

abbrev pub Keeps : Form → DeckSoFar → Type 0
Keeps form s = KeepsParts form s.begun s.deck s.free_rows s.named

no_title : (form : Form) → IsTitle form []
no_title Fixed = record { few = omega arith; printable = refl; bare = refl }
no_title Free = inl refl

pub zero_fits : IsNumber zero_ℚ
unfolding fits_width zero_ℚ
zero_fits = refl

pub keeps_none : (form : Form) → Keeps form no_cards
unfolding IsDistinct
keeps_none form = record {
  deck = record {
    title = no_title form;
    row_names = tt;
    column_names = tt;
    rows_once = tt;
    columns_once = tt;
    kept_rows = tt;
    kept_columns = tt;
    number = zero_fits;
    few_rows = omega arith;
    few_columns = omega arith;
    few_entries = omega arith;
  };
  names = tt;
  head = tt;
  entered = tt;
  none_yet = λ h. refl;
}

-- ── numbers ──

abbrev judged_field : Option ℤ → Bool → (ℤ → Result ℚ FieldFault) → Result ℚ FieldFault
judged_field o b with_exponent = elim o [ None ↦ Err Malformed | Some z ↦ if b then with_exponent z else Err Malformed ]

abbrev judged_number : Result ℚ FieldFault → Result ℚ LineFault
judged_number r = elim r [ Err why ↦ Err number_fault | Ok w ↦ Ok w ]

number_of_field : (text : List ℕ) (v : ℚ) → field_value text ≡ Ok v → IsNumber v
number_of_field text v e = by (exponent_of (after_decimals (unsigned text))) (nat_lt 0 (length (all_digits (unsigned text)))) e
  where
    fits : (w : ℚ) (b : Bool) → fits_width 127 w ≡ b → (if b then Ok w else Err Unfit) ≡ Ok v → IsNumber v
    fits w true h e = let same : w ≡ v = cc in subst IsNumber same h
    fits w false h e = absurd (cc e)

    limit : (z : ℤ) (b : Bool) → (if b then Err Exponent else fitting (spelled_value text z)) ≡ Ok v → IsNumber v
    limit z true e = absurd (cc e)
    limit z false e = fits (spelled_value text z) (fits_width 127 (spelled_value text z)) refl e

    by : (o : Option ℤ) (b : Bool) → judged_field o b (value_with text) ≡ Ok v → IsNumber v
    by None b e = absurd (cc e)
    by (Some z) true e = limit z (nat_lt 30 (nat_abs z)) e
    by (Some z) false e = absurd (cc e)

pub number_fits : (text : List ℕ) (v : ℚ) → number_in text ≡ Ok v → IsNumber v
number_fits text v e = by (field_value text) refl e
  where
    by : (r : Result ℚ FieldFault) → field_value text ≡ r → judged_number r ≡ Ok v → IsNumber v
    by (Ok w) h e = let same : w ≡ v = cc in number_of_field text v (h ∙ ap (λ x. Ok x) same)
    by (Err why) h e = absurd (cc e)

-- ── places ──

no_free_row : (free : List (List ℕ)) (name : List ℕ) (i : ℕ) → free_place free name ≡ Some (row i) → ⊥
no_free_row [] name i e = cc e
no_free_row (first ∷ others) name i e = by (same_bytes first name) (is_among name others) e
  where
    by : (a b : Bool) → (if a then Some RowPlace.objective else if b then Some RowPlace.dropped else None) ≡ Some (row i) → ⊥
    by true b e = cc e
    by false true e = cc e
    by false false e = cc e

-- a name that stands for a row is the row's
pub row_named : (s : DeckSoFar) (name : List ℕ) (i : ℕ) → place_of s name ≡ Some (row i) → (i < length s.deck.rows) × ((row_at s.deck i).name ≡ name)
row_named s name i e = by (find_row s.deck name) refl e
  where
    by : (o : Option ℕ) → find_row s.deck name ≡ o → elim o [ None ↦ free_place s.free_rows name | Some k ↦ Some (row k) ] ≡ Some (row i) → (i < length s.deck.rows) × ((row_at s.deck i).name ≡ name)
    by None h e = absurd (no_free_row s.free_rows name i e)
    by (Some k) h e =
        let same : k ≡ i = cc in
        let found = position-Some (λ (r : Row). same_bytes r.name name) s.deck.rows i no_row (h ∙ ap Some same) in
        (found.0, same_bytes-equal (row_at s.deck i).name name found.1)

-- a name that stands for nothing is no row's, and not the objective's
pub unplaced : (s : DeckSoFar) (name : List ℕ) → is_some (place_of s name) ≡ false
    → AllByRecursion (λ y. same_bytes y name ≡ false) (map name_of_row s.deck.rows) × (free_place s.free_rows name ≡ None)
unplaced s name e = by (find_row s.deck name) refl e
  where
    none : (o : Option RowPlace) → is_some o ≡ false → o ≡ None
    none None e = refl
    none (Some p) e = absurd (cc e)

    by : (o : Option ℕ) → find_row s.deck name ≡ o → is_some (elim o [ None ↦ free_place s.free_rows name | Some k ↦ Some (row k) ]) ≡ false
        → AllByRecursion (λ y. same_bytes y name ≡ false) (map name_of_row s.deck.rows) × (free_place s.free_rows name ≡ None)
    by None h e = (none_found name_of_row name s.deck.rows h, none (free_place s.free_rows name) e)
    by (Some k) h e = absurd (cc e)

pub other_head : (first name : List ℕ) (others : List (List ℕ)) → free_place (first ∷ others) name ≡ None → same_bytes first name ≡ false
other_head first name others e = by (same_bytes first name) refl e
  where
    by : (a : Bool) → same_bytes first name ≡ a → (if a then Some RowPlace.objective else if is_among name others then Some RowPlace.dropped else None) ≡ None → a ≡ false
    by true h e = absurd (cc e)
    by false h e = refl
