-- What each card keeps.
use Rattle.std.proofs.Common.{◌≡◌, ℕ, ◌+◌, ◌<◌, ◌≤◌, Bool, true, false, List, [], ◌∷◌, ◌++◌, length, map, set, Option, Some, None, Result, Ok, Err}
use Rattle.std.proofs.Common.{refl, sym, subst, arith, nat_lt, length-append}
use Rattle.std.specs.Prelude.{if◌then◌else◌, is_some}
use Rattle.std.specs.List.{AllByRecursion, IsDistinct}
use Rattle.std.specs.Option.{unwrap_or}
use Rattle.std.proofs.lemmas.Bool.{ltb-true}
use Rattle.std.proofs.lemmas.List.{length-set, map-append}
use Rattle.rational.specs.Rational.{ℚ, neg_ℚ}
use Rattle.rational.specs.Sparse.{IsSparse}
use Rattle.lp_model.specs.Deck.{Column, Deck, Row, no_row, row as row_at}
use Rattle.lp_model.specs.Edit.{change_row, same_bytes, with_constant, with_row}
use Rattle.lp_model.specs.declared.RowKind.{RowKind}
use Rattle.lp_text.specs.Cards.{field_of}
use Rattle.lp_text.specs.Limits.{row_limit}
use Rattle.lp_text.specs.declared.Counted.TheVariants as counted
use Rattle.lp_text.specs.declared.Form.{Form}
use Rattle.lp_text.specs.declared.LineFault.{LineFault}
use Rattle.lp_text.specs.declared.LineFault.TheVariants as fault
use Rattle.mps_model.specs.declared.RowType.{RowType}
use Rattle.mps_model.specs.declared.RowType.TheVariants.{Free, Kept}
use Rattle.mps_model.specs.declared.Section.{Section}
use Rattle.mps_model.specs.declared.Section.TheVariants.{Rows}
use Rattle.mps_model.specs.DeckSoFar.{DeckSoFar, RowPlace, and_then, free_place, is_among, place_of, row}
use Rattle.mps_model.specs.PairCards.{UseOfNumber, has_second_pair, judge_in_set, judge_pair, judge_pairs, number_in, use_as_range, use_as_right, with_named, with_set}
use Rattle.mps_model.specs.RowCards.{judge_row, row_type_of, with_free_row, with_row_of}
use Rattle.deck_laws.specs.Spellable.{IsKeptRow, IsName, IsNumber}
use Rattle.deck_laws.proofs.Kept.{AreNamed, IsColumn, IsHead, KeepsDeck, KeepsParts, all-change, all-more, distinct_more, map-change, number_fits, other_head, unplaced, zero_fits}
use Rattle.deck_laws.proofs.Places.{differ-turned}
use Rattle.deck_laws.proofs.RowsRead.{name_of_row}
use Rattle.deck_laws.proofs.Whole.{turned_fits}

-- ── rows ──

wider : (m n from : ℕ) (es : List (ℕ × ℚ)) → m ≤ n → IsSparse m from es → IsSparse n from es
wider m n from [] h k = tt
wider m n from ((i, v) ∷ es) h k = (k.0, omega (arith, k.1), k.2, wider m n (i + 1) es h k.3)

wider_columns : (m n : ℕ) (cs : List Column) → m ≤ n → AllByRecursion (IsColumn m) cs → AllByRecursion (IsColumn n) cs
wider_columns m n [] h k = tt
wider_columns m n (c ∷ cs) h k =
    (record { cost = k.0.cost; sparse = wider m n 0 c.entries h k.0.sparse; entries = k.0.entries; lower = k.0.lower; upper = k.0.upper }, wider_columns m n cs h k.1)

-- what an answer is
pub ok_same : (x y : DeckSoFar) → ◌≡◌ {A = Result DeckSoFar LineFault} (Ok x) (Ok y) → x ≡ y
ok_same x y e = cc

-- the sections stay, and the rest keeps what it has to
abbrev pub Stays : Form → List Section → DeckSoFar → DeckSoFar → Type 0
Stays form begun s s' = (s'.begun ≡ s.begun) × KeepsParts form begun s'.deck s'.free_rows s'.named

abbrev pub Has : Form → List Section → DeckSoFar → Type 0
Has form begun s = KeepsParts form begun s.deck s.free_rows s.named

-- names that differ from one, the other way round
all_turned : (name : List ℕ) (ys : List (List ℕ)) → AllByRecursion (λ y. same_bytes y name ≡ false) ys → AllByRecursion (λ y. same_bytes name y ≡ false) ys
all_turned name [] h = tt
all_turned name (y ∷ ys) h = (differ-turned y name h.0, all_turned name ys h.1)

module _ (form : Form) (begun : List Section) (s : DeckSoFar) (keeps : Has form (Rows ∷ begun) s) (name : List ℕ) (spelled : IsName form name) (new : is_some (place_of s name) ≡ false) where
  free_kept : (s' : DeckSoFar) → with_row_of s name Free ≡ Ok s' → Stays form (Rows ∷ begun) s s'
  free_kept s' e = subst (λ q. Stays form (Rows ∷ begun) s q) (ok_same (with_free_row s name) s' e) (refl, by s.free_rows keeps.names keeps.head)
    where
      by : (free : List (List ℕ)) → AllByRecursion (IsName form) free → IsHead s.deck free
          → KeepsParts form (Rows ∷ begun) (elim free [ [] ↦ record s.deck { objective = name } | first ∷ others ↦ s.deck ]) (free ++ name ∷ []) s.named
      by [] names head = record {
        deck = keeps.deck;
        names = (spelled, tt);
        head = (refl, all_turned name (map name_of_row s.deck.rows) (unplaced s name new).0);
        entered = tt;
        none_yet = keeps.none_yet;
      }
      by (first ∷ others) names head = record { deck = keeps.deck; names = all-more (IsName form) (first ∷ others) name names spelled; head = head; entered = tt; none_yet = keeps.none_yet }

  row_kept : (kind : RowKind) (s' : DeckSoFar) → with_row_of s name (Kept kind) ≡ Ok s' → Stays form (Rows ∷ begun) s s'
  row_kept kind s' e = by (nat_lt (length s.deck.rows) row_limit) refl e
    where
      names_are : map name_of_row (s.deck.rows ++ record no_row { name = name; kind = kind } ∷ []) ≡ map name_of_row s.deck.rows ++ name ∷ []
      names_are = map-append name_of_row s.deck.rows (record no_row { name = name; kind = kind } ∷ [])

      head_more : (free : List (List ℕ)) → IsHead s.deck free → free_place free name ≡ None → IsHead (with_row s.deck name kind) free
      head_more [] h k = tt
      head_more (first ∷ others) h k = (
        h.0,
        subst (λ ns. AllByRecursion (λ y. same_bytes first y ≡ false) ns) (sym names_are)
            (all-more (λ y. same_bytes first y ≡ false) (map name_of_row s.deck.rows) name h.1 (other_head first name others k)),
      )

      by : (b : Bool) → nat_lt (length s.deck.rows) row_limit ≡ b → (if b then Ok (record s { deck = with_row s.deck name kind }) else Err (fault.Limit counted.Rows)) ≡ Ok s'
          → Stays form (Rows ∷ begun) s s'
      by false room e = absurd (cc e)
      by true room e =
          let free = unplaced s name new in
          let below : length s.deck.rows < row_limit = ltb-true (length s.deck.rows) row_limit room in
          let more : length (s.deck.rows ++ record no_row { name = name; kind = kind } ∷ []) ≡ length s.deck.rows + 1 = length-append s.deck.rows (record no_row { name = name; kind = kind } ∷ []) in
          subst (λ q. Stays form (Rows ∷ begun) s q) (ok_same (record s { deck = with_row s.deck name kind }) s' e) (
            refl,
            record {
              deck = record {
                title = keeps.deck.title;
                row_names = all-more (λ (q : Row). IsName form q.name) s.deck.rows (record no_row { name = name; kind = kind }) keeps.deck.row_names spelled;
                column_names = keeps.deck.column_names;
                rows_once = subst (λ ns. IsDistinct same_bytes ns) (sym names_are) (distinct_more (map name_of_row s.deck.rows) name keeps.deck.rows_once free.0);
                columns_once = keeps.deck.columns_once;
                kept_rows = all-more IsKeptRow s.deck.rows (record no_row { name = name; kind = kind }) keeps.deck.kept_rows (record { right = zero_fits; range = tt });
                kept_columns = wider_columns (length s.deck.rows) (length (s.deck.rows ++ record no_row {
                  name = name;
                  kind = kind;
                } ∷ [])) s.deck.columns (omega (arith, more)) keeps.deck.kept_columns;
                number = keeps.deck.number;
                few_rows = omega (arith, more, below);
                few_columns = keeps.deck.few_columns;
                few_entries = keeps.deck.few_entries;
              };
              names = keeps.names;
              head = head_more s.free_rows keeps.head free.1;
              entered = tt;
              none_yet = keeps.none_yet;
            },
          )

  any_row_kept : (kind : RowType) (s' : DeckSoFar) → with_row_of s name kind ≡ Ok s' → Stays form (Rows ∷ begun) s s'
  any_row_kept Free s' e = free_kept s' e
  any_row_kept (Kept kind) s' e = row_kept kind s' e

abbrev row_of_type : DeckSoFar → List ℕ → Option RowType → Result DeckSoFar LineFault
row_of_type s name o = elim o [ None ↦ Err fault.RowType | Some kind ↦ if is_some (place_of s name) then Err fault.Repeated else with_row_of s name kind ]

pub judged_row_kept : (form : Form) (begun : List Section) (s s' : DeckSoFar) (fields : List (List ℕ)) → Has form (Rows ∷ begun) s → IsName form (field_of fields 2)
    → judge_row s fields ≡ Ok s' → Stays form (Rows ∷ begun) s s'
judged_row_kept form begun s s' fields keeps spelled e = by (row_type_of (field_of fields 1)) e
  where
    placed : (kind : RowType) (b : Bool) → is_some (place_of s (field_of fields 2)) ≡ b → (if b then Err fault.Repeated else with_row_of s (field_of fields 2) kind) ≡ Ok s'
        → Stays form (Rows ∷ begun) s s'
    placed kind true new e = absurd (cc e)
    placed kind false new e = any_row_kept form begun s keeps (field_of fields 2) spelled new kind s' e

    by : (o : Option RowType) → row_of_type s (field_of fields 2) o ≡ Ok s' → Stays form (Rows ∷ begun) s s'
    by None e = absurd (cc e)
    by (Some kind) e = placed kind (is_some (place_of s (field_of fields 2))) refl e

-- ── pairs ──

abbrev pair_at : UseOfNumber → DeckSoFar → List ℕ → List ℕ → Option RowPlace → Result DeckSoFar LineFault
pair_at use_number s name text o =
    elim o [
      | None ↦ Err fault.UnknownRow
      | Some place ↦ if is_among name s.named then Err fault.Repeated else and_then (number_in text) (λ v. use_number (with_named s name) place v)
    ]

-- what a pair that is judged has
pub pair_parts : (use_number : UseOfNumber) (s s' : DeckSoFar) (name text : List ℕ) → judge_pair use_number s name text ≡ Ok s'
    → (place : RowPlace) × (v : ℚ) × (place_of s name ≡ Some place) × (is_among name s.named ≡ false) × IsNumber v × (use_number (with_named s name) place v ≡ Ok s')
pair_parts use_number s s' name text e = by (place_of s name) refl e
  where
    valued : (place : RowPlace) (r : Result ℚ LineFault) → place_of s name ≡ Some place → is_among name s.named ≡ false → number_in text ≡ r
        → and_then r (λ v. use_number (with_named s name) place v) ≡ Ok s' → (p : RowPlace) × (v : ℚ) × (place_of s name ≡ Some p) × (is_among name s.named ≡ false) × IsNumber v
        × (use_number (with_named s name) p v ≡ Ok s')
    valued place (Ok v) h k value e = (place, v, h, k, number_fits text v value, e)
    valued place (Err why) h k value e = absurd (cc e)

    fresh : (place : RowPlace) (b : Bool) → place_of s name ≡ Some place → is_among name s.named ≡ b
        → (if b then Err fault.Repeated else and_then (number_in text) (λ v. use_number (with_named s name) place v)) ≡ Ok s'
        → (p : RowPlace) × (v : ℚ) × (place_of s name ≡ Some p) × (is_among name s.named ≡ false) × IsNumber v × (use_number (with_named s name) p v ≡ Ok s')
    fresh place true h k e = absurd (cc e)
    fresh place false h k e = valued place (number_in text) h k refl e

    by : (o : Option RowPlace) → place_of s name ≡ o
        → pair_at use_number s name text o ≡ Ok s'
        → (p : RowPlace) × (v : ℚ) × (place_of s name ≡ Some p) × (is_among name s.named ≡ false) × IsNumber v × (use_number (with_named s name) p v ≡ Ok s')
    by None h e = absurd (cc e)
    by (Some place) h e = fresh place (is_among name s.named) h refl e

-- what each pair keeps, a card with pairs keeps
pub pairs_kept : (use_number : UseOfNumber) (P : DeckSoFar → Type 0) → ((s s' : DeckSoFar) (name text : List ℕ) → P s → judge_pair use_number s name text ≡ Ok s' → P s')
    → (s s' : DeckSoFar) (fields : List (List ℕ)) → P s → judge_pairs use_number s fields ≡ Ok s' → P s'
pairs_kept use_number P step s s' fields h e = by (judge_pair use_number s (field_of fields 3) (field_of fields 4)) refl e
  where
    second : (after : DeckSoFar) (b : Bool) → P after → (if b then judge_pair use_number after (field_of fields 5) (field_of fields 6) else Ok after) ≡ Ok s' → P s'
    second after true h e = step after s' (field_of fields 5) (field_of fields 6) h e
    second after false h e = subst P (ok_same after s' e) h

    by : (r : Result DeckSoFar LineFault) → judge_pair use_number s (field_of fields 3) (field_of fields 4) ≡ r
        → and_then r (λ after. if has_second_pair fields then judge_pair use_number after (field_of fields 5) (field_of fields 6) else Ok after) ≡ Ok s' → P s'
    by (Ok after) one e = second after (has_second_pair fields) (step s after (field_of fields 3) (field_of fields 4) h one) e
    by (Err why) one e = absurd (cc e)

-- so does a card of a set
pub set_kept : (judge : DeckSoFar → List (List ℕ) → Result DeckSoFar LineFault) (P : DeckSoFar → Type 0) (s s' : DeckSoFar) (fields : List (List ℕ)) → P s → P (with_set s (field_of fields 2))
    → ((q q' : DeckSoFar) → P q → judge q fields ≡ Ok q' → P q') → judge_in_set judge s fields ≡ Ok s' → P s'
set_kept judge P s s' fields h k step e = by (same_bytes (unwrap_or s.set (field_of fields 2)) (field_of fields 2)) e
  where
    by : (b : Bool) → (if b then judge (with_set s (field_of fields 2)) fields else Ok s) ≡ Ok s' → P s'
    by true e = step (with_set s (field_of fields 2)) s' k e
    by false e = subst P (ok_same s s' e) h

-- ── right sides and ranges ──

-- a section that is not the columns' one
abbrev pub IsOther : List Section → Type 0
IsOther begun = (d : Deck) (named : List (List ℕ)) → AreNamed begun d named

-- the same with another constant
with_number : (form : Form) (name : List ℕ) (rows : List Row) (columns : List Column) (old new : ℚ) → KeepsDeck form name rows columns old → IsNumber new → KeepsDeck form name rows columns new
with_number form name rows columns old new h fits = record {
  title = h.title;
  row_names = h.row_names;
  column_names = h.column_names;
  rows_once = h.rows_once;
  columns_once = h.columns_once;
  kept_rows = h.kept_rows;
  kept_columns = h.kept_columns;
  number = fits;
  few_rows = h.few_rows;
  few_columns = h.few_columns;
  few_entries = h.few_entries;
}

head_priced : (d : Deck) (v : ℚ) (free : List (List ℕ)) → IsHead d free → IsHead (with_constant d v) free
head_priced d v [] h = tt
head_priced d v (first ∷ others) h = h

module _ (form : Form) (begun : List Section) (other : IsOther begun) where
  -- a change of a row's numbers
  row_changed : (s : DeckSoFar) (i : ℕ) (f : Row → Row) (named : List (List ℕ)) → Has form begun s → ((r : Row) → (f r).name ≡ r.name) → (IsKeptRow (row_at s.deck i) → IsKeptRow (f (row_at s.deck i)))
      → KeepsParts form begun (change_row s.deck i f) s.free_rows named
  row_changed s i f named keeps same step =
      let rows = set s.deck.rows i (f (row_at s.deck i)) in
      let names : map name_of_row rows ≡ map name_of_row s.deck.rows = map-change name_of_row f s.deck.rows i no_row same in
      let count : length rows ≡ length s.deck.rows = length-set s.deck.rows i (f (row_at s.deck i)) in
      record {
        deck = record {
          title = keeps.deck.title;
          row_names = all-change (λ (r : Row). IsName form r.name) f s.deck.rows i no_row keeps.deck.row_names (λ h. subst (IsName form) (sym (same (row_at s.deck i))) h);
          column_names = keeps.deck.column_names;
          rows_once = subst (λ ns. IsDistinct same_bytes ns) (sym names) keeps.deck.rows_once;
          columns_once = keeps.deck.columns_once;
          kept_rows = all-change IsKeptRow f s.deck.rows i no_row keeps.deck.kept_rows step;
          kept_columns = subst (λ n. AllByRecursion (IsColumn n) s.deck.columns) (sym count) keeps.deck.kept_columns;
          number = keeps.deck.number;
          few_rows = omega (arith, count, keeps.deck.few_rows);
          few_columns = keeps.deck.few_columns;
          few_entries = keeps.deck.few_entries;
        };
        names = keeps.names;
        head = by s.free_rows keeps.head names;
        entered = other (change_row s.deck i f) named;
        none_yet = keeps.none_yet;
      }
    where
      by : (free : List (List ℕ)) → IsHead s.deck free → map name_of_row (set s.deck.rows i (f (row_at s.deck i))) ≡ map name_of_row s.deck.rows → IsHead (change_row s.deck i f) free
      by [] h names = tt
      by (first ∷ others) h names = (h.0, subst (λ ns. AllByRecursion (λ y. same_bytes first y ≡ false) ns) (sym names) h.1)

  renamed : (s : DeckSoFar) (named : List (List ℕ)) → Has form begun s → KeepsParts form begun s.deck s.free_rows named
  renamed s named keeps = record { deck = keeps.deck; names = keeps.names; head = keeps.head; entered = other s.deck named; none_yet = keeps.none_yet }

  pub right_kept : (s s' : DeckSoFar) (name text : List ℕ) → Has form begun s → judge_pair use_as_right s name text ≡ Ok s' → Stays form begun s s'
  right_kept s s' name text keeps e = let parts = pair_parts use_as_right s s' name text e in by parts.0 parts.1 parts.4 parts.5
    where
      by : (place : RowPlace) (v : ℚ) → IsNumber v → use_as_right (with_named s name) place v ≡ Ok s' → Stays form begun s s'
      by RowPlace.objective v fits e =
          subst (λ q. Stays form begun s q) (ok_same (record (with_named s name) { deck = with_constant s.deck (neg_ℚ v) }) s' e) (
            refl,
            record {
              deck = with_number form s.deck.name s.deck.rows s.deck.columns s.deck.constant (neg_ℚ v) keeps.deck (turned_fits v fits);
              names = keeps.names;
              head = head_priced s.deck (neg_ℚ v) s.free_rows keeps.head;
              entered = other (with_constant s.deck (neg_ℚ v)) (name ∷ s.named);
              none_yet = keeps.none_yet;
            },
          )
      by (row i) v fits e =
          subst (λ q. Stays form begun s q) (ok_same (record (with_named s name) { deck = change_row s.deck i (λ r. record r { right = v }) }) s' e)
          (refl, row_changed s i (λ r. record r { right = v }) (name ∷ s.named) keeps (λ r. refl) (λ h. record { right = fits; range = h.range }))
      by RowPlace.dropped v fits e = subst (λ q. Stays form begun s q) (ok_same (with_named s name) s' e) (refl, renamed s (name ∷ s.named) keeps)

  pub range_kept : (s s' : DeckSoFar) (name text : List ℕ) → Has form begun s → judge_pair use_as_range s name text ≡ Ok s' → Stays form begun s s'
  range_kept s s' name text keeps e = let parts = pair_parts use_as_range s s' name text e in by parts.0 parts.1 parts.4 parts.5
    where
      by : (place : RowPlace) (v : ℚ) → IsNumber v → use_as_range (with_named s name) place v ≡ Ok s' → Stays form begun s s'
      by RowPlace.objective v fits e = subst (λ q. Stays form begun s q) (ok_same (with_named s name) s' e) (refl, renamed s (name ∷ s.named) keeps)
      by (row i) v fits e =
          subst (λ q. Stays form begun s q) (ok_same (record (with_named s name) { deck = change_row s.deck i (λ r. record r { range = Some v }) }) s' e)
          (refl, row_changed s i (λ r. record r { range = Some v }) (name ∷ s.named) keeps (λ r. refl) (λ h. record { right = h.right; range = fits }))
      by RowPlace.dropped v fits e = subst (λ q. Stays form begun s q) (ok_same (with_named s name) s' e) (refl, renamed s (name ∷ s.named) keeps)
