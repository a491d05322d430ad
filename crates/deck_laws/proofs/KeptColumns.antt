-- What the cards of columns and of bounds keep.
use Rattle.std.proofs.Common.{◌≡◌, ◌≢◌, ℕ, zero, suc, ◌+◌, ◌-◌, ◌<◌, ◌≤◌, Bool, true, false, not, ◌&&◌, ◌||◌, List, [], ◌∷◌, ◌++◌, length, map, get_or, set, Option, Some, None, Result, Ok, Err}
use Rattle.std.proofs.Common.{refl, sym, ap, subst, ◌∙◌, arith, nat_lt, inl, inr, ◌⊎◌, length-append}
use Rattle.std.specs.Prelude.{◌==◌, IfSome, if◌then◌else◌, sum_by}
use Rattle.std.specs.List.{AllByRecursion, IsDistinct, list_any}
use Rattle.std.proofs.lemmas.Bool.{cases_Bool, ltb-true, or_left, or_parts, or_right, true≢false}
use Rattle.std.proofs.lemmas.List.{length-set, map-append}
use Rattle.std.proofs.lemmas.List.Sums.{sum_by_push}
use Rattle.rational.specs.Rational.{ℚ, eq_ℚ, le_ℚ, lt_ℚ, neg_ℚ, whole, zero_ℚ}
use Rattle.rational.proofs.OrderLaws.{eq_ℚ-decides}
use Rattle.deck_model.proofs.Sparse.{entry-insert_entry, length-insert_entry, sparse-insert_entry}
use Rattle.lp_model.specs.Deck.{Column, Interval, column, no_column, row as row_at}
use Rattle.lp_model.specs.Edit.{change_column, entry_count, find_column, has_entry, insert_entry, same_bytes, with_column, with_cost, with_entry}
use Rattle.lp_text.proofs.SameBytes.{same_bytes-own}
use Rattle.lp_text.specs.Cards.{field_of}
use Rattle.lp_text.specs.Limits.{column_limit, entry_limit}
use Rattle.lp_text.specs.declared.Counted.TheVariants as counted
use Rattle.lp_text.specs.declared.Form.{Form}
use Rattle.lp_text.specs.declared.LineFault.{LineFault}
use Rattle.lp_text.specs.declared.LineFault.TheVariants as fault
use Rattle.mps_model.specs.declared.BoundKind.{BoundKind}
use Rattle.mps_model.specs.declared.BoundKind.TheVariants.{Fixed, Free, Lower, Minus, Plus, Upper}
use Rattle.mps_model.specs.declared.Section.{Section}
use Rattle.mps_model.specs.declared.Section.TheVariants.{Columns}
use Rattle.mps_model.specs.BoundCards.{bound_number, bounds_after, has_number, is_minus_infinity, is_plus_infinity, is_wrong_infinity, judge_bound, judge_bound_of, kind_of, with_bound}
use Rattle.mps_model.specs.DeckSoFar.{DeckSoFar, RowPlace, and_then, is_among, place_of, row}
use Rattle.mps_model.specs.PairCards.{at_column, begin_column, has_room, judge_column, judge_pair, judge_pairs, number_in, use_in_column, with_named}
use Rattle.deck_laws.specs.Spellable.{IsEnd, IsName, IsNumber}
use Rattle.deck_laws.proofs.ColumnsRead.{one_if_not, weight, zero_tested}
use Rattle.deck_laws.proofs.Kept.{AreNamed, IsColumn, KeepsParts, all-change, all-more, distinct_more, map-change, none_found, number_fits, row_named, sum-change, zero_fits}
use Rattle.deck_laws.proofs.KeptCards.{Has, IsOther, Stays, ok_same, pair_parts, pairs_kept}
use Rattle.deck_laws.proofs.Places.{get-at}

abbrev name_of_column : Column → List ℕ
name_of_column c = c.name

-- ── a change of one column ──

column_changed : (form : Form) (begun : List Section) (s : DeckSoFar) (j : ℕ) (f : Column → Column) (named : List (List ℕ)) → Has form begun s → ((c : Column) → (f c).name ≡ c.name)
    → (IsColumn (length s.deck.rows) (column s.deck j) → IsColumn (length s.deck.rows) (f (column s.deck j))) → sum_by weight (set s.deck.columns j (f (column s.deck j))) ≤ entry_limit
    → AreNamed begun (change_column s.deck j f) named → KeepsParts form begun (change_column s.deck j f) s.free_rows named
column_changed form begun s j f named keeps same step few entered =
    let columns = set s.deck.columns j (f (column s.deck j)) in
    let names : map name_of_column columns ≡ map name_of_column s.deck.columns = map-change name_of_column f s.deck.columns j no_column same in
    record {
      deck = record {
        title = keeps.deck.title;
        row_names = keeps.deck.row_names;
        column_names = all-change (λ (c : Column). IsName form c.name) f s.deck.columns j no_column keeps.deck.column_names (λ h. subst (IsName form) (sym (same (column s.deck j))) h);
        rows_once = keeps.deck.rows_once;
        columns_once = subst (λ ns. IsDistinct same_bytes ns) (sym names) keeps.deck.columns_once;
        kept_rows = keeps.deck.kept_rows;
        kept_columns = all-change (IsColumn (length s.deck.rows)) f s.deck.columns j no_column keeps.deck.kept_columns step;
        number = keeps.deck.number;
        few_rows = keeps.deck.few_rows;
        few_columns = omega (arith, length-set s.deck.columns j (f (column s.deck j)), keeps.deck.few_columns);
        few_entries = few;
      };
      names = keeps.names;
      head = keeps.head;
      entered = entered;
      none_yet = λ h. ap (λ cs. set cs j (f (get_or cs j no_column))) (keeps.none_yet h);
    }

-- what stands where a change was made: the change, or past the end what stood there
at_change : (f : Column → Column) (cs : List Column) (j : ℕ)
    → (get_or (set cs j (f (get_or cs j no_column))) j no_column ≡ f (get_or cs j no_column)) ⊎ (get_or (set cs j (f (get_or cs j no_column))) j no_column ≡ get_or cs j no_column)
at_change f [] j = inr refl
at_change f (c ∷ cs) zero = inl refl
at_change f (c ∷ cs) (suc j) = at_change f cs j

-- ── columns ──

all-insert : (i : ℕ) (v : ℚ) (es : List (ℕ × ℚ)) → IsNumber v → AllByRecursion (λ (e : ℕ × ℚ). IsNumber e.1) es → AllByRecursion (λ (e : ℕ × ℚ). IsNumber e.1) (insert_entry i v es)
all-insert i v [] fits h = (fits, tt)
all-insert i v ((k, u) ∷ es) fits h = by (nat_lt i k) (all-insert i v es fits h.1)
  where
    by : (b : Bool) → AllByRecursion (λ (e : ℕ × ℚ). IsNumber e.1) (insert_entry i v es) → AllByRecursion (λ (e : ℕ
        × ℚ). IsNumber e.1) (if b then (i, v) ∷ (k, u) ∷ es else ((k, u) ∷ insert_entry i v es))
    by true rest = (fits, h)
    by false rest = (h.0, rest)

zero_end : IsEnd zero_ℚ
unfolding le_ℚ zero_ℚ whole neg_ℚ
zero_end = record { fits = zero_fits; below = refl; above = refl }

abbrev column_at : DeckSoFar → List ℕ → Option ℕ → Result DeckSoFar LineFault
column_at s name o = elim o [ None ↦ begin_column s name | Some j ↦ if j + 1 == length s.deck.columns then Ok s else Err fault.Scattered ]

module _ (form : Form) (b : List Section) where
  new_column_kept : (s s' : DeckSoFar) (name : List ℕ) → Has form (Columns ∷ b) s → IsName form name → find_column s.deck name ≡ None → begin_column s name ≡ Ok s' → Stays form (Columns ∷ b) s s'
  new_column_kept s s' name keeps spelled none e = by (nat_lt (length s.deck.columns) column_limit) refl e
    where
      by : (t : Bool) → nat_lt (length s.deck.columns) column_limit ≡ t → (if t then Ok (record s {
        deck = with_column s.deck name;
        named = [];
      }) else Err (fault.Limit counted.Columns)) ≡ Ok s' → Stays form (Columns ∷ b) s s'
      by false room e = absurd (cc e)
      by true room e =
          let c = record no_column { name = name } in
          let columns = s.deck.columns ++ c ∷ [] in
          let names : map name_of_column columns ≡ map name_of_column s.deck.columns ++ name ∷ [] = map-append name_of_column s.deck.columns (c ∷ []) in
          let below : length s.deck.columns < column_limit = ltb-true (length s.deck.columns) column_limit room in
          let more : length columns ≡ length s.deck.columns + 1 = length-append s.deck.columns (c ∷ []) in
          let last : get_or columns (length columns - 1) no_column ≡ c = ap (λ j. get_or columns j no_column) (omega (arith, more)) ∙ get-at s.deck.columns c [] no_column in
          subst (λ q. Stays form (Columns ∷ b) s q) (ok_same (record s { deck = with_column s.deck name; named = [] }) s' e) (
            refl,
            record {
              deck = record {
                title = keeps.deck.title;
                row_names = keeps.deck.row_names;
                column_names = all-more (λ (q : Column). IsName form q.name) s.deck.columns c keeps.deck.column_names spelled;
                rows_once = keeps.deck.rows_once;
                columns_once = subst (λ ns. IsDistinct same_bytes ns) (sym names)
                    (distinct_more (map name_of_column s.deck.columns) name keeps.deck.columns_once (none_found name_of_column name s.deck.columns none));
                kept_rows = keeps.deck.kept_rows;
                kept_columns = all-more (IsColumn (length s.deck.rows)) s.deck.columns c keeps.deck.kept_columns (record { cost = zero_fits; sparse = tt; entries = tt; lower = zero_end; upper = tt });
                number = keeps.deck.number;
                few_rows = keeps.deck.few_rows;
                few_columns = omega (arith, more, below);
                few_entries = omega (arith, sum_by_push weight s.deck.columns c, ap one_if_not zero_tested, keeps.deck.few_entries);
              };
              names = keeps.names;
              head = keeps.head;
              entered = λ k h. let none : has_entry c.entries k ≡ true = subst (λ (q : Column). has_entry q.entries k ≡ true) last h in absurd (cc none);
              none_yet = λ h. absurd (cc h);
            },
          )

  at_column_kept : (s s' : DeckSoFar) (name : List ℕ) → Has form (Columns ∷ b) s → IsName form name → at_column s name ≡ Ok s' → Stays form (Columns ∷ b) s s'
  at_column_kept s s' name keeps spelled e = by (find_column s.deck name) refl e
    where
      last : (j : ℕ) (t : Bool) → (if t then Ok s else Err fault.Scattered) ≡ Ok s' → Stays form (Columns ∷ b) s s'
      last j true e = subst (λ q. Stays form (Columns ∷ b) s q) (ok_same s s' e) (refl, keeps)
      last j false e = absurd (cc e)

      by : (o : Option ℕ) → find_column s.deck name ≡ o → column_at s name o ≡ Ok s' → Stays form (Columns ∷ b) s s'
      by None none e = new_column_kept s s' name keeps spelled none e
      by (Some j) found e = last j (j + 1 == length s.deck.columns) e

  -- ── a number of the last column ──

  module _ (s : DeckSoFar) (keeps : Has form (Columns ∷ b) s) (name : List ℕ) (fresh : is_among name s.named ≡ false) where
    abbrev j : ℕ
    j = length s.deck.columns - 1

    abbrev last : Column
    last = column s.deck j

    -- the names, with one more
    named_more : AreNamed (Columns ∷ b) s.deck (name ∷ s.named)
    named_more k h = or_right (same_bytes (row_at s.deck k).name name) (is_among (row_at s.deck k).name s.named) (keeps.entered k h)

    renamed : KeepsParts form (Columns ∷ b) s.deck s.free_rows (name ∷ s.named)
    renamed = record { deck = keeps.deck; names = keeps.names; head = keeps.head; entered = named_more; none_yet = keeps.none_yet }

    count_is : (f : Column → Column) → length (set s.deck.columns j (f last)) - 1 ≡ j
    count_is f = ap (λ n. n - 1) (length-set s.deck.columns j (f last))

    -- the last column after a change of it
    last_is : (f : Column → Column) → (column (change_column s.deck j f) (length (set s.deck.columns j (f last)) - 1) ≡ f last)
        ⊎ (column (change_column s.deck j f) (length (set s.deck.columns j (f last)) - 1) ≡ last)
    last_is f =
        let there = ap (λ i. get_or (set s.deck.columns j (f last)) i no_column) (count_is f) in
        elim (at_change f s.deck.columns j) [ inl new ↦ inl (there ∙ new) | inr old ↦ inr (there ∙ old) ]

    room_is : (v : ℚ) → has_room s v ≡ true → (eq_ℚ v zero_ℚ ≡ true) ⊎ (sum_by weight s.deck.columns < entry_limit)
    room_is v h = by (eq_ℚ v zero_ℚ) refl h
      where
        by : (t : Bool) → eq_ℚ v zero_ℚ ≡ t → (t || nat_lt (entry_count s.deck) entry_limit) ≡ true → (eq_ℚ v zero_ℚ ≡ true) ⊎ (sum_by weight s.deck.columns < entry_limit)
        by true is h = inl is
        by false is h = inr (ltb-true (entry_count s.deck) entry_limit h)

    at_most_one : (t : Bool) → one_if_not t ≤ 1
    at_most_one true = omega arith
    at_most_one false = omega arith

    cost_kept : (v : ℚ) → IsNumber v → has_room s v ≡ true → KeepsParts form (Columns ∷ b) (with_cost s.deck j v) s.free_rows (name ∷ s.named)
    cost_kept v fits room =
        let f : Column → Column = λ c. record c { cost = v } in
        let few : sum_by weight (set s.deck.columns j (f last)) ≤ entry_limit = elim (room_is v room) [
          | inl none ↦
              let same : sum_by weight (set s.deck.columns j (f last)) ≤ sum_by weight s.deck.columns + 0 =
              sum-change weight f 0 s.deck.columns j no_column (λ c. omega (arith, ap one_if_not none)) in omega (arith, same, keeps.deck.few_entries)
          | inr below ↦
              let one : sum_by weight (set s.deck.columns j (f last)) ≤ sum_by weight s.deck.columns + 1 =
              sum-change weight f 1 s.deck.columns j no_column (λ c. omega (arith, at_most_one (eq_ℚ v zero_ℚ))) in omega (arith, one, below)
        ] in
        column_changed form (Columns ∷ b) s j f (name ∷ s.named) keeps (λ c. refl)
        (λ h. record { cost = fits; sparse = h.sparse; entries = h.entries; lower = h.lower; upper = h.upper }) few
        (λ k h. named_more k (elim (last_is f) [ inl new ↦ subst (λ (q : Column). has_entry q.entries k ≡ true) new h | inr old ↦ subst (λ (q : Column). has_entry q.entries k ≡ true) old h ]))

    entry_kept : (i : ℕ) (v : ℚ) → IsNumber v → has_room s v ≡ true → i < length s.deck.rows → (row_at s.deck i).name ≡ name
        → KeepsParts form (Columns ∷ b) (with_entry s.deck j i v) s.free_rows (name ∷ s.named)
    entry_kept i v fits room within own = by (eq_ℚ v zero_ℚ) refl
      where
        none : has_entry (column s.deck (length s.deck.columns - 1)).entries i ≡ false
        none = elim (cases_Bool (has_entry (column s.deck (length s.deck.columns - 1)).entries i)) [
          | inl has ↦ absurd (true≢false (sym (subst (λ n. is_among n s.named ≡ true) own (keeps.entered i has)) ∙ fresh))
          | inr hasnt ↦ hasnt
        ]

        changed : eq_ℚ v zero_ℚ ≡ false
            → KeepsParts form (Columns ∷ b) (change_column s.deck (length s.deck.columns - 1) (λ c. record c { entries = insert_entry i v c.entries })) s.free_rows (name ∷ s.named)
        changed is =
            let g : Column → Column = λ c. record c { entries = insert_entry i v c.entries } in
            let other : v ≢ zero_ℚ = λ e. true≢false (sym ((eq_ℚ-decides v zero_ℚ).1 e) ∙ is) in
            let below : sum_by weight s.deck.columns < entry_limit = elim (room_is v room) [ inl none ↦ absurd (true≢false (sym none ∙ is)) | inr below ↦ below ] in
            let one : sum_by weight (set s.deck.columns j (g last)) ≤ sum_by weight s.deck.columns + 1 =
            sum-change weight g 1 s.deck.columns j no_column (λ c. omega (arith, length-insert_entry i v c.entries)) in
            column_changed form (Columns ∷ b) s j g (name ∷ s.named) keeps (λ c. refl)
            (λ h. record {
              cost = h.cost;
              sparse = sparse-insert_entry (length s.deck.rows) i v within other 0 last.entries (omega arith) none h.sparse;
              entries = all-insert i v last.entries fits h.entries;
              lower = h.lower;
              upper = h.upper;
            }) (omega (arith, one, below))
            (λ k h. elim (last_is g) [
              | inl new ↦ elim (entry-insert_entry i v last.entries k (subst (λ (q : Column). has_entry q.entries k ≡ true) new h)) [
                | inl same ↦ or_left (same_bytes (row_at s.deck k).name name) (is_among (row_at s.deck k).name s.named)
                    (ap (λ m. same_bytes (row_at s.deck m).name name) (sym same) ∙ ap (λ n. same_bytes n name) own ∙ same_bytes-own name)
                | inr had ↦ named_more k had
              ]
              | inr old ↦ named_more k (subst (λ (q : Column). has_entry q.entries k ≡ true) old h)
            ])

        by : (t : Bool) → eq_ℚ v zero_ℚ ≡ t
            → KeepsParts form (Columns ∷ b) (if t then s.deck else change_column s.deck (length s.deck.columns - 1) (λ c. record c { entries = insert_entry i v c.entries }))
            s.free_rows (name ∷ s.named)
        by true is = renamed
        by false is = changed is

  in_column_kept : (s s' : DeckSoFar) (name text : List ℕ) → Has form (Columns ∷ b) s → judge_pair use_in_column s name text ≡ Ok s' → Stays form (Columns ∷ b) s s'
  in_column_kept s s' name text keeps e = let parts = pair_parts use_in_column s s' name text e in by parts.0 parts.1 parts.2 parts.3 parts.4 parts.5
    where
      cost : (v : ℚ) → is_among name s.named ≡ false → IsNumber v → (t : Bool) → has_room s v ≡ t
          → (if t then Ok (record (with_named s name) { deck = with_cost s.deck (length s.deck.columns - 1) v }) else Err (fault.Limit counted.Entries)) ≡ Ok s' → Stays form (Columns ∷ b) s s'
      cost v fresh fits false room e = absurd (cc e)
      cost v fresh fits true room e =
          subst (λ q. Stays form (Columns ∷ b) s q) (ok_same (record (with_named s name) { deck = with_cost s.deck (length s.deck.columns - 1) v }) s' e)
          (refl, cost_kept s keeps name fresh v fits room)

      entry : (i : ℕ) (v : ℚ) → place_of s name ≡ Some (row i) → is_among name s.named ≡ false → IsNumber v → (t : Bool) → has_room s v ≡ t
          → (if t then Ok (record (with_named s name) { deck = with_entry s.deck (length s.deck.columns - 1) i v }) else Err (fault.Limit counted.Entries)) ≡ Ok s' → Stays form (Columns ∷ b) s s'
      entry i v placed fresh fits false room e = absurd (cc e)
      entry i v placed fresh fits true room e =
          let found = row_named s name i placed in
          subst (λ q. Stays form (Columns ∷ b) s q) (ok_same (record (with_named s name) { deck = with_entry s.deck (length s.deck.columns - 1) i v }) s' e)
          (refl, entry_kept s keeps name fresh i v fits room found.0 found.1)

      by : (place : RowPlace) (v : ℚ) → place_of s name ≡ Some place → is_among name s.named ≡ false → IsNumber v → use_in_column (with_named s name) place v ≡ Ok s' → Stays form (Columns ∷ b) s s'
      by RowPlace.objective v placed fresh fits e = cost v fresh fits (has_room s v) refl e
      by (row i) v placed fresh fits e = entry i v placed fresh fits (has_room s v) refl e
      by RowPlace.dropped v placed fresh fits e = subst (λ q. Stays form (Columns ∷ b) s q) (ok_same (with_named s name) s' e) (refl, renamed s keeps name fresh)

  pub judged_column_kept : (s s' : DeckSoFar) (fields : List (List ℕ)) → Has form (Columns ∷ b) s → IsName form (field_of fields 2) → judge_column s fields ≡ Ok s' → Stays form (Columns ∷ b) s s'
  judged_column_kept s s' fields keeps spelled e = by (at_column s (field_of fields 2)) refl e
    where
      by : (r : Result DeckSoFar LineFault) → at_column s (field_of fields 2) ≡ r → and_then r (λ after. judge_pairs use_in_column after fields) ≡ Ok s' → Stays form (Columns ∷ b) s s'
      by (Err why) h e = absurd (cc e)
      by (Ok after) h e =
          pairs_kept use_in_column (λ q. Stays form (Columns ∷ b) s q)
          (λ q q' name text h judged. let one = in_column_kept q q' name text h.1 judged in (one.0 ∙ h.0, one.1)) after s' fields (at_column_kept s after (field_of fields 2) keeps spelled h) e

-- ── bounds ──

abbrev bound_at : DeckSoFar → BoundKind → List ℕ → Option ℕ → Result DeckSoFar LineFault
bound_at s kind text o = elim o [ None ↦ Err fault.UnknownColumn | Some j ↦ and_then (bound_number kind text) (λ v. Ok (with_bound s kind j v)) ]

abbrev number_checked : BoundKind → Result ℚ LineFault → Result ℚ LineFault
number_checked kind r = and_then r (λ v. if is_wrong_infinity kind v then Err fault.Bound else Ok v)

numbered : (kind : BoundKind) (text : List ℕ) (v : ℚ) → number_checked kind (number_in text) ≡ Ok v → (has_number kind ≡ true → IsNumber v) × (is_wrong_infinity kind v ≡ false)
numbered kind text v e = by (number_in text) refl e
  where
    ok_number : (w : ℚ) → ◌≡◌ {A = Result ℚ LineFault} (Ok w) (Ok v) → w ≡ v
    ok_number w e = cc

    checked : (w : ℚ) (t : Bool) → number_in text ≡ Ok w → is_wrong_infinity kind w ≡ t → ◌≡◌ {A = Result ℚ LineFault} (if t then Err fault.Bound else Ok w) (Ok v)
        → (has_number kind ≡ true → IsNumber v) × (is_wrong_infinity kind v ≡ false)
    checked w true h k e = absurd (cc e)
    checked w false h k e = let same = ok_number w e in ((λ n. subst IsNumber same (number_fits text w h)), subst (λ q. is_wrong_infinity kind q ≡ false) same k)

    by : (r : Result ℚ LineFault) → number_in text ≡ r → number_checked kind r ≡ Ok v → (has_number kind ≡ true → IsNumber v) × (is_wrong_infinity kind v ≡ false)
    by (Ok w) h e = checked w (is_wrong_infinity kind w) h refl e
    by (Err why) h e = absurd (cc e)

module _ (form : Form) (begun : List Section) (other : IsOther begun) where
  ends_kept : (kind : BoundKind) (v : ℚ) (has : Bool) (before : Interval) → (has_number kind ≡ true → IsNumber v) → is_wrong_infinity kind v ≡ false → IfSome before.lower IsEnd
      → IfSome before.upper IsEnd
      → IfSome (bounds_after kind v has before).lower IsEnd × IfSome (bounds_after kind v has before).upper IsEnd
  ends_kept Upper v has before fits finite low high = (lower (lt_ℚ v zero_ℚ && not has), upper (is_plus_infinity v) refl)
    where
      lower : (t : Bool) → IfSome (if t then None else before.lower) IsEnd
      lower true = tt
      lower false = low

      upper : (t : Bool) → is_plus_infinity v ≡ t → IfSome (if t then None else Some v) IsEnd
      upper true is = tt
      upper false is = record { fits = fits refl; below = is; above = finite }
  ends_kept Lower v has before fits finite low high = (lower (is_minus_infinity v) refl, high)
    where
      lower : (t : Bool) → is_minus_infinity v ≡ t → IfSome (if t then None else Some v) IsEnd
      lower true is = tt
      lower false is = record { fits = fits refl; below = finite; above = is }
  ends_kept Fixed v has before fits finite low high =
      let parts = or_parts (is_minus_infinity v) (is_plus_infinity v) finite in
      let end : IsEnd v = record { fits = fits refl; below = parts.1; above = parts.0 } in
      (end, end)
  ends_kept Free v has before fits finite low high = (tt, tt)
  ends_kept Minus v has before fits finite low high = (tt, high)
  ends_kept Plus v has before fits finite low high = (low, tt)

  -- the number of a bound
  bound_parts : (kind : BoundKind) (text : List ℕ) (v : ℚ) → bound_number kind text ≡ Ok v → (has_number kind ≡ true → IsNumber v) × (is_wrong_infinity kind v ≡ false)
  bound_parts Upper text v e = numbered Upper text v e
  bound_parts Lower text v e = numbered Lower text v e
  bound_parts Fixed text v e = numbered Fixed text v e
  bound_parts Free text v e = ((λ h. absurd (cc h)), refl)
  bound_parts Minus text v e = ((λ h. absurd (cc h)), refl)
  bound_parts Plus text v e = ((λ h. absurd (cc h)), refl)

  pub judged_bound_kept : (s s' : DeckSoFar) (fields : List (List ℕ)) → Has form begun s → judge_bound s fields ≡ Ok s' → Stays form begun s s'
  judged_bound_kept s s' fields keeps e = by (kind_of (field_of fields 1)) e
    where
      set_bound : (kind : BoundKind) (j : ℕ) (v : ℚ) → bound_number kind (field_of fields 4) ≡ Ok v → Stays form begun s (with_bound s kind j v)
      set_bound kind j v number =
          let parts = bound_parts kind (field_of fields 4) v number in
          let has = list_any (λ k. k == j) s.lowered in
          let f : Column → Column = λ c. record c { bounds = bounds_after kind v has (column s.deck j).bounds } in
          let same : sum_by weight (set s.deck.columns j (f (column s.deck j))) ≤ sum_by weight s.deck.columns + 0 = sum-change weight f 0 s.deck.columns j no_column (λ c. omega arith) in (
            refl,
            column_changed form begun s j f s.named keeps (λ c. refl)
                (λ h. let ends = ends_kept kind v has (column s.deck j).bounds parts.0 parts.1 h.lower h.upper in
                record { cost = h.cost; sparse = h.sparse; entries = h.entries; lower = ends.0; upper = ends.1 })
                (omega (arith, same, keeps.deck.few_entries)) (other (change_column s.deck j f) s.named),
          )

      valued : (kind : BoundKind) (j : ℕ) (r : Result ℚ LineFault) → bound_number kind (field_of fields 4) ≡ r → and_then r (λ v. Ok (with_bound s kind j v)) ≡ Ok s' → Stays form begun s s'
      valued kind j (Ok v) number e = subst (λ q. Stays form begun s q) (ok_same (with_bound s kind j v) s' e) (set_bound kind j v number)
      valued kind j (Err why) number e = absurd (cc e)

      found : (kind : BoundKind) (o : Option ℕ) → bound_at s kind (field_of fields 4) o ≡ Ok s' → Stays form begun s s'
      found kind None e = absurd (cc e)
      found kind (Some j) e = valued kind j (bound_number kind (field_of fields 4)) refl e

      by : (r : Result BoundKind LineFault) → and_then r (λ kind. judge_bound_of s kind fields) ≡ Ok s' → Stays form begun s s'
      by (Ok kind) e = found kind (find_column s.deck (field_of fields 3)) e
      by (Err why) e = absurd (cc e)
