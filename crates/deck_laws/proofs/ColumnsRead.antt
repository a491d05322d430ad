-- The lines of columns are read as the columns, with bounds from 0 up.
use Rattle.std.proofs.Common.{◌≡◌, ◌≢◌, ℕ, suc, ◌+◌, ◌-◌, ◌<◌, ◌≤◌, Bool, true, false, ◌&&◌, ◌||◌, List, [], ◌∷◌, ◌++◌, length, map, get_or, set, Option, Some, None, Result, Ok}
use Rattle.std.proofs.Common.{Err, refl, sym, ap, subst, ◌∙◌, arith, append-nil, length-append}
use Rattle.std.specs.Prelude.{◌==◌, if◌then◌else◌, nat_lt, sum_by}
use Rattle.std.specs.List.{AllByRecursion, IsDistinct, flat_map, list_all}
use Rattle.std.proofs.lemmas.Bool.{eq-eqb, le-ltb, lt-ltb, or_from, or_right}
use Rattle.std.proofs.lemmas.List.{length-map, map-append}
use Rattle.std.proofs.lemmas.List.Folds.{fold-map}
use Rattle.std.proofs.lemmas.List.Sums.{sum_by-append, sum_by-cons, sum_by_push}
use Rattle.rational.specs.Rational.{ℚ, eq_ℚ, zero_ℚ}
use Rattle.rational.specs.Sparse.{IsSparse}
use Rattle.rational.proofs.OrderLaws.{eq_ℚ-decides, eq_ℚ-other}
use Rattle.deck_tools.specs.Layout.{Line, card_line, column_lines, entry_lines, pair_line}
use Rattle.frac_text.specs.Card.{card_text}
use Rattle.lp_model.specs.Deck.{Column, Deck, Row, nonnegative, no_column, no_row, row as row_at}
use Rattle.lp_model.specs.Edit.{change_column, entry_count, insert_entry, same_bytes, with_cost, with_entry}
use Rattle.lp_text.proofs.SameBytes.{same_bytes-own}
use Rattle.lp_text.specs.Cards.{is_printable}
use Rattle.lp_text.specs.Limits.{column_limit, entry_limit}
use Rattle.lp_text.specs.declared.Counted.TheVariants as counted
use Rattle.lp_text.specs.declared.Form.{Form}
use Rattle.lp_text.specs.declared.LineFault.{LineFault}
use Rattle.lp_text.specs.declared.LineFault.TheVariants as fault
use Rattle.mps_model.specs.declared.Section.{Section}
use Rattle.mps_model.specs.declared.Section.TheVariants.{Columns}
use Rattle.mps_model.specs.CardFields.{is_marker}
use Rattle.mps_model.specs.DeckSoFar.{DeckSoFar, and_then, is_among, objective, row}
use Rattle.mps_model.specs.Judgement.{bytes_counted, judge_text}
use Rattle.mps_model.specs.PairCards.{at_column, begin_column, judge_column, judge_pairs, number_in, use_in_column, with_named}
use Rattle.deck_laws.specs.Spellable.{IsKept, IsKeptColumn, IsName, IsNumber, IsSpellable, IsUnmarked}
use Rattle.deck_laws.proofs.CardNumbers.{number_read}
use Rattle.deck_laws.proofs.FixedCards.{six}
use Rattle.deck_laws.proofs.PairsRead.{name_at, number_line, numeral_of, objective_differs, objective_found, objective_no_row, pairs_judged, row_by_name, row_found, rows_differ}
use Rattle.deck_laws.proofs.Places.{AreDistinct, NonePass, all-at, get-at, new-here, none-both, none-map, one_more, position-at, position-none, set-at}
use Rattle.deck_laws.proofs.RowsRead.{bare, laid}
use Rattle.deck_laws.proofs.Runs.{Runs, Takes, runs-both}
use Rattle.deck_laws.proofs.Taken.{IsGiven, at, card_prints, card_with, given_field, name_given, no_word, numeral_short, pair_taken}

-- ── columns in the making ──

-- a column with bounds from 0 up
abbrev pub loose : Column → Column
loose c = record c { bounds = nonnegative }

-- a column with a cost and entries, and bounds from 0 up
abbrev part : Column → ℚ → List (ℕ × ℚ) → Column
part c cost entries = record { name = c.name; cost = cost; entries = entries; bounds = nonnegative }

abbrev pub one_if_not : Bool → ℕ
one_if_not b = if b then 0 else 1

-- how many numbers of a column are not 0
abbrev pub weight : Column → ℕ
weight c = length c.entries + one_if_not (eq_ℚ c.cost zero_ℚ)

loose_weight : (xs : List Column) → sum_by weight (map loose xs) ≡ sum_by weight xs
loose_weight xs = fold-map (λ n x. n + weight x) loose 0 xs

-- ── the last column ──

module _ (d : Deck) (rows : List Row) (before : List Column) (x : Column) where
  abbrev deck_with : Column → Deck
  deck_with y = laid d rows (before ++ y ∷ []) zero_ℚ

  last_at : length (before ++ x ∷ []) - 1 ≡ length before
  last_at = omega (arith, length-append before (x ∷ []))

  changed : (f : Column → Column) → change_column (deck_with x) (length (before ++ x ∷ []) - 1) f ≡ deck_with (f x)
  changed f =
      ap (λ j. laid d rows (set (before ++ x ∷ []) j (f (get_or (before ++ x ∷ []) j no_column))) zero_ℚ) last_at
      ∙ ap (λ y. laid d rows (set (before ++ x ∷ []) (length before) (f y)) zero_ℚ) (get-at before x [] no_column)
      ∙ ap (λ cs. laid d rows cs zero_ℚ) (set-at before x (f x) [])

-- an entry behind those of lower rows
inserted : (i : ℕ) (v : ℚ) (es : List (ℕ × ℚ)) → AllByRecursion (λ (e : ℕ × ℚ). nat_lt i e.0 ≡ false) es → insert_entry i v es ≡ es ++ (i, v) ∷ []
inserted i v [] h = refl
inserted i v ((k, u) ∷ es) h = ap (λ b. if b then (i, v) ∷ (k, u) ∷ es else ((k, u) ∷ insert_entry i v es)) h.0 ∙ ap (λ t. (k, u) ∷ t) (inserted i v es h.1)

pub zero_tested : eq_ℚ zero_ℚ zero_ℚ ≡ true
zero_tested = (eq_ℚ-decides zero_ℚ zero_ℚ).1 refl

pub zero_is : (v : ℚ) → eq_ℚ v zero_ℚ ≡ true → v ≡ zero_ℚ
zero_is v h = (eq_ℚ-decides v zero_ℚ).0 h

module _ (form : Form) (d : Deck) (kept : IsKept d) (spelled : IsSpellable form d) (unmarked : IsUnmarked d) (begun : List Section) where
  -- the columns so far, and the rows that the last one has named
  abbrev pub columns_so_far : List Column → List (List ℕ) → DeckSoFar
  columns_so_far columns named = at (Columns ∷ begun) (laid d (map bare d.rows) columns zero_ℚ) (d.objective ∷ []) None named []

  pair_takes : (columns : List Column) (named : List (List ℕ)) (s' : DeckSoFar) (first name : List ℕ) (v : ℚ) → IsNumber v → IsGiven form first → IsGiven form name → is_marker name ≡ false
      → ((text : List ℕ) → number_in text ≡ Ok v → judge_column (columns_so_far columns named) (six [] first name text) ≡ Ok s') → Takes form (columns_so_far columns named) (pair_line first name v) s'
  pair_takes columns named s' first name v fits given_first given_second plain judged text is =
      let line = number_line (card_line form (card_with [] first name (Some v) first)) (card_text v) text is in
      let numeral = numeral_of v line.0 fits line.1 in
      subst (λ t. (list_all is_printable t ≡ true) × (judge_text form (columns_so_far columns named) (bytes_counted form t) ≡ Ok s')) line.2 (
        card_prints [] first name line.0 (Some v) first no_word (numeral_short line.0 numeral) form (given_field given_first) (given_field given_second),
        pair_taken begun (laid d (map bare d.rows) columns zero_ℚ) (d.objective ∷ []) None named [] first name line.0 (Some v) first numeral form given_first given_second plain
            ∙ judged line.0 (number_read v line.0 fits line.1),
      )

  -- ── one column ──

  module _ (done : List Column) (c : Column) (rest : List Column) (e : done ++ c ∷ rest ≡ d.columns) where
    abbrev before : List Column
    before = map loose done

    abbrev cur : ℚ → List (ℕ × ℚ) → List (List ℕ) → DeckSoFar
    cur cost entries named = columns_so_far (before ++ part c cost entries ∷ []) named

    kept_column : IsKeptColumn (length d.rows) c
    kept_column = all-at (IsKeptColumn (length d.rows)) done c rest d.columns e kept.columns

    given_column : IsGiven form c.name
    given_column = name_given form c.name (all-at (λ (q : Column). IsName form q.name) done c rest d.columns e spelled.columns)

    new : NonePass (λ (q : Column). same_bytes q.name c.name) before
    unfolding IsDistinct
    new =
        none-map (λ (q : Column). same_bytes q.name c.name) loose done
        (new-here (λ (q : Column). q.name) done c rest (subst (λ cs. AreDistinct (λ (q : Column). q.name) cs) (sym e) kept.column_names))

    room_column : nat_lt (length before) column_limit ≡ true
    room_column = lt-ltb (length before) column_limit (omega (arith, length-map done loose, ap length e, length-append done (c ∷ rest), kept.few_columns))

    -- the column begins
    begins : (named : List (List ℕ)) → at_column (columns_so_far before named) c.name ≡ Ok (cur zero_ℚ [] [])
    begins named =
        ap (λ (o : Option ℕ). elim o [ None ↦ begin_column (columns_so_far before named) c.name | Some j ↦ if j + 1 == length before then Ok (columns_so_far before named) else Err fault.Scattered ])
        (position-none (λ (q : Column). same_bytes q.name c.name) before new)
        ∙ ap (λ b. if b then Ok (cur zero_ℚ [] []) else Err (fault.Limit counted.Columns)) room_column

    -- or goes on
    stays : (cost : ℚ) (es : List (ℕ × ℚ)) (named : List (List ℕ)) → at_column (cur cost es named) c.name ≡ Ok (cur cost es named)
    stays cost es named =
        let x = part c cost es in
        ap (λ (o : Option ℕ). elim o [ None ↦ begin_column (cur cost es named) c.name | Some j ↦ if j + 1 == length (before ++ x ∷ []) then Ok (cur cost es named) else Err fault.Scattered ])
        (position-at (λ (q : Column). same_bytes q.name c.name) before x [] new (same_bytes-own c.name))
        ∙ ap (λ b. if b then Ok (cur cost es named) else Err fault.Scattered) (eq-eqb (length before + 1) (length (before ++ x ∷ [])) (omega (arith, length-append before (x ∷ []))))

    lighter : (x : Column) → weight x < weight c → nat_lt (entry_count (laid d (map bare d.rows) (before ++ x ∷ []) zero_ℚ)) entry_limit ≡ true
    lighter x less =
        let count : sum_by weight (before ++ x ∷ []) ≡ sum_by weight done + weight x =
        sum_by_push weight before x ∙ ap (λ n. n + weight x) (loose_weight done) in
        let total : sum_by weight d.columns ≡ sum_by weight done + (weight c + sum_by weight rest) =
        ap (sum_by weight) (sym e) ∙ sum_by-append weight done (c ∷ rest) ∙ ap (λ n. sum_by weight done + n) (sum_by-cons weight c rest) in
        lt-ltb (sum_by weight (before ++ x ∷ [])) entry_limit (omega (arith, count, total, less, kept.few_entries))

    -- ── the cost ──

    cost_used : use_in_column (with_named (cur zero_ℚ [] []) d.objective) objective c.cost ≡ Ok (cur c.cost [] (d.objective ∷ []))
    cost_used =
        let x = part c zero_ℚ [] in
        ap (λ b. if b then Ok (record (with_named (cur zero_ℚ [] []) d.objective) { deck = with_cost (cur zero_ℚ [] []).deck (length (before ++ x ∷ []) - 1) c.cost })
        else Err (fault.Limit counted.Entries))
        (room (eq_ℚ c.cost zero_ℚ) refl)
        ∙ ap (λ (q : Deck). Ok (record (with_named (cur zero_ℚ [] []) d.objective) { deck = q })) (changed d (map bare d.rows) before x (λ y. record y { cost = c.cost }))
      where
        room : (b : Bool) → eq_ℚ c.cost zero_ℚ ≡ b → (b || nat_lt (entry_count (cur zero_ℚ [] []).deck) entry_limit) ≡ true
        room true none = refl
        room false other = lighter (part c zero_ℚ []) (omega (arith, ap one_if_not zero_tested, ap one_if_not other))

    cost_takes : (named : List (List ℕ)) → Takes form (columns_so_far before named) (pair_line c.name d.objective c.cost) (cur c.cost [] (d.objective ∷ []))
    cost_takes named =
        pair_takes before named (cur c.cost [] (d.objective ∷ [])) c.name d.objective c.cost kept_column.cost given_column (name_given form d.objective spelled.objective)
        (unmarked 0 [] (omega arith))
        (λ text value.
        ap (λ (r : Result DeckSoFar LineFault). and_then r (λ after. judge_pairs use_in_column after (six [] c.name d.objective text))) (begins named)
        ∙ pairs_judged use_in_column (cur zero_ℚ [] []) (cur c.cost [] (d.objective ∷ [])) c.name d.objective text objective c.cost
        (objective_found (cur zero_ℚ [] []) d.objective (objective_no_row d kept bare (λ r. refl) (before ++ part c zero_ℚ [] ∷ []) zero_ℚ) refl) refl value cost_used)

    -- ── entries ──

    entry_used : (es more : List (ℕ × ℚ)) (k : ℕ) (v : ℚ) (name : List ℕ) (named : List (List ℕ)) → es ++ (k, v) ∷ more ≡ c.entries → eq_ℚ v zero_ℚ ≡ false
        → AllByRecursion (λ (p : ℕ × ℚ). nat_lt k p.0 ≡ false) es
        → use_in_column (with_named (cur c.cost es named) name) (row k) v ≡ Ok (cur c.cost (es ++ (k, v) ∷ []) (name ∷ named))
    entry_used es more k v name named split other lower =
        let x = part c c.cost es in
        let s = with_named (cur c.cost es named) name in
        let fits : nat_lt (entry_count (cur c.cost es named).deck) entry_limit ≡ true =
        lighter x (omega (arith, ap length split, length-append es ((k, v) ∷ more))) in
        ap (λ b. if b then Ok (record s { deck = with_entry (cur c.cost es named).deck (length (before ++ x ∷ []) - 1) k v }) else Err (fault.Limit counted.Entries))
        (or_right (eq_ℚ v zero_ℚ) (nat_lt (entry_count (cur c.cost es named).deck) entry_limit) fits)
        ∙ ap (λ b. Ok (record s {
          deck = if b then (cur c.cost es named).deck
              else change_column (cur c.cost es named).deck (length (before ++ x ∷ []) - 1) (λ y. record y { entries = insert_entry k v y.entries });
        })) other
        ∙ ap (λ (q : Deck). Ok (record s { deck = q })) (changed d (map bare d.rows) before x (λ y. record y { entries = insert_entry k v y.entries }))
        ∙ ap (λ ps. Ok (cur c.cost ps (name ∷ named))) (inserted k v es lower)

    entry_takes : (columns : List Column) (names : List (List ℕ)) (es more : List (ℕ × ℚ)) (k : ℕ) (v : ℚ) (named : List (List ℕ))
        → at_column (columns_so_far columns names) c.name ≡ Ok (cur c.cost es named) → es ++ (k, v) ∷ more ≡ c.entries → k < length d.rows → v ≢ zero_ℚ
        → AllByRecursion (λ (p : ℕ × ℚ). nat_lt k p.0 ≡ false) es → is_among (row_at d k).name named ≡ false
        → Takes form (columns_so_far columns names) (pair_line c.name (row_at d k).name v) (cur c.cost (es ++ (k, v) ∷ []) ((row_at d k).name ∷ named))
    entry_takes columns names es more k v named at_is split within other lower fresh =
        let name = (row_at d k).name in
        let s' = cur c.cost (es ++ (k, v) ∷ []) (name ∷ named) in
        pair_takes columns names s' c.name name v (all-at (λ (p : ℕ × ℚ). IsNumber p.1) es (k, v) more c.entries split kept_column.entries) given_column
        (name_given form name (spelled.rows k no_row within)) (unmarked_row k within)
        (λ text value.
        ap (λ (r : Result DeckSoFar LineFault). and_then r (λ after. judge_pairs use_in_column after (six [] c.name name text))) at_is
        ∙ pairs_judged use_in_column (cur c.cost es named) s' c.name name text (row k) v
        (row_found (cur c.cost es named) name k (row_by_name d kept bare (λ r. refl) (before ++ part c c.cost es ∷ []) zero_ℚ k within)) fresh value
        (entry_used es more k v name named split (eq_ℚ-other v other) lower))
      where
        unmarked_row : (k : ℕ) → k < length d.rows → is_marker (row_at d k).name ≡ false
        unmarked_row k within =
            subst (λ n. is_marker n ≡ false) (name_at d kept k within) (unmarked (suc k) [] (omega (arith, length-map d.rows (λ (r : Row). r.name), within)))

    -- no row from this one on is among the names
    abbrev IsFresh : ℕ → List (List ℕ) → Type 0
    IsFresh from named = (i : ℕ) → from ≤ i → i < length d.rows → is_among (row_at d i).name named ≡ false

    -- the entries are of rows before this one
    abbrev AreLower : ℕ → List (ℕ × ℚ) → Type 0
    AreLower from es = (i : ℕ) → from ≤ i → AllByRecursion (λ (p : ℕ × ℚ). nat_lt i p.0 ≡ false) es

    fresh_more : (from k : ℕ) (named : List (List ℕ)) → from ≤ k → IsFresh from named → IsFresh (k + 1) ((row_at d k).name ∷ named)
    fresh_more from k named h fresh i above within =
        or_from (same_bytes (row_at d i).name (row_at d k).name) (is_among (row_at d i).name named) (rows_differ d kept i k (omega arith) within) (fresh i (omega arith) within)

    lower_more : (from k : ℕ) (v : ℚ) (es : List (ℕ × ℚ)) → from ≤ k → AreLower from es → AreLower (k + 1) (es ++ (k, v) ∷ [])
    lower_more from k v es h lower i above = none-both (λ (p : ℕ × ℚ). nat_lt i p.0) es ((k, v) ∷ []) (lower i (omega arith)) (le-ltb i k (omega arith), tt)

    abbrev entry_line : ℕ × ℚ → Line
    entry_line p = pair_line c.name (row_at d p.0).name p.1

    -- the entries that are left, behind the first line of the column
    entries_run : (es left : List (ℕ × ℚ)) (from : ℕ) (named : List (List ℕ)) → es ++ left ≡ c.entries → IsSparse (length d.rows) from left → AreLower from es → IsFresh from named
        → (named' : List (List ℕ)) × Runs form (cur c.cost es named) (map entry_line left) (cur c.cost c.entries named')
    entries_run es [] from named split sparse lower fresh = (named, ap (λ ps. cur c.cost ps named) (sym (append-nil es) ∙ split))
    entries_run es ((k, v) ∷ left) from named split sparse lower fresh =
        let name = (row_at d k).name in
        let rest = entries_run (es ++ (k, v) ∷ []) left (k + 1) (name ∷ named) (one_more es (k, v) left c.entries split) sparse.3
        (lower_more from k v es sparse.0 lower) (fresh_more from k named sparse.0 fresh) in (
          rest.0,
          (
            cur c.cost (es ++ (k, v) ∷ []) (name ∷ named),
            entry_takes (before ++ part c c.cost es ∷ []) named es left k v named (stays c.cost es named) split sparse.1 sparse.2 (lower k sparse.0) (fresh k sparse.0 sparse.1),
            refl,
            rest.1,
          ),
        )

    -- all lines of the column
    abbrev column_done : List (List ℕ) → DeckSoFar
    column_done named = columns_so_far (before ++ loose c ∷ []) named

    column_run : (named : List (List ℕ)) → (named' : List (List ℕ)) × Runs form (columns_so_far before named) (column_lines d c) (column_done named')
    column_run named = by (eq_ℚ c.cost zero_ℚ) c.entries refl refl
      where
        with_cost_line : (named' : List (List ℕ)) × Runs form (columns_so_far before named) (pair_line c.name d.objective c.cost ∷ entry_lines d c) (column_done named')
        with_cost_line =
            let rest = entries_run [] c.entries 0 (d.objective ∷ []) refl kept_column.sparse (λ i h. tt)
            (λ i above within. or_from (same_bytes (row_at d i).name d.objective) false (objective_differs d kept i within) refl) in
            (rest.0, (cur c.cost [] (d.objective ∷ []), cost_takes named, refl, rest.1))

        without_cost_line : (k : ℕ) (v : ℚ) (left : List (ℕ × ℚ)) → eq_ℚ c.cost zero_ℚ ≡ true → c.entries ≡ (k, v) ∷ left
            → (named' : List (List ℕ)) × Runs form (columns_so_far before named) (map entry_line ((k, v) ∷ left)) (column_done named')
        without_cost_line k v left free is =
            let sparse = subst (λ ps. IsSparse (length d.rows) 0 ps) is kept_column.sparse in
            let name = (row_at d k).name in
            let begins_here : at_column (columns_so_far before named) c.name ≡ Ok (cur c.cost [] []) = begins named ∙ ap (λ q. Ok (cur q [] [])) (sym (zero_is c.cost free)) in
            let rest = entries_run ((k, v) ∷ []) left (k + 1) (name ∷ []) (sym is) sparse.3 (lower_more 0 k v [] (omega arith) (λ i h. tt)) (fresh_more 0 k [] (omega arith) (λ i h w. refl)) in
            (rest.0, (cur c.cost ((k, v) ∷ []) (name ∷ []), entry_takes before named [] left k v [] begins_here (sym is) sparse.1 sparse.2 tt refl, refl, rest.1))

        by : (free : Bool) (entries : List (ℕ × ℚ)) → eq_ℚ c.cost zero_ℚ ≡ free → c.entries ≡ entries
            → (named' : List (List ℕ))
            × Runs form (columns_so_far before named) ((if free && nat_lt 0 (length entries) then [] else pair_line c.name d.objective c.cost ∷ []) ++ map entry_line entries) (column_done named')
        by false entries free is =
            subst (λ es. (named' : List (List ℕ)) × Runs form (columns_so_far before named) (pair_line c.name d.objective c.cost ∷ map entry_line es) (column_done named')) is
            with_cost_line
        by true [] free is =
            subst (λ es. (named' : List (List ℕ)) × Runs form (columns_so_far before named) (pair_line c.name d.objective c.cost ∷ map entry_line es) (column_done named')) is
            with_cost_line
        by true ((k, v) ∷ left) free is =
            subst (λ b. (named' : List (List ℕ))
            × Runs form (columns_so_far before named) ((if b then [] else pair_line c.name d.objective c.cost ∷ []) ++ map entry_line ((k, v) ∷ left)) (column_done named'))
            (sym (lt-ltb 0 (length ((k, v) ∷ left)) (omega arith))) (without_cost_line k v left free is)

  -- ── all columns ──

  columns_from : (done rest : List Column) (named : List (List ℕ)) → done ++ rest ≡ d.columns
      → (named' : List (List ℕ)) × Runs form (columns_so_far (map loose done) named) (flat_map (column_lines d) rest) (columns_so_far (map loose d.columns) named')
  columns_from done [] named e = (named, ap (λ cs. columns_so_far (map loose cs) named) (sym (append-nil done) ∙ e))
  columns_from done (c ∷ rest) named e =
      let one = column_run done c rest e named in
      let others = columns_from (done ++ c ∷ []) rest one.0 (one_more done c rest d.columns e) in (
        others.0,
        runs-both form (columns_so_far (map loose done) named) (columns_so_far (map loose (done ++ c ∷ [])) one.0) (columns_so_far (map loose d.columns) others.0)
            (column_lines d c) (flat_map (column_lines d) rest)
            (subst (λ cs. Runs form (columns_so_far (map loose done) named) (column_lines d c) (columns_so_far cs one.0)) (sym (map-append loose done (c ∷ []))) one.1)
            others.1,
      )

  pub columns_run : (named' : List (List ℕ)) × Runs form (columns_so_far [] []) (flat_map (column_lines d) d.columns) (columns_so_far (map loose d.columns) named')
  columns_run = columns_from [] d.columns [] refl
