-- The text of a deck is read as the deck.
use Rattle.std.proofs.Common.{◌≡◌, ℕ, ◌≤◌, Bool, true, false, not, ◌&&◌, ◌||◌, List, [], ◌∷◌, ◌++◌, length, map, find, Option, Some, None}
use Rattle.std.proofs.Common.{Ok, refl, sym, ap, ap₂, subst, ◌∙◌, arith, inl, inr, ◌⊎◌}
use Rattle.std.specs.Prelude.{IfSome, codes, if◌then◌else◌}
use Rattle.std.specs.List.{AllByRecursion, IsDistinct, flat_map}
use Rattle.std.proofs.lemmas.Bool.{or_from}
use Rattle.std.proofs.lemmas.List.{map-id}
use Rattle.std.proofs.lemmas.List.Elements.{recursion_from_All}
use Rattle.rational.specs.Rational.{ℚ, eq_ℚ, neg_ℚ, zero_ℚ}
use Rattle.rational.proofs.Opposites.{opposite-fits}
use Rattle.rational.proofs.RationalRing.{ring_ℚ}
use Rattle.rational.proofs.Ring.{◌≐◌, ⊝◌}
use Rattle.rational.proofs.WidthLaws.{fits_from_test, fits_width-decides}
use Rattle.deck_tools.specs.Layout.{Line, bound_lines, column_lines, constant_lines, deck_text, kind_word, range_lines, range_lines_of, right_lines, row_line, section, sense_lines}
use Rattle.deck_tools.specs.Layout.{set_line, title, word}
use Rattle.lp_model.specs.Deck.{Column, Deck, Row}
use Rattle.lp_model.specs.Edit.{same_bytes}
use Rattle.lp_model.specs.declared.Sense.{Sense}
use Rattle.lp_model.specs.declared.Sense.TheVariants.{Max, Min}
use Rattle.lp_text.specs.Limits.{byte_limit}
use Rattle.lp_text.specs.declared.Form.{Form}
use Rattle.mps_model.specs.declared.Section.{Section}
use Rattle.mps_model.specs.declared.Section.TheVariants.{Bounds, Columns, Finish, Ranges, RightSides, Rows}
use Rattle.mps_model.specs.DeckOf.{IsDeckOf, crossed_bounds, finished, has_fault, is_crossed, is_deck}
use Rattle.mps_model.specs.DeckSoFar.{DeckSoFar, is_among, no_cards, objective}
use Rattle.mps_model.specs.Judgement.{has_finished}
use Rattle.mps_model.specs.PairCards.{use_as_range, use_as_right}
use Rattle.mps_model.specs.Sections.{has_begun, may_begin, word_of}
use Rattle.deck_laws.specs.Spellable.{IsKept, IsKeptColumn, IsKeptRow, IsNumber, IsSpellable, IsUnmarked}
use Rattle.deck_laws.proofs.BoundsRead.{bounds_run}
use Rattle.deck_laws.proofs.ColumnsRead.{columns_run, loose, zero_is}
use Rattle.deck_laws.proofs.Heads.{before_rows, head_runs, section_begins, sensed}
use Rattle.deck_laws.proofs.PairsRead.{objective_found, objective_no_row, pairs_judged}
use Rattle.deck_laws.proofs.Places.{new-of-all}
use Rattle.deck_laws.proofs.RowsRead.{bare, laid, name_of_row, rows_run}
use Rattle.deck_laws.proofs.Runs.{Reads, Runs, Takes, reads-last, reads-run, runs-both}
use Rattle.deck_laws.proofs.SetsRead.{IsOwn, numbers_run, set_takes}
use Rattle.deck_laws.proofs.Taken.{at, name_given, range_taken, right_taken}

-- ── the number with its sign turned ──

pub turned_fits : (a : ℚ) → IsNumber a → IsNumber (neg_ℚ a)
turned_fits a fits = (fits_width-decides 127 (neg_ℚ a)).1 (opposite-fits 127 a (fits_from_test 127 a fits))

turned_back : (a : ℚ) → neg_ℚ (neg_ℚ a) ≡ a
turned_back a = ring_ℚ 1 (λ x. ⊝ (⊝ x) ≐ x) tt a

-- ── a section that stands only where it has lines ──

abbrev with_begun : Bool → Section → List Section → List Section
with_begun t kind begun = if t then kind ∷ begun else begun

section_runs : (form : Form) (w : List ℕ) (kind : Section) (begun : List Section) (d d' : Deck) (free : List (List ℕ)) (chosen : Option (List ℕ)) (named : List (List ℕ))
    (lowered : List ℕ) (lines : List Line) → Takes form (at begun d free chosen named lowered) (word w) (at (kind ∷ begun) d free None [] lowered) → has_finished (kind ∷ begun) ≡ false
    → ((chosen' : Option (List ℕ)) × (named' : List (List ℕ)) × (lowered' : List ℕ) × Runs form (at (kind ∷ begun) d free None [] lowered) lines (at (kind ∷ begun) d' free chosen' named' lowered'))
    → (t : Bool) × (chosen' : Option (List ℕ)) × (named' : List (List ℕ)) × (lowered' : List ℕ)
    × Runs form (at begun d free chosen named lowered) (section w lines) (at (with_begun t kind begun) d' free chosen' named' lowered')
section_runs form w kind begun d d' free chosen named lowered [] begins goes runs =
    (false, chosen, named, lowered, ap (λ q. at begun q free chosen named lowered) (ap (λ (s : DeckSoFar). s.deck) runs.3))
section_runs form w kind begun d d' free chosen named lowered (line ∷ lines) begins goes runs =
    (true, runs.0, runs.1, runs.2, (at (kind ∷ begun) d free None [] lowered, begins, goes, runs.3))

-- whether a section has begun hangs on no other one
begun_besides : (k kind : Section) (begun : List Section) (t : Bool) → same_bytes (word_of kind) (word_of k) ≡ false → has_begun k (with_begun t kind begun) ≡ has_begun k begun
begun_besides k kind begun true other = ap (λ b. b || has_begun k begun) other
begun_besides k kind begun false other = refl

-- the sections before the right sides
abbrev columns_begun : Sense → List Section
columns_begun sense = Columns ∷ Rows ∷ before_rows sense

may_rights : (sense : Sense) → may_begin RightSides (columns_begun sense) ≡ true
may_rights Min = refl
may_rights Max = refl

may_rows : (sense : Sense) → may_begin Rows (before_rows sense) ≡ true
may_rows Min = refl
may_rows Max = refl

may_columns : (sense : Sense) → may_begin Columns (Rows ∷ before_rows sense) ≡ true
may_columns Min = refl
may_columns Max = refl

abbrev rights_begun : Sense → Bool → List Section
rights_begun sense t = with_begun t RightSides (columns_begun sense)

abbrev ranges_begun : Sense → Bool → Bool → List Section
ranges_begun sense t u = with_begun u Ranges (rights_begun sense t)

abbrev bounds_begun : Sense → Bool → Bool → Bool → List Section
bounds_begun sense t u w = with_begun w Bounds (ranges_begun sense t u)

may_ranges : (sense : Sense) (t : Bool) → may_begin Ranges (rights_begun sense t) ≡ true
may_ranges sense t =
    ap₂ (λ a b. a && not b) (begun_besides Columns RightSides (columns_begun sense) t refl) (begun_besides Ranges RightSides (columns_begun sense) t refl) ∙ by sense
  where
    by : (sense : Sense) → (has_begun Columns (columns_begun sense) && not (has_begun Ranges (columns_begun sense))) ≡ true
    by Min = refl
    by Max = refl

may_bounds : (sense : Sense) (t u : Bool) → may_begin Bounds (ranges_begun sense t u) ≡ true
may_bounds sense t u =
    ap₂ (λ a b. a && not b)
    (begun_besides Columns Ranges (rights_begun sense t) u refl ∙ begun_besides Columns RightSides (columns_begun sense) t refl)
    (begun_besides Bounds Ranges (rights_begun sense t) u refl ∙ begun_besides Bounds RightSides (columns_begun sense) t refl) ∙ by sense
  where
    by : (sense : Sense) → (has_begun Columns (columns_begun sense) && not (has_begun Bounds (columns_begun sense))) ≡ true
    by Min = refl
    by Max = refl

may_end : (sense : Sense) (t u w : Bool) → may_begin Finish (bounds_begun sense t u w) ≡ true
may_end sense t u w =
    begun_besides Columns Bounds (ranges_begun sense t u) w refl ∙ begun_besides Columns Ranges (rights_begun sense t) u refl
    ∙ begun_besides Columns RightSides (columns_begun sense) t refl

-- ── the deck's numbers ──

-- a row without its range
abbrev righted : Row → Row
righted r = record r { range = None }

abbrev itself : Row → Row
itself r = r

right_step : (r : Row) → IsKeptRow r → ((right_lines r ≡ []) × (bare r ≡ righted r)) ⊎ ((v : ℚ) × (right_lines r ≡ set_line r.name v ∷ []) × IsNumber v × (record (bare r) { right = v } ≡ righted r))
right_step r kept = by (eq_ℚ r.right zero_ℚ) refl
  where
    by : (t : Bool) → eq_ℚ r.right zero_ℚ ≡ t
        → ((right_lines r ≡ []) × (bare r ≡ righted r)) ⊎ ((v : ℚ) × (right_lines r ≡ set_line r.name v ∷ []) × IsNumber v × (record (bare r) { right = v } ≡ righted r))
    by true is = inl (ap (λ t. if t then [] else set_line r.name r.right ∷ []) is, ap (λ q. record (righted r) { right = q }) (sym (zero_is r.right is)))
    by false is = inr (r.right, ap (λ t. if t then [] else set_line r.name r.right ∷ []) is, kept.right, refl)

range_step : (r : Row) → IsKeptRow r → ((range_lines r ≡ []) × (righted r ≡ r)) ⊎ ((v : ℚ) × (range_lines r ≡ set_line r.name v ∷ []) × IsNumber v × (record (righted r) { range = Some v } ≡ r))
range_step r kept = by r.range refl
  where
    by : (o : Option ℚ) → r.range ≡ o
        → ((range_lines r ≡ []) × (righted r ≡ r)) ⊎ ((v : ℚ) × (range_lines r ≡ set_line r.name v ∷ []) × IsNumber v × (record (righted r) { range = Some v } ≡ r))
    by None is = inl (ap (range_lines_of r.name) is, ap (λ o. record r { range = o }) (sym is))
    by (Some v) is = inr (v, ap (range_lines_of r.name) is, subst (λ o. IfSome o IsNumber) is kept.range, ap (λ o. record r { range = o }) (sym is))

-- ── the whole deck ──

module _ (form : Form) (d : Deck) (kept : IsKept d) (spelled : IsSpellable form d) (unmarked : IsUnmarked d) where
  abbrev b : List Section
  b = columns_begun d.sense

  abbrev free : List (List ℕ)
  free = d.objective ∷ []

  abbrev columns : List Column
  columns = map loose d.columns

  -- ── right sides ──

  abbrev rights : List Row → ℚ → Option (List ℕ) → List (List ℕ) → DeckSoFar
  rights rows constant chosen named = at (RightSides ∷ b) (laid d rows columns constant) free chosen named []

  -- no row is the objective
  fresh_rows : AllByRecursion (λ (r : Row). is_among r.name (d.objective ∷ []) ≡ false) d.rows
  unfolding IsDistinct
  fresh_rows = each d.rows (new-of-all name_of_row d.objective d.rows kept.row_names.0)
    where
      each : (rows : List Row) → AllByRecursion (λ (r : Row). same_bytes r.name d.objective ≡ false) rows → AllByRecursion (λ (r : Row). is_among r.name (d.objective ∷ []) ≡ false) rows
      each [] h = tt
      each (r ∷ rows) h = (or_from (same_bytes r.name d.objective) false h.0 refl, each rows h.1)

  none_fresh : (rows : List Row) → AllByRecursion (λ (r : Row). is_among r.name [] ≡ false) rows
  none_fresh [] = tt
  none_fresh (r ∷ rows) = (refl, none_fresh rows)

  -- the constant
  constant_run : (chosen : Option (List ℕ)) × (named : List (List ℕ)) × IsOwn chosen × AllByRecursion (λ (r : Row). is_among r.name named ≡ false) d.rows
      × Runs form (rights (map bare d.rows) zero_ℚ None []) (constant_lines d) (rights (map bare d.rows) d.constant chosen named)
  constant_run = by (eq_ℚ d.constant zero_ℚ) refl
    where
      by : (t : Bool) → eq_ℚ d.constant zero_ℚ ≡ t
          → (chosen : Option (List ℕ)) × (named : List (List ℕ)) × IsOwn chosen × AllByRecursion (λ (r : Row). is_among r.name named ≡ false) d.rows
          × Runs form (rights (map bare d.rows) zero_ℚ None []) (if t then [] else set_line d.objective (neg_ℚ d.constant) ∷ []) (rights (map bare d.rows) d.constant chosen named)
      by true is = (None, [], refl, none_fresh d.rows, ap (λ q. rights (map bare d.rows) q None []) (sym (zero_is d.constant is)))
      by false is =
          let s = rights (map bare d.rows) zero_ℚ (Some (codes "S")) [] in
          let s' = rights (map bare d.rows) d.constant (Some (codes "S")) (d.objective ∷ []) in (
            Some (codes "S"),
            d.objective ∷ [],
            refl,
            fresh_rows,
            (
              s',
              set_takes form d kept spelled (RightSides ∷ b) refl columns [] use_as_right
                  (λ e chosen named name text v owner numeral given. right_taken b e free chosen named [] [] name text v owner numeral form given)
                  (map bare d.rows) zero_ℚ None [] s' d.objective (neg_ℚ d.constant) (turned_fits d.constant kept.constant) (name_given form d.objective spelled.objective) refl
                  (λ text value. pairs_judged use_as_right s s' (codes "S") d.objective text objective (neg_ℚ d.constant)
                  (objective_found s d.objective (objective_no_row d kept bare (λ r. refl) columns zero_ℚ) refl) refl value
                  (ap (λ q. Ok (rights (map bare d.rows) q (Some (codes "S")) (d.objective ∷ []))) (turned_back d.constant))),
              refl,
              refl,
            ),
          )

  rights_run : (chosen : Option (List ℕ)) × (named : List (List ℕ)) × (lowered : List ℕ)
      × Runs form (rights (map bare d.rows) zero_ℚ None []) (constant_lines d ++ flat_map right_lines d.rows)
      (at (RightSides ∷ b) (laid d (map righted d.rows) columns d.constant) free chosen named lowered)
  rights_run =
      let one = constant_run in
      let more = numbers_run form d kept spelled (RightSides ∷ b) refl columns [] use_as_right
      (λ e chosen named name text v owner numeral given. right_taken b e free chosen named [] [] name text v owner numeral form given)
      bare righted (λ r. refl) (λ r. refl) (λ v r. record r { right = v }) d.constant right_lines (λ s i v. refl) right_step
      [] d.rows one.0 one.1 refl one.2 one.3 in (
        more.0,
        more.1,
        [],
        runs-both form (rights (map bare d.rows) zero_ℚ None []) (rights (map bare d.rows) d.constant one.0 one.1) (rights (map righted d.rows) d.constant more.0 more.1)
            (constant_lines d) (flat_map right_lines d.rows) one.4 more.2,
      )

  -- ── ranges ──

  ranges_run : (begun : List Section) (lowered : List ℕ) → (chosen : Option (List ℕ)) × (named : List (List ℕ)) × (lowered' : List ℕ)
      × Runs form (at (Ranges ∷ begun) (laid d (map righted d.rows) columns d.constant) free None [] lowered) (flat_map range_lines d.rows)
      (at (Ranges ∷ begun) (laid d d.rows columns d.constant) free chosen named lowered')
  ranges_run begun lowered =
      let more = numbers_run form d kept spelled (Ranges ∷ begun) refl columns lowered use_as_range
      (λ e chosen named name text v owner numeral given. range_taken begun e free chosen named lowered [] name text v owner numeral form given)
      righted itself (λ r. refl) (λ r. refl) (λ v r. record r { range = Some v }) d.constant range_lines (λ s i v. refl) range_step
      [] d.rows None [] refl refl (none_fresh d.rows) in (
        more.0,
        more.1,
        lowered,
        subst (λ rows. Runs form (at (Ranges ∷ begun) (laid d (map righted d.rows) columns d.constant) free None [] lowered) (flat_map range_lines d.rows)
            (at (Ranges ∷ begun) (laid d rows columns d.constant) free more.0 more.1 lowered)) (map-id d.rows) more.2,
      )

  -- ── the end ──

  none_crossed : (cs : List Column) → AllByRecursion (λ (c : Column). is_crossed c.bounds ≡ false) cs → find (λ (c : Column). is_crossed c.bounds) cs ≡ None
  none_crossed [] h = refl
  none_crossed (c ∷ cs) h = ap (λ t. if t then Some c else find (λ (q : Column). is_crossed q.bounds) cs) h.0 ∙ none_crossed cs h.1

  each_uncrossed : AllByRecursion (λ (c : Column). is_crossed c.bounds ≡ false) d.columns
  each_uncrossed = each d.columns (recursion_from_All (IsKeptColumn (length d.rows)) d.columns kept.columns)
    where
      each : (cs : List Column) → AllByRecursion (IsKeptColumn (length d.rows)) cs → AllByRecursion (λ (c : Column). is_crossed c.bounds ≡ false) cs
      each [] h = tt
      each (c ∷ cs) h = (h.0.uncrossed, each cs h.1)

  ended : (begun : List Section) (lowered : List ℕ) (n : ℕ) → finished (at begun d free None [] lowered) n ≡ is_deck d n
  ended begun lowered n =
      ap (λ (o : Option Column). elim o [ None ↦ is_deck d n | Some c ↦ has_fault (crossed_bounds c.name) ]) (none_crossed d.columns each_uncrossed)

  -- ── all lines ──

  whole : (written : List ℕ) → deck_text form d ≡ Ok written → length written ≤ byte_limit → (line : ℕ) × IsDeckOf form written d line
  whole written is within =
      let head = sensed d.name d.sense in
      let before = before_rows d.sense in
      let rows_done = at (Rows ∷ before) (laid d (map bare d.rows) [] zero_ℚ) free None [] [] in
      let columns_read = columns_run form d kept spelled unmarked (Rows ∷ before) in
      let columns_done = at b (laid d (map bare d.rows) columns zero_ℚ) free None columns_read.0 [] in
      let rights_read = section_runs form (codes "RHS") RightSides b (laid d (map bare d.rows) columns zero_ℚ) (laid d (map righted d.rows) columns d.constant) free None columns_read.0 []
      (constant_lines d ++ flat_map right_lines d.rows)
      (section_begins b (laid d (map bare d.rows) columns zero_ℚ) free None columns_read.0 [] RightSides form (refl {a = true}) (may_rights d.sense)) refl rights_run in
      let begun = rights_begun d.sense rights_read.0 in
      let rights_done = at begun (laid d (map righted d.rows) columns d.constant) free rights_read.1 rights_read.2 rights_read.3 in
      let ranges_read = section_runs form (codes "RANGES") Ranges begun (laid d (map righted d.rows) columns d.constant) (laid d d.rows columns d.constant)
      free rights_read.1 rights_read.2 rights_read.3 (flat_map range_lines d.rows)
      (section_begins begun (laid d (map righted d.rows) columns d.constant) free rights_read.1 rights_read.2 rights_read.3 Ranges form (refl {a = true}) (may_ranges d.sense rights_read.0)) refl
      (ranges_run begun rights_read.3) in
      let begun' = ranges_begun d.sense rights_read.0 ranges_read.0 in
      let ranges_done = at begun' (laid d d.rows columns d.constant) free ranges_read.1 ranges_read.2 ranges_read.3 in
      let bounds = bounds_run form d kept spelled begun' d.rows d.constant ranges_read.3 in
      let bounds_read = section_runs form (codes "BOUNDS") Bounds begun' (laid d d.rows columns d.constant) d free ranges_read.1 ranges_read.2 ranges_read.3
      (flat_map bound_lines d.columns) (section_begins begun' (laid d d.rows columns d.constant) free ranges_read.1 ranges_read.2 ranges_read.3 Bounds form (refl {a = true})
      (may_bounds d.sense rights_read.0 ranges_read.0)) refl
      (bounds.0, [], bounds.1, bounds.2) in
      let begun'' = bounds_begun d.sense rights_read.0 ranges_read.0 bounds_read.0 in
      let bounds_done = at begun'' d free bounds_read.1 bounds_read.2 bounds_read.3 in
      let title_lines = title d.name ∷ sense_lines d.sense in
      let rows_lines = word (codes "ROWS") ∷ row_line (codes "N") d.objective ∷ map (λ (r : Row). row_line (kind_word r.kind) r.name) d.rows in
      let columns_lines = word (codes "COLUMNS") ∷ flat_map (column_lines d) d.columns in
      let rights_lines = section (codes "RHS") (constant_lines d ++ flat_map right_lines d.rows) in
      let ranges_lines = section (codes "RANGES") (flat_map range_lines d.rows) in
      let bounds_lines = section (codes "BOUNDS") (flat_map bound_lines d.columns) in
      let rows_all : Runs form head rows_lines rows_done =
      (at (Rows ∷ before) head.deck [] None [] [], section_begins before head.deck [] None [] [] Rows form (refl {a = true}) (may_rows d.sense), refl, rows_run form d kept spelled before) in
      let columns_all : Runs form rows_done columns_lines columns_done = (
        at b (laid d (map bare d.rows) [] zero_ℚ) free None [] [],
        section_begins (Rows ∷ before) (laid d (map bare d.rows) [] zero_ℚ) free None [] [] Columns form (refl {a = true}) (may_columns d.sense),
        refl,
        columns_read.1,
      ) in
      let first = runs-both form no_cards head rows_done title_lines rows_lines (head_runs form d.name d.sense spelled.title) rows_all in
      let second = runs-both form no_cards rows_done columns_done (title_lines ++ rows_lines) columns_lines first columns_all in
      let third = runs-both form no_cards columns_done rights_done ((title_lines ++ rows_lines) ++ columns_lines) rights_lines second rights_read.4 in
      let fourth = runs-both form no_cards rights_done ranges_done (((title_lines ++ rows_lines) ++ columns_lines) ++ rights_lines) ranges_lines third ranges_read.4 in
      let fifth = runs-both form no_cards ranges_done bounds_done ((((title_lines ++ rows_lines) ++ columns_lines) ++ rights_lines) ++ ranges_lines) bounds_lines fourth bounds_read.4 in
      let last : Reads form d bounds_done (word (codes "ENDATA") ∷ []) =
      reads-last form d bounds_done (at (Finish ∷ begun'') d free None [] bounds_read.3) (word (codes "ENDATA")) []
      (section_begins begun'' d free bounds_read.1 bounds_read.2 bounds_read.3 Finish form (refl {a = true}) (may_end d.sense rights_read.0 ranges_read.0 bounds_read.0)) (refl {a = true})
      (ended (Finish ∷ begun'') bounds_read.3) in
      reads-run form d no_cards bounds_done (((((title_lines ++ rows_lines) ++ columns_lines) ++ rights_lines) ++ ranges_lines) ++ bounds_lines) (word (codes "ENDATA") ∷ []) fifth last
      written 0 0 is (omega (arith, within))

-- the text of a deck is read as the deck
pub read_back : (form : Form) (d : Deck) (written : List ℕ) → IsKept d → IsSpellable form d → IsUnmarked d → deck_text form d ≡ Ok written → length written ≤ byte_limit
    → (line : ℕ) × IsDeckOf form written d line
read_back form d written kept spelled unmarked is within = whole form d kept spelled unmarked written is within
