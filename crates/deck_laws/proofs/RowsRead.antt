-- The lines of rows are read as the rows.
use Rattle.std.proofs.Common.{◌≡◌, ℕ, ◌≤◌, true, false, List, [], ◌∷◌, ◌++◌, length, map, Option, Some, None, Ok, Err, refl, sym, ap, subst, ◌∙◌, arith, append-nil, length-append, is_some}
use Rattle.std.specs.Prelude.{codes, if◌then◌else◌, nat_lt}
use Rattle.std.specs.List.{AllByRecursion, IsDistinct, list_all}
use Rattle.std.proofs.lemmas.Bool.{lt-ltb}
use Rattle.std.proofs.lemmas.List.{length-map, map-append}
use Rattle.rational.specs.Rational.{ℚ, zero_ℚ}
use Rattle.deck_tools.specs.Layout.{card_line, kind_word, row_line}
use Rattle.lp_model.specs.Deck.{Column, Deck, Row, no_row}
use Rattle.lp_model.specs.Edit.{find_row, same_bytes, with_row}
use Rattle.lp_model.specs.declared.RowKind.{RowKind}
use Rattle.lp_model.specs.declared.RowKind.TheVariants.{L, G, E}
use Rattle.lp_text.specs.Cards.{is_printable}
use Rattle.lp_text.specs.Limits.{row_limit}
use Rattle.lp_text.specs.declared.Counted.TheVariants as counted
use Rattle.lp_text.specs.declared.Form.{Form}
use Rattle.lp_text.specs.declared.LineFault.TheVariants as fault
use Rattle.mps_model.specs.declared.RowType.TheVariants.{Kept}
use Rattle.mps_model.specs.declared.Section.{Section}
use Rattle.mps_model.specs.declared.Section.TheVariants.{Rows}
use Rattle.mps_model.specs.DeckSoFar.{DeckSoFar, RowPlace, free_place, place_of, row}
use Rattle.mps_model.specs.Judgement.{bytes_counted, judge_text}
use Rattle.mps_model.specs.RowCards.{judge_row, with_row_of}
use Rattle.deck_laws.specs.Spellable.{IsKept, IsName, IsSpellable}
use Rattle.deck_laws.proofs.FixedCards.{six}
use Rattle.deck_laws.proofs.Places.{AreDistinct, all-at, new-at, new-here, none-map, one_more, position-none}
use Rattle.deck_laws.proofs.Runs.{Runs, Takes}
use Rattle.deck_laws.proofs.Taken.{IsWord, at, card_prints, card_with, given_field, empty_field, name_given, no_number, row_taken}

-- ── a deck in the making ──

-- a deck with the name, the objective and the sense of another one
abbrev pub laid : Deck → List Row → List Column → ℚ → Deck
laid d rows columns constant = record { name = d.name; objective = d.objective; sense = d.sense; rows = rows; columns = columns; constant = constant }

-- a row with its name and its kind alone
abbrev pub bare : Row → Row
bare r = record no_row { name = r.name; kind = r.kind }

abbrev pub name_of_row : Row → List ℕ
name_of_row r = r.name

-- a name that stands for nothing yet
pub place_none : (s : DeckSoFar) (name : List ℕ) → find_row s.deck name ≡ None → free_place s.free_rows name ≡ None → place_of s name ≡ None
place_none s name none free = ap (λ (o : Option ℕ). elim o [ None ↦ free_place s.free_rows name | Some i ↦ Some (row i) ]) none ∙ free

-- the words of kinds
kind_is_word : (kind : RowKind) → IsWord (kind_word kind) × (1 ≤ length (kind_word kind))
kind_is_word L = (record { few = omega arith; marks = refl }, omega arith)
kind_is_word G = (record { few = omega arith; marks = refl }, omega arith)
kind_is_word E = (record { few = omega arith; marks = refl }, omega arith)

free_word : IsWord (codes "N")
free_word = record { few = omega arith; marks = refl }

module _ (form : Form) (d : Deck) (kept : IsKept d) (spelled : IsSpellable form d) (begun : List Section) where
  -- the rows so far
  abbrev so_far : List Row → DeckSoFar
  so_far done = at (Rows ∷ begun) (laid d (map bare done) [] zero_ℚ) (d.objective ∷ []) None [] []

  -- ── one row ──

  module _ (done : List Row) (r : Row) (rest : List Row) (e : done ++ r ∷ rest ≡ d.rows) where
    distinct : AreDistinct name_of_row (done ++ r ∷ rest)
    unfolding IsDistinct
    distinct = subst (λ rs. AreDistinct name_of_row rs) (sym e) kept.row_names.1

    no_row_yet : find_row (so_far done).deck r.name ≡ None
    no_row_yet = position-none (λ q. same_bytes q.name r.name) (map bare done) (none-map (λ q. same_bytes q.name r.name) bare done (new-here name_of_row done r rest distinct))

    no_objective : same_bytes d.objective r.name ≡ false
    unfolding IsDistinct
    no_objective = new-at name_of_row d.objective done r rest (subst (λ rs. AllByRecursion (λ n. same_bytes d.objective n ≡ false) (map name_of_row rs)) (sym e) kept.row_names.0)

    no_place : place_of (so_far done) r.name ≡ None
    no_place = place_none (so_far done) r.name no_row_yet (ap (λ b. if b then Some RowPlace.objective else None) no_objective)

    room : nat_lt (length (map bare done)) row_limit ≡ true
    room = lt-ltb (length (map bare done)) row_limit (omega (arith, length-map done bare, ap length e, length-append done (r ∷ rest), kept.few_rows))

    after : with_row (so_far done).deck r.name r.kind ≡ (so_far (done ++ r ∷ [])).deck
    after = ap (λ rs. laid d rs [] zero_ℚ) (sym (map-append bare done (r ∷ [])))

    judged : (kind : RowKind) → r.kind ≡ kind → judge_row (so_far done) (six (kind_word kind) r.name [] []) ≡ Ok (so_far (done ++ r ∷ []))
    judged kind is = by kind ∙ kept_row kind is
      where
        by : (kind : RowKind) → judge_row (so_far done) (six (kind_word kind) r.name [] []) ≡ with_row_of (so_far done) r.name (Kept kind)
        by L = ap (λ (o : Option RowPlace). if is_some o then Err fault.Repeated else with_row_of (so_far done) r.name (Kept L)) no_place
        by G = ap (λ (o : Option RowPlace). if is_some o then Err fault.Repeated else with_row_of (so_far done) r.name (Kept G)) no_place
        by E = ap (λ (o : Option RowPlace). if is_some o then Err fault.Repeated else with_row_of (so_far done) r.name (Kept E)) no_place

        kept_row : (kind : RowKind) → r.kind ≡ kind → with_row_of (so_far done) r.name (Kept kind) ≡ Ok (so_far (done ++ r ∷ []))
        kept_row kind is =
            ap (λ b. if b then Ok (record (so_far done) { deck = with_row (so_far done).deck r.name kind }) else Err (fault.Limit counted.Rows)) room
            ∙ ap (λ k. Ok (record (so_far done) { deck = with_row (so_far done).deck r.name k })) (sym is)
            ∙ ap (λ (q : Deck). Ok (record (so_far done) { deck = q })) after

    row_takes : Takes form (so_far done) (row_line (kind_word r.kind) r.name) (so_far (done ++ r ∷ []))
    row_takes text is =
        let word = kind_is_word r.kind in
        let given = name_given form r.name (all-at (λ (q : Row). IsName form q.name) done r rest d.rows e spelled.rows) in
        let same : card_line form (card_with (kind_word r.kind) r.name [] None []) [] ≡ text = cc in
        subst (λ t. (list_all is_printable t ≡ true) × (judge_text form (so_far done) (bytes_counted form t) ≡ Ok (so_far (done ++ r ∷ [])))) same (
          card_prints (kind_word r.kind) r.name [] [] None [] word.0 no_number form (given_field given) (empty_field refl),
          row_taken begun (laid d (map bare done) [] zero_ℚ) (d.objective ∷ []) None [] [] (kind_word r.kind) r.name word.0 word.1 form given ∙ judged r.kind refl,
        )

  -- ── all rows ──

  rows_from : (done rest : List Row) → done ++ rest ≡ d.rows → Runs form (so_far done) (map (λ r. row_line (kind_word r.kind) r.name) rest) (so_far d.rows)
  rows_from done [] e = ap so_far (sym (append-nil done) ∙ e)
  rows_from done (r ∷ rest) e = (so_far (done ++ r ∷ []), row_takes done r rest e, refl, rows_from (done ++ r ∷ []) rest (one_more done r rest d.rows e))

  -- the objective's row, which is the first
  abbrev pub no_rows : DeckSoFar
  no_rows = at (Rows ∷ begun) (record (laid d [] [] zero_ℚ) { objective = [] }) [] None [] []

  objective_takes : Takes form no_rows (row_line (codes "N") d.objective) (so_far [])
  objective_takes text is =
      let given = name_given form d.objective spelled.objective in
      let same : card_line form (card_with (codes "N") d.objective [] None []) [] ≡ text = cc in
      subst (λ t. (list_all is_printable t ≡ true) × (judge_text form no_rows (bytes_counted form t) ≡ Ok (so_far []))) same (
        card_prints (codes "N") d.objective [] [] None [] free_word no_number form (given_field given) (empty_field refl),
        row_taken begun no_rows.deck [] None [] [] (codes "N") d.objective free_word (omega arith) form given,
      )

  pub rows_run : Runs form no_rows (row_line (codes "N") d.objective ∷ map (λ r. row_line (kind_word r.kind) r.name) d.rows) (so_far d.rows)
  rows_run = (so_far [], objective_takes, refl, rows_from [] d.rows refl)
