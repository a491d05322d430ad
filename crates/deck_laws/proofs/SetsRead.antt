-- The lines of a section with a set are read as numbers of the rows.
use Rattle.std.proofs.Common.{◌≡◌, ℕ, true, false, List, [], ◌∷◌, ◌++◌, length, map, get_or, set, Option, Some, Result, Ok, sym, ap, subst, ◌∙◌, append-nil, append_assoc, inl, inr, ◌⊎◌}
use Rattle.std.specs.Prelude.{codes, if◌then◌else◌}
use Rattle.std.specs.List.{AllByRecursion, IsDistinct, flat_map, list_all}
use Rattle.std.specs.Option.{unwrap_or}
use Rattle.std.proofs.lemmas.Bool.{or_from}
use Rattle.std.proofs.lemmas.List.{map-append}
use Rattle.rational.specs.Rational.{ℚ}
use Rattle.deck_tools.specs.Layout.{Line, card_line, set_line}
use Rattle.frac_text.specs.Card.{card_text}
use Rattle.lp_model.specs.Deck.{Column, Deck, Row, no_row}
use Rattle.lp_model.specs.Edit.{change_row, find_row, same_bytes}
use Rattle.lp_text.proofs.SameBytes.{same_bytes-own}
use Rattle.lp_text.specs.Cards.{is_printable}
use Rattle.lp_text.specs.declared.Form.{Form}
use Rattle.lp_text.specs.declared.LineFault.{LineFault}
use Rattle.mps_model.specs.declared.Section.{Section}
use Rattle.mps_model.specs.DeckSoFar.{DeckSoFar, is_among, row}
use Rattle.mps_model.specs.Judgement.{bytes_counted, has_finished, judge_text}
use Rattle.mps_model.specs.PairCards.{UseOfNumber, judge_in_set, judge_pairs, number_in, with_named, with_set}
use Rattle.deck_laws.specs.Spellable.{IsKept, IsKeptRow, IsName, IsNumber, IsSpellable}
use Rattle.deck_laws.proofs.CardNumbers.{number_read}
use Rattle.deck_laws.proofs.FixedCards.{six}
use Rattle.deck_laws.proofs.PairsRead.{number_line, numeral_of, pairs_judged, row_found}
use Rattle.deck_laws.proofs.Places.{AreDistinct, all-at, get-at, new-behind, new-here, none-map, one_more, position-at, set-at}
use Rattle.deck_laws.proofs.RowsRead.{laid, name_of_row}
use Rattle.deck_laws.proofs.Runs.{Runs, Takes}
use Rattle.deck_laws.proofs.Taken.{IsGiven, IsNumeral, at, card_prints, card_with, given_field, name_given, no_word, numeral_short, set_given}

-- ── sets ──

-- the section's set is the writer's, or none is named yet
abbrev pub IsOwn : Option (List ℕ) → Type 0
IsOwn chosen = unwrap_or chosen (codes "S") ≡ codes "S"

-- a card of that set is judged
pub set_judged : (judge : DeckSoFar → List (List ℕ) → Result DeckSoFar LineFault) (s s' : DeckSoFar) (kind name text : List ℕ) → IsOwn s.set
    → judge (with_set s (codes "S")) (six kind (codes "S") name text) ≡ Ok s' → judge_in_set judge s (six kind (codes "S") name text) ≡ Ok s'
set_judged judge s s' kind name text own judged =
    ap (λ b. if b then judge (with_set s (codes "S")) (six kind (codes "S") name text) else Ok s) (ap (λ n. same_bytes n (codes "S")) own ∙ same_bytes-own (codes "S")) ∙ judged

-- ── a section ──

module _ (form : Form) (d : Deck) (kept : IsKept d) (spelled : IsSpellable form d) (begun : List Section) (goes : has_finished begun ≡ false) (columns : List Column) (lowered : List ℕ)
    (use_number : UseOfNumber)
    (taken : (e : Deck) (set : Option (List ℕ)) (named : List (List ℕ)) (name text : List ℕ) (v : Option ℚ) (owner : List ℕ) → IsNumeral text → IsGiven form name
    → judge_text form (at begun e (d.objective ∷ []) set named lowered) (bytes_counted form (card_line form (card_with [] (codes "S") name v owner) text))
    ≡ judge_in_set (judge_pairs use_number) (at begun e (d.objective ∷ []) set named lowered) (six [] (codes "S") name text)) where
  -- the rows so far and the constant, the set, and the rows that the section has named
  abbrev pub state : List Row → ℚ → Option (List ℕ) → List (List ℕ) → DeckSoFar
  state rows constant chosen named = at begun (laid d rows columns constant) (d.objective ∷ []) chosen named lowered

  pub set_takes : (rows : List Row) (constant : ℚ) (chosen : Option (List ℕ)) (named : List (List ℕ)) (s' : DeckSoFar) (name : List ℕ) (v : ℚ) → IsNumber v → IsGiven form name → IsOwn chosen
      → ((text : List ℕ) → number_in text ≡ Ok v → judge_pairs use_number (state rows constant (Some (unwrap_or chosen (codes "S"))) named) (six [] (codes "S") name text) ≡ Ok s')
      → Takes form (state rows constant chosen named) (set_line name v) s'
  set_takes rows constant chosen named s' name v fits given own judged text is =
      let line = number_line (card_line form (card_with [] (codes "S") name (Some v) name)) (card_text v) text is in
      let numeral = numeral_of v line.0 fits line.1 in
      subst (λ t. (list_all is_printable t ≡ true) × (judge_text form (state rows constant chosen named) (bytes_counted form t) ≡ Ok s')) line.2 (
        card_prints [] (codes "S") name line.0 (Some v) name no_word (numeral_short line.0 numeral) form (given_field (set_given form)) (given_field given),
        taken (laid d rows columns constant) chosen named name line.0 (Some v) name numeral given
            ∙ set_judged (judge_pairs use_number) (state rows constant chosen named) s' [] name line.0 own (judged line.0 (number_read v line.0 fits line.1)),
      )

  -- ── numbers of the rows ──

  module _ (f g : Row → Row) (f_name : (r : Row) → (f r).name ≡ r.name) (g_name : (r : Row) → (g r).name ≡ r.name) (change : ℚ → Row → Row) (constant : ℚ) (lines : Row → List Line)
      (used : (s : DeckSoFar) (i : ℕ) (v : ℚ) → use_number s (row i) v ≡ Ok (record s { deck = change_row s.deck i (change v) }))
      (step : (r : Row) → IsKeptRow r → ((lines r ≡ []) × (f r ≡ g r)) ⊎ ((v : ℚ) × (lines r ≡ set_line r.name v ∷ []) × IsNumber v × (change v (f r) ≡ g r))) where
    module _ (done : List Row) (r : Row) (rest : List Row) (e : done ++ r ∷ rest ≡ d.rows) where
      distinct : AreDistinct name_of_row (done ++ r ∷ rest)
      unfolding IsDistinct
      distinct = subst (λ rs. AreDistinct name_of_row rs) (sym e) kept.row_names.1

      found : (chosen : Option (List ℕ)) (named : List (List ℕ)) → find_row (state (map g done ++ f r ∷ map f rest) constant chosen named).deck r.name ≡ Some (length (map g done))
      found chosen named =
          position-at (λ (q : Row). same_bytes q.name r.name) (map g done) (f r) (map f rest)
          (none-map (λ (q : Row). same_bytes q.name r.name) g done (each done (new-here name_of_row done r rest distinct)))
          (ap (λ n. same_bytes n r.name) (f_name r) ∙ same_bytes-own r.name)
        where
          each : (xs : List Row) → AllByRecursion (λ (q : Row). same_bytes q.name r.name ≡ false) xs → AllByRecursion (λ (q : Row). same_bytes (g q).name r.name ≡ false) xs
          each [] h = tt
          each (x ∷ xs) h = (ap (λ m. same_bytes m r.name) (g_name x) ∙ h.0, each xs h.1)

      moved : (y : Row) (more : List Row) → y ≡ g r → map g done ++ y ∷ more ≡ map g (done ++ r ∷ []) ++ more
      moved y more is =
          ap (λ z. map g done ++ z ∷ more) is ∙ sym (append_assoc (map g done) (g r ∷ []) more) ∙ ap (λ rs. rs ++ more) (sym (map-append g done (r ∷ [])))

      number_takes : (chosen : Option (List ℕ)) (named : List (List ℕ)) (v : ℚ) → IsNumber v → IsOwn chosen → is_among r.name named ≡ false → change v (f r) ≡ g r
          → Takes form (state (map g done ++ f r ∷ map f rest) constant chosen named) (set_line r.name v)
          (state (map g (done ++ r ∷ []) ++ map f rest) constant (Some (unwrap_or chosen (codes "S"))) (r.name ∷ named))
      number_takes chosen named v fits own fresh is =
          let rows = map g done ++ f r ∷ map f rest in
          let chosen' = Some (unwrap_or chosen (codes "S")) in
          let s = state rows constant chosen' named in
          let s' = state (map g (done ++ r ∷ []) ++ map f rest) constant chosen' (r.name ∷ named) in
          let i = length (map g done) in
          let set_is : set rows i (change v (get_or rows i no_row)) ≡ map g (done ++ r ∷ []) ++ map f rest =
          ap (λ q. set rows i (change v q)) (get-at (map g done) (f r) (map f rest) no_row)
          ∙ set-at (map g done) (f r) (change v (f r)) (map f rest) ∙ moved (change v (f r)) (map f rest) is in
          set_takes rows constant chosen named s' r.name v fits (name_given form r.name (all-at (λ (q : Row). IsName form q.name) done r rest d.rows e spelled.rows)) own
          (λ text value.
          pairs_judged use_number s s' (codes "S") r.name text (row i) v (row_found s r.name i (found chosen' named)) fresh value
          (used (with_named s r.name) i v ∙ ap (λ rs. Ok (state rs constant chosen' (r.name ∷ named))) set_is))

    -- none of the rows is among the names
    abbrev pub AreFresh : List (List ℕ) → List Row → Type 0
    AreFresh named rows = AllByRecursion (λ (r : Row). is_among r.name named ≡ false) rows

    fresh_more : (named : List (List ℕ)) (name : List ℕ) (rows : List Row) → AllByRecursion (λ (q : Row). same_bytes q.name name ≡ false) rows → AreFresh named rows → AreFresh (name ∷ named) rows
    fresh_more named name [] h k = tt
    fresh_more named name (r ∷ rows) h k = (or_from (same_bytes r.name name) (is_among r.name named) h.0 k.0, fresh_more named name rows h.1 k.1)

    -- the rows' numbers have been read
    abbrev pub AllRead : List Row → Option (List ℕ) → List (List ℕ) → List Line → Type 0
    AllRead rows chosen named all = (chosen' : Option (List ℕ)) × (named' : List (List ℕ)) × Runs form (state rows constant chosen named) all (state (map g d.rows) constant chosen' named')

    pub numbers_run : (done rest : List Row) (chosen : Option (List ℕ)) (named : List (List ℕ)) → done ++ rest ≡ d.rows → IsOwn chosen → AreFresh named rest
        → AllRead (map g done ++ map f rest) chosen named (flat_map lines rest)
    numbers_run done [] chosen named e own fresh =
        (chosen, named, ap (λ rs. state rs constant chosen named) (append-nil (map g done) ∙ ap (map g) (sym (append-nil done) ∙ e)))
    numbers_run done (r ∷ rest) chosen named e own fresh = elim (step r (all-at IsKeptRow done r rest d.rows e kept.rows)) [
      | inl none ↦
          subst (λ ls. AllRead (map g done ++ f r ∷ map f rest) chosen named (ls ++ flat_map lines rest)) (sym none.0)
          (subst (λ rs. AllRead rs chosen named (flat_map lines rest)) (sym (moved done r rest e (f r) (map f rest) none.1))
          (numbers_run (done ++ r ∷ []) rest chosen named (one_more done r rest d.rows e) own fresh.1))
      | inr one ↦
          let chosen' = Some (unwrap_or chosen (codes "S")) in
          let more = numbers_run (done ++ r ∷ []) rest chosen' (r.name ∷ named) (one_more done r rest d.rows e) own
          (fresh_more named r.name rest (new-behind name_of_row done r rest (distinct done r rest e)) fresh.1) in
          subst (λ ls. AllRead (map g done ++ f r ∷ map f rest) chosen named (ls ++ flat_map lines rest)) (sym one.1) (
            more.0,
            more.1,
            (
              state (map g (done ++ r ∷ []) ++ map f rest) constant chosen' (r.name ∷ named),
              number_takes done r rest e chosen named one.0 one.2 own fresh.0 one.3,
              goes,
              more.2,
            ),
          )
    ]
