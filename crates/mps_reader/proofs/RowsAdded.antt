-- A draft with one row more.
use Rattle.std.proofs.Common.{◌≡◌, ◌≢◌, ℕ, ◌<◌, ◌≤◌, true, false, ◌||◌, List, [], ◌∷◌, ◌++◌, length, position, slice_index_or, Option, Some, None, is_some, Ok, Err, nat_eq, nat_lt, lt-ltb, if◌then◌else◌, refl, sym, ap, ap₂, ◌∙◌, subst, arith}
use Rattle.std.specs.Cmp.Lexicographic.{pointwise}
use Rattle.std.specs.List.{list_any}
use Rattle.std.specs.Option.{option_map}
use Rattle.std.proofs.lemmas.Bool.{or_parts}
use Rattle.std.proofs.lemmas.Bool.Decides.{nat_tests}
use Rattle.deck_model.proofs.Lookups.{same_bytes-flip}
use Rattle.lp_model.specs.declared.RowKind.{RowKind}
use Rattle.lp_model.specs.Deck.{Deck}
use Rattle.lp_model.specs.Edit.{is_row_name, same_bytes, with_row}
use Rattle.lp_text.specs.Cards.{field_of}
use Rattle.lp_text.specs.Limits.{row_limit}
use Rattle.mps_model.specs.declared.Section.TheVariants.{Columns, Rows}
use Rattle.mps_model.specs.Sections.{has_begun}
use Rattle.lp_text.specs.declared.LineFault.TheVariants as fault
use Rattle.lp_text.specs.declared.Counted.TheVariants as counted
use Rattle.mps_model.specs.DeckSoFar.{DeckSoFar, RowPlace, place_of}
use Rattle.mps_model.specs.declared.RowType.{RowType}
use Rattle.mps_model.specs.declared.RowType.TheVariants.{Kept}
use Rattle.mps_model.specs.RowCards.{judge_row, row_type_of, with_free_row, with_row_of}
use Rattle.mps_reader.specs.declared.bounds.Ends.{Ends}
use Rattle.mps_reader.specs.declared.draft.Draft.{Draft}
use Rattle.mps_reader.specs.declared.draft.Place.{Place}
use Rattle.mps_reader.specs.Inner.Standing.{InRows, IsOrdered, IsDraftOf, IsSpelled, deck_with, is_lowered, no_objective_name, place_is}
use Rattle.mps_reader.proofs.Positions.{is_some-position}
use Rattle.mps_reader.proofs.RowNames.{unplaced}
use Rattle.mps_reader.proofs.SectionOrder.{before_columns}
use Rattle.mps_reader.proofs.Slots.{unmarked_none}

-- the deck with the first N row's name as its objective's
abbrev pub objective_after : List (List ℕ) → Deck → List ℕ → Deck
objective_after free_rows d name = elim free_rows [ [] ↦ record d { objective = name } | first ∷ others ↦ d ]

deck_after : (free_rows : List (List ℕ)) (d : Deck) (name : List ℕ) (ends : List Ends)
    → objective_after free_rows (deck_with d free_rows ends) name ≡ deck_with (objective_after free_rows d name) (free_rows ++ name ∷ []) ends
deck_after [] d name ends = refl
deck_after (first ∷ others) d name ends = refl

columns_after : (free_rows : List (List ℕ)) (d : Deck) (name : List ℕ) → (objective_after free_rows d name).columns ≡ d.columns
columns_after [] d name = refl
columns_after (first ∷ others) d name = refl

name_after : (free_rows : List (List ℕ)) (d : Deck) (name other : List ℕ) → d.objective ≡ slice_index_or free_rows 0 other
    → (objective_after free_rows d name).objective ≡ slice_index_or (free_rows ++ name ∷ []) 0 other
name_after [] d name other e = refl
name_after (first ∷ others) d name other e = e

-- the first N row names the objective
pub first_named : (free_rows : List (List ℕ)) (d : Deck) (name : List ℕ) → length free_rows ≡ 0 → record d { objective = name } ≡ objective_after free_rows d name
first_named [] d name e = refl
first_named (first ∷ others) d name e = absurd (omega arith)

-- the later ones do not
pub later_named : (free_rows : List (List ℕ)) (d : Deck) (name : List ℕ) → length free_rows ≢ 0 → d ≡ objective_after free_rows d name
later_named [] d name ne = absurd (ne refl)
later_named (first ∷ others) d name ne = refl

-- a name that is not among the keys goes last
pub inserted : (before after : List (List ℕ)) (name : List ℕ) → after ≡ (if list_any (pointwise nat_eq name) before then before else before ++ name ∷ [])
    → position (pointwise nat_eq name) before ≡ None → after ≡ before ++ name ∷ []
inserted before after name e none = e ∙ ap (λ b. if b then before else before ++ name ∷ []) (sym (is_some-position (pointwise nat_eq name) before) ∙ ap is_some none)

-- a name that is no N row's is not the first one's
first_apart : (free_rows : List (List ℕ)) (name other : List ℕ) → position (pointwise nat_eq name) free_rows ≡ None → same_bytes other name ≡ false
    → same_bytes (slice_index_or free_rows 0 other) name ≡ false
first_apart [] name other none e = e
first_apart (first ∷ others) name other none e =
    same_bytes-flip first name
    ∙ (or_parts (pointwise nat_eq name first) (list_any (pointwise nat_eq name) others) (sym (is_some-position (pointwise nat_eq name) (first ∷ others)) ∙ ap is_some none)).0

module _ (draft : Draft) (s : DeckSoFar) (h : IsDraftOf draft s) (at : InRows draft) where
  -- in the section of the rows the columns have not begun
  pub no_columns : has_begun Columns s.begun ≡ false
  no_columns =
      let e : s.begun ≡ Rows ∷ at.0 = h.begun ∙ at.1 in
      ap (has_begun Columns) e ∙ before_columns (at.0) (subst IsOrdered e h.ordered)

  pub no_column : length draft.deck.columns ≡ 0
  no_column = ap length (h.early no_columns)

  grown : (new : Draft) (deck : Deck) (free_rows : List (List ℕ)) → new.begun ≡ draft.begun → new.awaits_sense ≡ draft.awaits_sense → new.set ≡ draft.set → new.named ≡ draft.named → new.bounds ≡ draft.bounds
      → deck ≡ deck_with new.deck new.free_rows.keys new.bounds.items → free_rows ≡ new.free_rows.keys → new.deck.columns ≡ draft.deck.columns
      → new.deck.objective ≡ slice_index_or new.free_rows.keys 0 no_objective_name → IsDraftOf new (record s { deck = deck; free_rows = free_rows })
  grown new deck free_rows begun awaits set named bounds is names columns_same objective =
      let blank : new.named ≡ [] = named ∙ h.blank no_columns in
      record {
        begun = h.begun ∙ ap (λ b. b.items) (sym begun);
        deck = is;
        awaits = h.awaits ∙ sym awaits;
        free_rows = names;
        set = h.set ∙ sym set;
        named = λ name. h.named name ∙ unmarked_none draft.named _ (h.blank no_columns) ∙ sym (unmarked_none new.named _ blank);
        lowered = λ j. h.lowered j ∙ ap (λ b. is_lowered b.items j) (sym bounds);
        bounded = ap (λ b. length b.items) bounds ∙ h.bounded ∙ sym (ap length columns_same);
        marks = λ begun_columns. let none : false ≡ true = sym no_columns ∙ begun_columns in absurd (cc none);
        objective = objective;
        ordered = h.ordered;
        early = λ none. columns_same ∙ h.early none;
        blank = λ none. blank;
        entered = λ before e. let none : false ≡ true = sym no_columns ∙ ap (has_begun Columns) e in absurd (cc none);
      }

  -- an N row more
  pub free_row_added : (name : List ℕ) (new : Draft) → new.begun ≡ draft.begun → new.awaits_sense ≡ draft.awaits_sense → new.set ≡ draft.set → new.named ≡ draft.named → new.bounds ≡ draft.bounds
      → new.deck ≡ objective_after draft.free_rows.keys draft.deck name → new.free_rows.keys ≡ draft.free_rows.keys ++ name ∷ [] → IsDraftOf new (with_free_row s name)
  free_row_added name new begun awaits set named bounds deck keys =
      grown new (objective_after s.free_rows s.deck name) (s.free_rows ++ name ∷ []) begun awaits set named bounds
      (ap₂ (λ names d. objective_after names d name) h.free_rows h.deck
      ∙ deck_after draft.free_rows.keys draft.deck name draft.bounds.items
      ∙ ap₂ (λ d names. deck_with d names draft.bounds.items) (sym deck) (sym keys)
      ∙ ap (λ b. deck_with new.deck new.free_rows.keys b.items) (sym bounds))
      (ap (λ names. names ++ name ∷ []) h.free_rows ∙ sym keys)
      (ap (λ d. d.columns) deck ∙ columns_after draft.free_rows.keys draft.deck name)
      (ap (λ d. d.objective) deck ∙ name_after draft.free_rows.keys draft.deck name no_objective_name h.objective ∙ ap (λ names. slice_index_or names 0 no_objective_name) (sym keys))

  -- a row more
  pub row_added : (name : List ℕ) (kind : RowKind) (new : Draft) → new.begun ≡ draft.begun → new.awaits_sense ≡ draft.awaits_sense → new.set ≡ draft.set → new.named ≡ draft.named → new.bounds ≡ draft.bounds
      → new.deck ≡ with_row draft.deck name kind → new.free_rows ≡ draft.free_rows → IsDraftOf new (record s { deck = with_row s.deck name kind })
  row_added name kind new begun awaits set named bounds deck free_rows =
      grown new (with_row s.deck name kind) s.free_rows begun awaits set named bounds
      (ap (λ d. with_row d name kind) h.deck
      ∙ ap₂ (λ d names. deck_with d names.keys draft.bounds.items) (sym deck) (sym free_rows)
      ∙ ap (λ b. deck_with new.deck new.free_rows.keys b.items) (sym bounds))
      (h.free_rows ∙ ap (λ names. names.keys) (sym free_rows))
      (ap (λ d. d.columns) deck)
      (ap (λ d. d.objective) deck ∙ h.objective ∙ ap (λ names. slice_index_or names.keys 0 no_objective_name) (sym free_rows))

  -- a name that a card may spell and that stands for nothing is no row's and not the objective's
  pub fresh : (name : List ℕ) → IsSpelled name → place_of s name ≡ None → is_row_name draft.deck name ≡ false
  fresh name spelled none =
      let apart = unplaced draft s h name none in
      let objective : same_bytes draft.deck.objective name ≡ false =
      ap (λ n. same_bytes n name) h.objective ∙ first_apart draft.free_rows.keys name no_objective_name apart.1 spelled in
      ap₂ (λ a b. a || b) objective (ap is_some apart.0)

  row_count : length s.deck.rows ≡ length draft.deck.rows
  row_count = ap (λ d. length d.rows) h.deck

  -- a row where there is room
  pub room : (name : List ℕ) (kind : RowKind) → length draft.deck.rows < row_limit → with_row_of s name (Kept kind) ≡ Ok (record s { deck = with_row s.deck name kind })
  room name kind below =
      let test : nat_lt (length s.deck.rows) row_limit ≡ true = ap (λ n. nat_lt n row_limit) row_count ∙ lt-ltb (length draft.deck.rows) row_limit below in
      ap (λ b. if b then Ok (record s { deck = with_row s.deck name kind }) else Err (fault.Limit counted.Rows)) test

  -- a row where there is none
  pub full : (name : List ℕ) (kind : RowKind) → row_limit ≤ length draft.deck.rows → with_row_of s name (Kept kind) ≡ Err (fault.Limit counted.Rows)
  full name kind above =
      let past : nat_lt (length draft.deck.rows) row_limit ≡ false = grind (arith, nat_tests) in
      let test : nat_lt (length s.deck.rows) row_limit ≡ false = ap (λ n. nat_lt n row_limit) row_count ∙ past in
      ap (λ b. if b then Ok (record s { deck = with_row s.deck name kind }) else Err (fault.Limit counted.Rows)) test

-- ── the card of a row ──

-- where no place is answered there is none
pub no_place : (found : Option Place) (place : Option RowPlace) → option_map place_is found ≡ place → is_some found ≡ false → place ≡ None
no_place None place e none = sym e
no_place (Some p) place e none = absurd (cc none)

module _ (s : DeckSoFar) (fields : List (List ℕ)) where
  pub judged_by : (kind : RowType) → row_type_of (field_of fields 1) ≡ Some kind → place_of s (field_of fields 2) ≡ None → judge_row s fields ≡ with_row_of s (field_of fields 2) kind
  judged_by kind typed none = ap₂ (λ o p. elim o [ None ↦ Err fault.RowType | Some k ↦ if is_some p then Err fault.Repeated else with_row_of s (field_of fields 2) k ]) typed none

  -- the same, of a name that is the card's
  pub judged_named : (kind : RowType) (name : List ℕ) → row_type_of (field_of fields 1) ≡ Some kind → name ≡ field_of fields 2 → place_of s name ≡ None → judge_row s fields ≡ with_row_of s name kind
  judged_named kind name typed is none = judged_by kind typed (ap (place_of s) (sym is) ∙ none) ∙ ap (λ n. with_row_of s n kind) (sym is)
