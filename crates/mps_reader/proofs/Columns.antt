-- A draft at a card's column: the last one, or a new one.
use Rattle.std.proofs.Common.{◌≡◌, ℕ, zero, suc, ◌+◌, ◌-◌, ◌<◌, ◌≤◌, List, [], ◌∷◌, ◌++◌, length, replicate, cond, Option, Some, None, is_some, Ok, Err, Bool, true, false, ◌==◌, nat_eq, nat_lt, refl, sym, ap, ◌∙◌, subst, arith}
use Rattle.std.specs.Bool.{MatchBool}
use Rattle.std.specs.Cmp.Lexicographic.{pointwise}
use Rattle.std.specs.Global.{Vec}
use Rattle.std.proofs.lemmas.List.Quantifiers.{position-Some}
use Rattle.deck_model.proofs.Lookups.{same_bytes-pointwise}
use Rattle.deck_model.specs.Named.{HasNamedColumns}
use Rattle.std.proofs.lemmas.Bool.{eq-eqb, le-ltb, lt-ltb, ne_eqb, true≢false}
use Rattle.std.proofs.lemmas.List.{get_or_at, length-replicate, length_push}
use Rattle.lp_model.specs.Deck.{Column, Deck, column, no_column, nonnegative}
use Rattle.lp_model.specs.Edit.{find_column, has_entry, same_bytes, with_column}
use Rattle.lp_text.specs.declared.LineFault.TheVariants as fault
use Rattle.lp_text.specs.declared.Counted.TheVariants as counted
use Rattle.mps_model.specs.DeckSoFar.{DeckSoFar}
use Rattle.lp_text.specs.Limits.{column_limit}
use Rattle.mps_model.specs.PairCards.{at_column, begin_column}
use Rattle.mps_model.specs.declared.Section.TheVariants.{Columns}
use Rattle.mps_model.specs.Sections.{has_begun}
use Rattle.mps_reader.specs.declared.bounds.Ends.{Ends}
use Rattle.mps_reader.specs.declared.draft.Draft.{Draft}
use Rattle.mps_reader.specs.Inner.Standing.{InColumns, IsLast, IsDraftOf, interval_of, deck_with, is_lowered, slot_of}
use Rattle.lp_text.proofs.SameBytes.{same_bytes-equal}
use Rattle.mps_reader.proofs.Slots.{unmarked}
use Rattle.mps_reader.proofs.WithEnds.{deck_with-columns, deck_with-find_column, deck_with-with_column}

-- the ends of a new column, whose lower one no bound has set
pub is_lowered-push : (ends : List Ends) (e : Ends) (j : ℕ) → e.is_lowered ≡ false → is_lowered (ends ++ e ∷ []) j ≡ is_lowered ends j
is_lowered-push [] e zero not = not
is_lowered-push [] e (suc j) not = refl
is_lowered-push (x ∷ ends) e zero not = refl
is_lowered-push (x ∷ ends) e (suc j) not = is_lowered-push ends e j not

module _ (draft : Draft) (s : DeckSoFar) (h : IsDraftOf draft s) where
  pub columns-same : length s.deck.columns ≡ length draft.deck.columns
  columns-same = ap (λ (d : Deck). length d.columns) h.deck ∙ deck_with-columns draft.deck draft.free_rows.keys draft.bounds.items

  pub find_column-same : (name : List ℕ) → find_column s.deck name ≡ find_column draft.deck name
  find_column-same name = ap (λ d. find_column d name) h.deck ∙ deck_with-find_column draft.deck draft.free_rows.keys draft.bounds.items name

  -- the section of the columns has begun where it is the last one
  pub begun-in : InColumns draft → has_begun Columns s.begun ≡ true
  begun-in at = ap (has_begun Columns) (h.begun ∙ at.1)

  pub begin_column-full : (name : List ℕ) → column_limit ≤ length draft.deck.columns → begin_column s name ≡ Err (fault.Limit counted.Columns)
  begin_column-full name full =
      ap (λ b. cond b (Ok (record s { deck = with_column s.deck name; named = [] })) (Err (fault.Limit counted.Columns)))
      (ap (λ n. nat_lt n column_limit) columns-same ∙ le-ltb (length draft.deck.columns) column_limit full)

  module _ (name : List ℕ) (at : InColumns draft) (room : length draft.deck.columns < column_limit) where
    begin_column-room : begin_column s name ≡ Ok (record s { deck = with_column s.deck name; named = [] })
    begin_column-room =
        ap (λ b. cond b (Ok (record s { deck = with_column s.deck name; named = [] })) (Err (fault.Limit counted.Columns)))
        (ap (λ n. nat_lt n column_limit) columns-same ∙ lt-ltb (length draft.deck.columns) column_limit room)

    -- the new column is the last, and it has no entry
    new_last : (i : ℕ) → has_entry (column (with_column draft.deck name) (length (with_column draft.deck name).columns - 1)).entries i ≡ false
    new_last i =
        ap (λ k. has_entry (column (with_column draft.deck name) k).entries i) (omega (arith, length_push draft.deck.columns (record no_column { name = name })))
        ∙ ap (λ (c : Column). has_entry c.entries i) (get_or_at draft.deck.columns (record no_column { name = name }) [] no_column (length draft.deck.columns) refl)

    begun_stands : (e : Ends) → interval_of e ≡ nonnegative → e.is_lowered ≡ false → (ends : Vec Ends) → ends.items ≡ draft.bounds.items ++ e ∷ []
        → IsDraftOf (record draft { deck = with_column draft.deck name; named = replicate (length draft.named) None; bounds = ends }) (record s { deck = with_column s.deck name; named = [] })
    begun_stands e up free ends more = record {
      begun = h.begun;
      deck = ap (λ d. with_column d name) h.deck ∙ sym (deck_with-with_column draft.deck draft.free_rows.keys draft.bounds.items name e up h.bounded)
          ∙ ap (deck_with (with_column draft.deck name) draft.free_rows.keys) (sym more);
      awaits = h.awaits;
      free_rows = h.free_rows;
      set = h.set;
      named = λ n. sym (unmarked (length draft.named) (slot_of (with_column draft.deck name) draft.free_rows.keys n));
      lowered = λ j. h.lowered j ∙ sym (ap (λ l. is_lowered l j) more ∙ is_lowered-push draft.bounds.items e j free);
      bounded = omega (arith, ap (λ l. length l) more, length_push draft.bounds.items e, length_push draft.deck.columns (record no_column { name = name }), h.bounded);
      marks = λ begun. length-replicate (length draft.named) None ∙ h.marks begun;
      objective = h.objective;
      ordered = h.ordered;
      early = λ begun. absurd (true≢false (sym (begun-in at) ∙ begun));
      blank = λ begun. absurd (true≢false (sym (begun-in at) ∙ begun));
      entered = λ before is i has. absurd (true≢false (sym has ∙ new_last i));
    }

    pub begun_column : (e : Ends) → interval_of e ≡ nonnegative → e.is_lowered ≡ false → (ends : Vec Ends) → ends.items ≡ draft.bounds.items ++ e ∷ []
        → (deck : Deck) → deck ≡ with_column draft.deck name → (marks : List (Option Bool)) → marks ≡ replicate (length draft.named) None
        → (after : DeckSoFar) × (begin_column s name ≡ Ok after) × IsDraftOf (record draft { deck = deck; named = marks; bounds = ends }) after
    begun_column e up free ends more deck deck_is marks marks_are = (
      record s { deck = with_column s.deck name; named = [] },
      begin_column-room,
      subst (λ (d : Deck). IsDraftOf (record draft { deck = d; named = marks; bounds = ends }) (record s { deck = with_column s.deck name; named = [] })) (sym deck_is)
          (subst (λ (m : List (Option Bool)). IsDraftOf (record draft { deck = with_column draft.deck name; named = m; bounds = ends })
          (record s { deck = with_column s.deck name; named = [] })) (sym marks_are)
          (begun_stands e up free ends more)),
    )

  -- ── the column of a card ──

  at_column-cases : (name : List ℕ) (found : Option ℕ) → find_column s.deck name ≡ found
      → at_column s name ≡ elim found [ None ↦ begin_column s name | Some j ↦ cond (j + 1 == length s.deck.columns) (Ok s) (Err fault.Scattered) ]
  at_column-cases name found is = ap (λ o. elim o [ None ↦ begin_column s name | Some j ↦ cond (j + 1 == length s.deck.columns) (Ok s) (Err fault.Scattered) ]) is

  pub at_column-new : (name : List ℕ) → find_column draft.deck name ≡ None → at_column s name ≡ begin_column s name
  at_column-new name none = at_column-cases name None (find_column-same name ∙ none)

  pub at_column-last : (name : List ℕ) → IsLast draft.deck name → at_column s name ≡ Ok s
  at_column-last name is =
      at_column-cases name (Some (length draft.deck.columns - 1)) (find_column-same name ∙ is.1)
      ∙ ap (λ b. cond b (Ok s) (Err fault.Scattered)) (eq-eqb (length draft.deck.columns - 1 + 1) (length s.deck.columns) (omega (arith, is.0, columns-same)))

  pub at_column-other : (name : List ℕ) (found : Option ℕ) → found ≡ find_column draft.deck name → is_some found ≡ true → ¬ IsLast draft.deck name → at_column s name ≡ Err fault.Scattered
  at_column-other name None found some other = absurd (cc some)
  at_column-other name (Some j) found some other =
      let inside = (position-Some (λ c. same_bytes c.name name) draft.deck.columns j no_column (sym found)).0 in
      at_column-cases name (Some j) (find_column-same name ∙ sym found)
      ∙ ap (λ b. cond b (Ok s) (Err fault.Scattered)) (ne_eqb (j + 1) (length s.deck.columns) (λ e. other (last_is j inside (sym found) (e ∙ columns-same))))
    where
      last_is : (j : ℕ) → j < length draft.deck.columns → find_column draft.deck name ≡ Some j → j + 1 ≡ length draft.deck.columns → IsLast draft.deck name
      last_is j inside found e = (omega arith, found ∙ ap Some (omega arith))

-- ── the name of the last column ──

module _ (d : Deck) (name last : List ℕ) (at : last ≡ (column d (length d.columns - 1)).name) (same : Bool) (told : same ≡ pointwise nat_eq last name) where
  last_named : HasNamedColumns d → 0 < length d.columns → same ≡ true → IsLast d name
  last_named named some e =
      let equal : last ≡ name = same_bytes-equal last name (same_bytes-pointwise last name ∙ sym told ∙ e) in
      (some, ap (find_column d) (sym equal ∙ at) ∙ named.found (length d.columns - 1) (omega arith))

  last_other : same ≡ false → ¬ IsLast d name
  last_other e is =
      let found = (position-Some (λ c. same_bytes c.name name) d.columns (length d.columns - 1) no_column is.1).1 in
      true≢false (sym found ∙ ap (λ n. same_bytes n name) (sym at) ∙ same_bytes-pointwise last name ∙ sym told ∙ e)

  -- the last column has the name exactly where the bytes are the same
  pub is_last : HasNamedColumns d → 0 < length d.columns → MatchBool same (IsLast d name) (¬ IsLast d name)
  is_last named some = by same refl
    where
      by : (b : Bool) → same ≡ b → MatchBool b (IsLast d name) (¬ IsLast d name)
      by true e = last_named named some e
      by false e = last_other e
