-- The end of a deck: its columns with their ends, or the first column whose ends cross.
use Rattle.std.specs.Prelude.{◌≡◌, ℕ, ◌<◌, ◌≤◌, List, [], ◌∷◌, length, get_or, take, find, slice_index_or, Option, Some, None, true}
use Rattle.std.proofs.Common.{refl, sym, ap, ◌∙◌, subst, arith}
use Rattle.std.proofs.lemmas.List.{take_all}
use Rattle.lp_model.specs.Deck.{Column, Deck, column}
use Rattle.mps_model.specs.DeckSoFar.{DeckSoFar}
use Rattle.mps_model.specs.DeckOf.{crossed_bounds, finished, has_fault, is_crossed, is_deck, no_objective}
use Rattle.mps_reader.specs.declared.bounds.Ends.{Ends}
use Rattle.mps_reader.specs.declared.draft.Draft.{Draft}
use Rattle.mps_reader.specs.Inner.Standing.{IsDraftOf, interval_of, deck_with, no_objective_name, with_ends}
use Rattle.mps_reader.proofs.CrossedColumns.{AreUncrossed, find-first, find-none, given_ends, with_ends-none}
use Rattle.mps_reader.proofs.WithEnds.{get_or-with_ends, length-with_ends}

with_objective : {R : Type 0} (rows : List (List ℕ)) (without r : R) → ¬ (length rows ≡ 0) → elim rows [ [] ↦ without | name ∷ others ↦ r ] ≡ r
with_objective [] without r h = absurd (h refl)
with_objective (name ∷ others) without r h = refl

first_name : (rows : List (List ℕ)) (a b : List ℕ) → ¬ (length rows ≡ 0) → slice_index_or rows 0 a ≡ slice_index_or rows 0 b
first_name [] a b h = absurd (h refl)
first_name (name ∷ others) a b h = refl

module _ (draft : Draft) (s : DeckSoFar) (h : IsDraftOf draft s) (ends : List Ends) (same : ends ≡ draft.bounds.items) where
  all_columns : length ends ≡ length draft.deck.columns
  all_columns = ap length same ∙ h.bounded

  columns_are : s.deck.columns ≡ with_ends draft.deck.columns ends
  columns_are = ap (λ d. d.columns) h.deck ∙ ap (with_ends draft.deck.columns) (sym same)

  -- a column has its ends
  pub column_given : (d : Deck) (given k : ℕ) → d ≡ given_ends draft.deck (take given ends) → k < length ends → k < length d.columns
  column_given d given k is less =
      subst (λ n. k < n) (all_columns ∙ sym (length-with_ends draft.deck.columns (take given ends)) ∙ sym (ap (λ d. length d.columns) is)) less

  module _ (line : ℕ) (some : ¬ (length draft.free_rows.keys ≡ 0)) where
    reading : (found : Option Column) → found ≡ find (λ c. is_crossed c.bounds) (with_ends draft.deck.columns ends)
        → finished s line ≡ elim found [ None ↦ is_deck s.deck line | Some c ↦ has_fault (crossed_bounds c.name) ]
    reading found is =
        with_objective s.free_rows (has_fault no_objective) (elim (find (λ c. is_crossed c.bounds) s.deck.columns) [ None ↦ is_deck s.deck line | Some c ↦ has_fault (crossed_bounds c.name) ])
        (λ e. some (sym (ap length h.free_rows) ∙ e))
        ∙ ap (λ f. elim f [ None ↦ is_deck s.deck line | Some c ↦ has_fault (crossed_bounds c.name) ])
        (ap (find (λ c. is_crossed c.bounds)) columns_are ∙ sym is)

    -- the first column whose ends cross is named
    pub first_crossed : (d : Deck) (given k : ℕ) (e : Ends) (name : List ℕ) → d ≡ given_ends draft.deck (take given ends) → k < length ends → AreUncrossed ends k
        → e ≡ get_or ends k e → is_crossed (interval_of e) ≡ true → name ≡ (column d k).name → finished s line ≡ has_fault (crossed_bounds name)
    first_crossed d given k e name is less before at crossed called =
        reading (Some (record (column draft.deck k) { bounds = interval_of (get_or ends k e) }))
        (sym (find-first draft.deck.columns ends k e all_columns less before (ap (λ x. is_crossed (interval_of x)) (sym at) ∙ crossed)))
        ∙ ap (λ n. has_fault (crossed_bounds n))
        (sym (called ∙ ap (λ d. (column d k).name) is ∙ get_or-with_ends (λ c. c.name) (λ c b. refl) draft.deck.columns (take given ends) k))

    deck_is : s.deck ≡ given_ends draft.deck ends
    deck_is =
        h.deck ∙ ap (deck_with draft.deck draft.free_rows.keys) (sym same)
        ∙ ap (λ o. record draft.deck { objective = o; columns = with_ends draft.deck.columns ends })
        (first_name draft.free_rows.keys [] no_objective_name some ∙ sym h.objective)

    -- the deck, where no ends cross
    pub none_crossed : (d : Deck) (given : ℕ) → d ≡ given_ends draft.deck (take given ends) → length ends ≤ given → AreUncrossed ends given → finished s line ≡ is_deck d line
    none_crossed d given is all straight =
        reading None (sym (find-none draft.deck.columns ends all_columns (λ i less e. straight i (omega (arith, less, all)) e)))
        ∙ ap (λ d. is_deck d line) (deck_is ∙ ap (given_ends draft.deck) (sym (take_all given ends all)) ∙ sym is)

-- no column has its ends at first
pub none_given : (d : Deck) (ends : List Ends) → d ≡ given_ends d (take 0 ends)
none_given d ends = ap (λ cs. record d { columns = cs }) (sym (with_ends-none d.columns))
