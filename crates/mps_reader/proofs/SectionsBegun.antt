-- A draft with a section begun.
use Rattle.std.proofs.Common.{◌≡◌, ◌≢◌, ℕ, ◌+◌, ◌-◌, Bool, true, false, List, [], ◌∷◌, length, get_or, replicate, Option, Some, None, Ok, Err, if◌then◌else◌, refl, sym, ap, ap₂, ◌∙◌, subst}
use Rattle.std.proofs.lemmas.List.{length-replicate}
use Rattle.lp_model.specs.Deck.{Deck, column, no_column}
use Rattle.lp_model.specs.Edit.{has_entry, with_sense}
use Rattle.lp_model.specs.declared.Sense.{Sense}
use Rattle.mps_model.specs.declared.Section.{Section}
use Rattle.mps_model.specs.declared.Section.TheVariants.{Bounds, Columns, Finish, ObjectiveSense, Ranges, RightSides, Rows, Title}
use Rattle.mps_model.specs.Sections.{has_begun, may_begin, section_of}
use Rattle.lp_text.specs.declared.LineFault.TheVariants as fault
use Rattle.mps_model.specs.DeckSoFar.{DeckSoFar}
use Rattle.mps_model.specs.Judgement.{begin_section, has_no_sense, judge_section, with_sense_given}
use Rattle.mps_reader.specs.declared.draft.Draft.{Draft}
use Rattle.mps_reader.specs.Inner.Standing.{IsDraftOf, deck_with, is_lowered, is_marked, no_objective_name, slot_of}
use Rattle.mps_reader.proofs.SectionOrder.{not_yet, title_first}
use Rattle.mps_reader.proofs.Slots.{unmarked, unmarked_none}

-- a deck without columns has no entry in its last one
no_entry : (d : Deck) (i : ℕ) → d.columns ≡ [] → has_entry (column d (length d.columns - 1)).entries i ≡ false
no_entry d i e = ap (λ cs. has_entry (get_or cs (length cs - 1) no_column).entries i) e

module _ (draft : Draft) (s : DeckSoFar) (h : IsDraftOf draft s) where
  opened : (k : Section) (new : Draft) → new.begun.items ≡ k ∷ draft.begun.items → new.deck ≡ draft.deck → new.awaits_sense ≡ draft.awaits_sense
      → new.free_rows ≡ draft.free_rows → new.set ≡ None → new.bounds ≡ draft.bounds
      → (n : ℕ) → new.named ≡ replicate n None → may_begin k s.begun ≡ true
      → (has_begun Columns (k ∷ s.begun) ≡ true → n ≡ length draft.deck.rows + length draft.free_rows.keys)
      → (has_begun Columns (k ∷ s.begun) ≡ false → (draft.deck.columns ≡ []) × (n ≡ 0))
      → (k ≡ Columns → draft.deck.columns ≡ [])
      → IsDraftOf new (record s { begun = k ∷ s.begun; set = None; named = [] })
  opened k new begun deck awaits free_rows set bounds n named may full empty first = record {
    begun = ap (λ b. k ∷ b) h.begun ∙ sym (begun);
    deck = h.deck ∙ ap₂ (λ d names. deck_with d names.keys draft.bounds.items) (sym deck) (sym free_rows) ∙ ap (λ b. deck_with new.deck new.free_rows.keys b.items) (sym bounds);
    awaits = h.awaits ∙ sym awaits;
    free_rows = h.free_rows ∙ ap (λ names. names.keys) (sym free_rows);
    set = sym set;
    named = λ name. let slot = slot_of new.deck new.free_rows.keys name in sym (ap (λ m. is_marked m slot) named ∙ unmarked n slot);
    lowered = λ j. h.lowered j ∙ ap (λ b. is_lowered b.items j) (sym bounds);
    bounded = ap (λ b. length b.items) bounds ∙ h.bounded ∙ ap (λ d. length d.columns) (sym deck);
    marks = λ e. ap length named ∙ length-replicate n None ∙ full e ∙ ap₂ (λ d names. length d.rows + length names.keys) (sym deck) (sym free_rows);
    objective = ap (λ d. d.objective) deck ∙ h.objective ∙ ap (λ names. get_or names.keys 0 no_objective_name) (sym free_rows);
    ordered = (may, h.ordered);
    early = λ e. ap (λ d. d.columns) deck ∙ (empty e).0;
    blank = λ e. named ∙ ap (λ m. replicate m None) (empty e).1;
    entered = λ before e i entry.
        let same : k ≡ Columns = cc e in
        let none : false ≡ true = sym (no_entry new.deck i (ap (λ d. d.columns) deck ∙ first same)) ∙ entry in
        absurd (cc none);
  }

  -- the columns, which have named no row
  pub columns_begun : (new : Draft) (second name : List ℕ) → new.begun.items ≡ Columns ∷ draft.begun.items → new.deck ≡ draft.deck → new.awaits_sense ≡ draft.awaits_sense
      → new.free_rows ≡ draft.free_rows → new.set ≡ None → new.bounds ≡ draft.bounds
      → new.named ≡ replicate (length draft.deck.rows + length draft.free_rows.keys) None → may_begin Columns s.begun ≡ true → IsDraftOf new (begin_section s Columns second name)
  columns_begun new second name begun deck awaits free_rows set bounds named may =
      opened Columns new begun deck awaits free_rows set bounds (length draft.deck.rows + length draft.free_rows.keys) named may
      (λ e. refl) (λ e. absurd (cc e)) (λ e. h.early (not_yet s.begun may))

  -- another section than the title and the columns
  pub other_begun : (k : Section) → k ≢ Title → k ≢ ObjectiveSense → k ≢ Columns → (new : Draft) (second name : List ℕ) → new.begun.items ≡ k ∷ draft.begun.items
      → new.deck ≡ draft.deck → new.awaits_sense ≡ draft.awaits_sense → new.free_rows ≡ draft.free_rows → new.set ≡ None
      → new.bounds ≡ draft.bounds → new.named ≡ replicate (length draft.named) None → may_begin k s.begun ≡ true → IsDraftOf new (begin_section s k second name)
  other_begun Title nt ns nc new second name begun deck awaits free_rows set bounds named may = absurd (nt refl)
  other_begun Columns nt ns nc new second name begun deck awaits free_rows set bounds named may = absurd (nc refl)
  other_begun ObjectiveSense nt ns nc new second name begun deck awaits free_rows set bounds named may = absurd (ns refl)
  other_begun Rows nt ns nc new second name begun deck awaits free_rows set bounds named may =
      opened Rows new begun deck awaits free_rows set bounds (length draft.named) named may h.marks (λ e. (h.early e, ap length (h.blank e))) (λ e. absurd (cc e))
  other_begun RightSides nt ns nc new second name begun deck awaits free_rows set bounds named may =
      opened RightSides new begun deck awaits free_rows set bounds (length draft.named) named may h.marks (λ e. (h.early e, ap length (h.blank e))) (λ e. absurd (cc e))
  other_begun Ranges nt ns nc new second name begun deck awaits free_rows set bounds named may =
      opened Ranges new begun deck awaits free_rows set bounds (length draft.named) named may h.marks (λ e. (h.early e, ap length (h.blank e))) (λ e. absurd (cc e))
  other_begun Bounds nt ns nc new second name begun deck awaits free_rows set bounds named may =
      opened Bounds new begun deck awaits free_rows set bounds (length draft.named) named may h.marks (λ e. (h.early e, ap length (h.blank e))) (λ e. absurd (cc e))
  other_begun Finish nt ns nc new second name begun deck awaits free_rows set bounds named may =
      opened Finish new begun deck awaits free_rows set bounds (length draft.named) named may h.marks (λ e. (h.early e, ap length (h.blank e))) (λ e. absurd (cc e))

  -- the title, which comes first
  pub title_begun : (new : Draft) (second name : List ℕ) → new.begun.items ≡ Title ∷ draft.begun.items
      → new.deck ≡ record draft.deck { name = name } → new.awaits_sense ≡ draft.awaits_sense → new.free_rows ≡ draft.free_rows → new.set ≡ draft.set
      → new.bounds ≡ draft.bounds → new.named ≡ draft.named → may_begin Title s.begun ≡ true → IsDraftOf new (begin_section s Title second name)
  title_begun new second name begun deck awaits free_rows set bounds named may =
      let none : s.begun ≡ [] = title_first s.begun may in
      let early : has_begun Columns s.begun ≡ false = ap (has_begun Columns) none in
      let blank : new.named ≡ [] = named ∙ h.blank early in
      record {
        begun = ap (λ b. Title ∷ b) h.begun ∙ sym (begun);
        deck =
            ap (λ (d : Deck). record d { name = name }) h.deck
            ∙ ap₂ (λ d names. deck_with d names.keys draft.bounds.items) (sym deck) (sym free_rows) ∙ ap (λ b. deck_with new.deck new.free_rows.keys b.items) (sym bounds);
        awaits = h.awaits ∙ sym awaits;
        free_rows = h.free_rows ∙ ap (λ names. names.keys) (sym free_rows);
        set = h.set ∙ sym set;
        named = λ n. h.named n ∙ unmarked_none draft.named _ (h.blank early) ∙ sym (unmarked_none new.named _ blank);
        lowered = λ j. h.lowered j ∙ ap (λ b. is_lowered b.items j) (sym bounds);
        bounded = ap (λ b. length b.items) bounds ∙ h.bounded ∙ ap (λ d. length d.columns) (sym deck);
        marks = λ e. let both : false ≡ true = sym early ∙ e in absurd (cc both);
        objective = ap (λ d. d.objective) deck ∙ h.objective ∙ ap (λ names. get_or names.keys 0 no_objective_name) (sym free_rows);
        ordered = (may, h.ordered);
        early = λ e. ap (λ d. d.columns) deck ∙ h.early e;
        blank = λ e. blank;
        entered = λ before e. absurd (cc e);
      }

  -- a draft with a sense in place of its own, as the deck so far has one in place of its own
  sense_changed : (awaits : Bool) (own given : Sense) → with_sense s.deck given ≡ deck_with (with_sense draft.deck own) draft.free_rows.keys draft.bounds.items
      → IsDraftOf (record draft { awaits_sense = awaits; deck = with_sense draft.deck own }) (record s { awaits_sense = awaits; deck = with_sense s.deck given })
  sense_changed awaits own given deck = record {
    begun = h.begun;
    deck = deck;
    awaits = refl;
    free_rows = h.free_rows;
    set = h.set;
    named = h.named;
    lowered = h.lowered;
    bounded = h.bounded;
    marks = h.marks;
    objective = h.objective;
    ordered = h.ordered;
    early = h.early;
    blank = h.blank;
    entered = h.entered;
  }

  -- a sense that is given, or is awaited
  sense_given : (sense : Option Sense) (new : Draft)
      → new ≡ (elim sense [ None ↦ record draft { awaits_sense = true } | Some v ↦ record draft { awaits_sense = false; deck = with_sense draft.deck v } ])
      → IsDraftOf new (with_sense_given s sense)
  sense_given None new is = subst (λ d. IsDraftOf d (with_sense_given s None)) (sym is) (sense_changed true draft.deck.sense s.deck.sense h.deck)
  sense_given (Some v) new is = subst (λ d. IsDraftOf d (with_sense_given s (Some v))) (sym is) (sense_changed false v v (ap (λ d. with_sense d v) h.deck))

  -- the sense, whose section leaves all else
  pub sense_begun : (new : Draft) → new.begun.items ≡ ObjectiveSense ∷ draft.begun.items → (kept : new ≡ record draft { begun = new.begun }) → may_begin ObjectiveSense s.begun ≡ true
      → IsDraftOf new (record s { begun = ObjectiveSense ∷ s.begun })
  sense_begun new begun kept may = subst (λ d. IsDraftOf d (record s { begun = ObjectiveSense ∷ s.begun })) (sym kept) (record {
    begun = ap (λ b. ObjectiveSense ∷ b) h.begun ∙ sym begun;
    deck = h.deck;
    awaits = h.awaits;
    free_rows = h.free_rows;
    set = h.set;
    named = h.named;
    lowered = h.lowered;
    bounded = h.bounded;
    marks = h.marks;
    objective = h.objective;
    ordered = (may, h.ordered);
    early = h.early;
    blank = h.blank;
    entered = λ before e. absurd (cc e);
  })

-- ── the card of a section ──

pub section_taken : (s : DeckSoFar) (word second name : List ℕ) (kind : Section) → section_of word ≡ Some kind → has_no_sense kind second ≡ false → may_begin kind s.begun ≡ true
    → judge_section s word second name ≡ Ok (begin_section s kind second name)
section_taken s word second name kind known sense may =
    ap (λ o. elim o [
      | None ↦ Err fault.Section
      | Some k ↦ if has_no_sense k second then Err fault.Sense else if may_begin k s.begun then Ok (begin_section s k second name) else Err fault.Section
    ]) known
    ∙ ap₂ (λ t u. if t then Err fault.Sense else if u then Ok (begin_section s kind second name) else Err fault.Section) sense may
