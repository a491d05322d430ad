-- The set that a section uses.
use Rattle.std.proofs.Common.{◌≡◌, ℕ, Bool, true, false, List, Option, Some, None, nat_eq, if◌then◌else◌, sym, ap, ◌∙◌}
use Rattle.std.specs.Option.{unwrap_or}
use Rattle.std.specs.Cmp.Lexicographic.{pointwise}
use Rattle.std.proofs.lemmas.Cmp.{nat_list_eq_equiv}
use Rattle.deck_model.proofs.Lookups.{same_bytes-pointwise}
use Rattle.lp_model.specs.Edit.{same_bytes}
use Rattle.mps_model.specs.DeckSoFar.{DeckSoFar}
use Rattle.mps_model.specs.PairCards.{with_set}
use Rattle.mps_reader.specs.declared.draft.Draft.{Draft}
use Rattle.mps_reader.specs.Inner.Standing.{IsDraftOf}

module _ (draft : Draft) (s : DeckSoFar) (h : IsDraftOf draft s) (name : List ℕ) where
  with_set-stands : (set : Option (List ℕ)) → set ≡ Some (unwrap_or s.set name) → IsDraftOf (record draft { set = set }) (with_set s name)
  with_set-stands set is = record {
    begun = h.begun;
    deck = h.deck;
    awaits = h.awaits;
    free_rows = h.free_rows;
    set = sym is;
    named = h.named;
    lowered = h.lowered;
    bounded = h.bounded;
    marks = h.marks;
    objective = h.objective;
    ordered = h.ordered;
    early = h.early;
    blank = h.blank;
    entered = h.entered;
  }

  -- a card names a set where the section has one
  pub set_compared : (set : List ℕ) (b : Bool) → draft.set ≡ Some set → b ≡ pointwise nat_eq set name → (b ≡ same_bytes (unwrap_or s.set name) name) × IsDraftOf draft (if b then with_set s name else s)
  set_compared set b is e = (e ∙ sym (same_bytes-pointwise set name) ∙ ap (λ o. same_bytes (unwrap_or o name) name) (sym (h.set ∙ is)), by b)
    where
      by : (t : Bool) → IsDraftOf draft (if t then with_set s name else s)
      by true = with_set-stands draft.set (is ∙ sym (ap (λ o. Some (unwrap_or o name)) (h.set ∙ is)))
      by false = h

  -- the section's first card names its set
  pub set_taken : (set : List ℕ) → draft.set ≡ None → set ≡ name → (true ≡ same_bytes (unwrap_or s.set name) name) × IsDraftOf (record draft { set = Some set }) (with_set s name)
  set_taken set none is = (
    sym (ap (λ o. same_bytes (unwrap_or o name) name) (h.set ∙ none) ∙ same_bytes-pointwise name name ∙ nat_list_eq_equiv.refl name),
    with_set-stands (Some set) (ap Some is ∙ sym (ap (λ o. Some (unwrap_or o name)) (h.set ∙ none))),
  )
