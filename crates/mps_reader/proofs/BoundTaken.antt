-- A bound that is taken, or refused.
use Rattle.std.specs.Prelude.{◌≡◌, ℕ, ◌<◌, List, length, get_or, set, Ok, Err, Option, Some, None, ◌||◌, ◌==◌}
use Rattle.std.specs.List.{list_any}
use Rattle.std.specs.Vec.{with_item}
use Rattle.std.proofs.Common.{sym, ap, ap₂, ◌∙◌, length-set, subst}
use Rattle.rational.specs.Rational.{ℚ}
use Rattle.lp_model.specs.Deck.{column}
use Rattle.lp_model.specs.Edit.{find_column, with_bounds}
use Rattle.lp_text.specs.Cards.{field_of}
use Rattle.lp_text.specs.declared.LineFault.{LineFault}
use Rattle.lp_text.specs.declared.LineFault.TheVariants as fault
use Rattle.mps_model.specs.DeckSoFar.{DeckSoFar, and_then}
use Rattle.mps_model.specs.declared.BoundKind.{BoundKind}
use Rattle.mps_model.specs.BoundCards.{bound_number, bounds_after, judge_bound, judge_bound_of, kind_of, sets_lower, with_bound}
use Rattle.mps_reader.specs.declared.bounds.Ends.{Ends}
use Rattle.mps_reader.specs.declared.draft.Draft.{Draft}
use Rattle.mps_reader.specs.Inner.Standing.{IsFound, IsDraftOf, interval_of, deck_with, is_lowered}
use Rattle.mps_reader.proofs.BoundSet.{deck_with-bounds, deck_with-set, is_lowered-get, lowered-set}
use Rattle.mps_reader.proofs.CardSteps.{first_found}

-- ── the judgement ──

module _ (s : DeckSoFar) (fields : List (List ℕ)) (word name : List ℕ) (kind : BoundKind)
    (first : word ≡ field_of fields 1) (known : kind_of word ≡ Ok kind) (third : name ≡ field_of fields 3) where
  of_kind : judge_bound s fields ≡ judge_bound_of s kind fields
  of_kind = ap (λ r. and_then r (λ k. judge_bound_of s k fields)) (ap kind_of (sym first) ∙ known)

  by_column : (place : Option ℕ) → place ≡ find_column s.deck name → judge_bound_of s kind fields ≡ elim place [
    | None ↦ Err fault.UnknownColumn
    | Some j ↦ and_then (bound_number kind (field_of fields 4)) (λ v. Ok (with_bound s kind j v))
  ]
  by_column place h = ap (λ p. elim p [
    | None ↦ Err fault.UnknownColumn
    | Some j ↦ and_then (bound_number kind (field_of fields 4)) (λ v. Ok (with_bound s kind j v))
  ]) (ap (find_column s.deck) (sym third) ∙ sym h)

  pub unknown_here : None ≡ find_column s.deck name → judge_bound s fields ≡ Err fault.UnknownColumn
  unknown_here h = of_kind ∙ by_column None h

  module _ (j : ℕ) (here : Some j ≡ find_column s.deck name) (text : List ℕ) (fourth : text ≡ field_of fields 4) where
    at_column : judge_bound s fields ≡ and_then (bound_number kind text) (λ v. Ok (with_bound s kind j v))
    at_column = of_kind ∙ by_column (Some j) here ∙ ap (λ t. and_then (bound_number kind t) (λ v. Ok (with_bound s kind j v))) (sym fourth)

    pub refused_here : (fault : Option LineFault) → IsFound (bound_number kind text) fault → IsFound (judge_bound s fields) fault
    refused_here fault h = subst (λ r. IsFound r fault) (sym at_column) (first_found (bound_number kind text) (λ v. Ok (with_bound s kind j v)) fault h)

    pub taken_here : (v : ℚ) → bound_number kind text ≡ Ok v → judge_bound s fields ≡ Ok (with_bound s kind j v)
    taken_here v h = at_column ∙ ap (λ r. and_then r (λ v. Ok (with_bound s kind j v))) h

-- ── the draft ──

module _ (draft : Draft) (s : DeckSoFar) (h : IsDraftOf draft s) where
  module _ (kind : BoundKind) (v : ℚ) (j : ℕ) (old new : Ends) (inside : j < length draft.deck.columns)
      (was : old ≡ get_or draft.bounds.items j old)
      (ends : interval_of new ≡ bounds_after kind v old.is_lowered (interval_of old))
      (low : new.is_lowered ≡ (sets_lower kind || old.is_lowered)) where
    within_ends : j < length draft.bounds.items
    within_ends = subst (λ n. j < n) (sym h.bounded) inside

    was_lowered : old.is_lowered ≡ is_lowered draft.bounds.items j
    was_lowered = ap (λ (e : Ends). e.is_lowered) was ∙ sym (is_lowered-get draft.bounds.items j old within_ends)

    before : (column s.deck j).bounds ≡ interval_of old
    before =
        ap (λ d. (column d j).bounds) h.deck ∙ deck_with-bounds draft.deck draft.free_rows.keys draft.bounds.items j within_ends old inside
        ∙ ap interval_of (sym was)

    new_bounds : bounds_after kind v (list_any (λ k. k == j) s.lowered) (column s.deck j).bounds ≡ interval_of new
    new_bounds = ap₂ (bounds_after kind v) (h.lowered j ∙ sym was_lowered) before ∙ sym ends

    new_deck : with_bounds s.deck j (bounds_after kind v (list_any (λ k. k == j) s.lowered) (column s.deck j).bounds)
        ≡ deck_with draft.deck draft.free_rows.keys (set draft.bounds.items j new)
    new_deck = ap₂ (λ d b. with_bounds d j b) h.deck new_bounds ∙ deck_with-set draft.deck draft.free_rows.keys draft.bounds.items j within_ends new

    pub stands_with_bound : IsDraftOf (record draft { bounds = with_item draft.bounds j new }) (with_bound s kind j v)
    stands_with_bound = record {
      begun = h.begun;
      deck = new_deck;
      awaits = h.awaits;
      free_rows = h.free_rows;
      set = h.set;
      named = h.named;
      lowered = lowered-set (sets_lower kind) s.lowered draft.bounds.items j new within_ends (low ∙ ap (λ b. sets_lower kind || b) was_lowered) h.lowered;
      bounded = length-set draft.bounds.items j new ∙ h.bounded;
      marks = h.marks;
      objective = h.objective;
      ordered = h.ordered;
      early = h.early;
      blank = h.blank;
      entered = h.entered;
    }
