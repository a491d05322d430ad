-- A card of a column, and the pairs of a card, one step after the other.
use Rattle.std.proofs.Common.{◌≡◌, ℕ, List, cond, Option, Some, None, Result, Ok, true, false, sym, ap, ap₂, ◌∙◌, subst}
use Rattle.lp_text.specs.Cards.{field_of}
use Rattle.lp_text.specs.declared.LineFault.{LineFault}
use Rattle.mps_model.specs.DeckSoFar.{DeckSoFar, and_then}
use Rattle.mps_model.specs.PairCards.{UseOfNumber, at_column, has_second_pair, judge_column, judge_pair, judge_pairs, use_in_column}
use Rattle.mps_reader.specs.Inner.Standing.{IsFound}

-- a fault of the first step is one of both
pub first_found : {T U : Type 0} (first : Result T LineFault) (step : T → Result U LineFault) (fault : Option LineFault) → IsFound first fault → IsFound (and_then first step) fault
first_found first step None found = tt
first_found first step (Some fault) found = ap (λ r. and_then r step) found

-- ── the pairs of a card ──

module _ (how : UseOfNumber) (s : DeckSoFar) (fields : List (List ℕ)) (name text : List ℕ) (name_is : name ≡ field_of fields 3) (text_is : text ≡ field_of fields 4) where
  second : DeckSoFar → Result DeckSoFar LineFault
  second after = cond (has_second_pair fields) (judge_pair how after (field_of fields 5) (field_of fields 6)) (Ok after)

  pairs-step : judge_pairs how s fields ≡ and_then (judge_pair how s name text) second
  unfolding second
  pairs-step = ap (λ r. and_then r second) (ap₂ (judge_pair how s) (sym name_is) (sym text_is))

  pub pairs-refused : (fault : Option LineFault) → IsFound (judge_pair how s name text) fault → IsFound (judge_pairs how s fields) fault
  pairs-refused fault found = subst (λ r. IsFound r fault) (sym pairs-step) (first_found (judge_pair how s name text) second fault found)

  module _ (after : DeckSoFar) (taken : judge_pair how s name text ≡ Ok after) where
    pub pairs-one : has_second_pair fields ≡ false → judge_pairs how s fields ≡ Ok after
    unfolding second
    pairs-one none = pairs-step ∙ ap (λ r. and_then r second) taken ∙ ap (λ b. cond b (judge_pair how after (field_of fields 5) (field_of fields 6)) (Ok after)) none

    pub pairs-two : (name' text' : List ℕ) → name' ≡ field_of fields 5 → text' ≡ field_of fields 6 → has_second_pair fields ≡ true → judge_pairs how s fields ≡ judge_pair how after name' text'
    unfolding second
    pairs-two name' text' name_at text_at some =
        pairs-step ∙ ap (λ r. and_then r second) taken ∙ ap (λ b. cond b (judge_pair how after (field_of fields 5) (field_of fields 6)) (Ok after)) some
        ∙ ap₂ (judge_pair how after) (sym name_at) (sym text_at)

-- ── a card of a column ──

module _ (s : DeckSoFar) (fields : List (List ℕ)) where
  pairs_after : DeckSoFar → Result DeckSoFar LineFault
  pairs_after after = judge_pairs use_in_column after fields

  module _ (name : List ℕ) (name_is : name ≡ field_of fields 2) where
    column-step : judge_column s fields ≡ and_then (at_column s name) pairs_after
    unfolding pairs_after
    column-step = ap (λ n. and_then (at_column s n) pairs_after) (sym name_is)

    pub column-refused : (fault : Option LineFault) → IsFound (at_column s name) fault → IsFound (judge_column s fields) fault
    column-refused fault found = subst (λ r. IsFound r fault) (sym column-step) (first_found (at_column s name) pairs_after fault found)

    pub column-next : (after : DeckSoFar) → at_column s name ≡ Ok after → judge_column s fields ≡ judge_pairs use_in_column after fields
    unfolding pairs_after
    column-next after taken = column-step ∙ ap (λ r. and_then r pairs_after) taken
