-- A card as a line has it, and its fields in its section.
use Rattle.std.proofs.Common.{◌≡◌, ℕ, zero, suc, ◌≤◌, Bool, true, List, [], ◌∷◌, slice_index_or, Option, Some, is_some, Result, Ok, Err, cond, ◌&&◌, refl, sym, ap, ap₂, ◌∙◌, subst, arith}
use Rattle.lp_model.specs.declared.Sense.{Sense}
use Rattle.lp_text.specs.Cards.{field_of}
use Rattle.lp_text.specs.Senses.{sense_of}
use Rattle.lp_text.specs.declared.LineFault.{LineFault}
use Rattle.lp_text.specs.declared.LineFault.TheVariants as fault
use Rattle.mps_cards.specs.Splitting.{is_section, text_card}
use Rattle.mps_cards.specs.declared.cards.Card.{Card}
use Rattle.mps_cards.specs.declared.cards.CardKind.TheVariants as kinds
use Rattle.mps_free.specs.Cutting.{text_card as free_card}
use Rattle.mps_free.specs.declared.cards.FreeCard.{FreeCard}
use Rattle.mps_free.specs.declared.cards.FreeCard.TheVariants.{Data, Section}
use Rattle.mps_model.specs.CardFields.{fixed_fields, free_fields, without_set}
use Rattle.mps_model.specs.DeckSoFar.{DeckSoFar, and_then}
use Rattle.mps_model.specs.Judgement.{judge_card, judge_data, judge_free_card, judge_section, judge_sense, with_sense_given}
use Rattle.mps_model.specs.declared.Section.{Section as SectionOf}
use Rattle.mps_reader.specs.declared.fields.Layout.{Layout}
use Rattle.mps_reader.specs.declared.fields.Layout.TheVariants.{KindWithoutSet, Whole, WithoutKind, WithoutSet}
use Rattle.mps_reader.specs.Inner.Laid.{laid_out}
use Rattle.mps_reader.specs.Inner.Standing.{IsFound, IsSpelled}
use Rattle.mps_reader.proofs.CardSteps.{first_found}

-- ── fields ──

-- past the kind and the set that is missing, the tokens follow
pub behind_set : (tokens : List (List ℕ)) (n : ℕ) → 2 ≤ n → slice_index_or ([] ∷ tokens) n [] ≡ slice_index_or (without_set tokens) n []
behind_set tokens zero far = absurd (omega arith)
behind_set tokens (suc zero) far = absurd (omega arith)
behind_set [] (suc (suc n)) far = refl
behind_set (kind ∷ tokens) (suc (suc n)) far = refl

kind_spelled : (tokens : List (List ℕ)) → IsSpelled (field_of (without_set tokens) 2)
kind_spelled [] = refl
kind_spelled (kind ∷ tokens) = refl

-- tokens that a card may spell make such fields
pub laid_spelled : (layout : Layout) (tokens : List (List ℕ)) → ((number : ℕ) → IsSpelled (field_of tokens number)) → IsSpelled (field_of (laid_out layout tokens) 2)
laid_spelled Whole tokens h = h 2
laid_spelled WithoutKind tokens h = h 1
laid_spelled WithoutSet tokens h = refl
laid_spelled KindWithoutSet tokens h = kind_spelled tokens

-- ── cards of sections ──

section_words : (s : DeckSoFar) (word word' second second' name name' : List ℕ) → word ≡ word' → second ≡ second' → name ≡ name' → judge_section s word' second' name' ≡ judge_section s word second name
section_words s word word' second second' name name' words seconds names =
    sym (ap (λ w. judge_section s w second name) words ∙ ap₂ (judge_section s word') seconds names)

-- ── cards in fixed columns ──

module _ (s : DeckSoFar) (card : Card) where
  by_kind : Bool → Result DeckSoFar LineFault
  by_kind b = cond b (judge_section s (field_of card.fields 1) (field_of card.fields 2) (field_of card.fields 3)) (and_then (fixed_fields s.begun card.fields) (judge_data s.begun s))

  pub section_card : (word second name : List ℕ) → card.kind ≡ kinds.Section → word ≡ field_of card.fields 1 → second ≡ field_of card.fields 2 → name ≡ field_of card.fields 3
      → judge_card s (text_card card) ≡ judge_section s word second name
  unfolding by_kind
  section_card word second name is words seconds names = ap (λ k. by_kind (is_section k)) is ∙ section_words s word _ second _ name _ words seconds names

  data_card : card.kind ≡ kinds.Data → judge_card s (text_card card) ≡ and_then (fixed_fields s.begun card.fields) (judge_data s.begun s)
  unfolding by_kind
  data_card is = ap (λ k. by_kind (is_section k)) is

  module _ (is : card.kind ≡ kinds.Data) (begun : List SectionOf) (same : s.begun ≡ begun) where
    -- the card's fields are judged
    pub fields_judged : (found : List (List ℕ)) → fixed_fields begun card.fields ≡ Ok found → judge_card s (text_card card) ≡ judge_data s.begun s found
    fields_judged found e = data_card is ∙ ap (λ r. and_then r (judge_data s.begun s)) (ap (λ b. fixed_fields b card.fields) same ∙ e)

    -- a fault of the fields is the card's
    pub fields_refused : (fault : Option LineFault) → IsFound (fixed_fields begun card.fields) fault → IsFound (judge_card s (text_card card)) fault
    fields_refused fault found =
        subst (λ j. IsFound j fault) (sym (data_card is ∙ ap (λ b. and_then (fixed_fields b card.fields) (judge_data s.begun s)) same))
        (first_found (fixed_fields begun card.fields) (judge_data s.begun s) fault found)

-- ── cards in free form ──

module _ (s : DeckSoFar) (card : FreeCard) where
  pub free_section : (tokens : List (List ℕ)) (word second name : List ℕ) → card ≡ Section tokens → word ≡ field_of tokens 1 → second ≡ field_of tokens 2 → name ≡ field_of tokens 2
      → judge_free_card s (free_card card) ≡ judge_section s word second name
  free_section tokens word second name is words seconds names = ap (λ c. judge_free_card s (free_card c)) is ∙ section_words s word _ second _ name _ words seconds names

  module _ (tokens : List (List ℕ)) (is : card ≡ Data tokens) (begun : List SectionOf) (same : s.begun ≡ begun) where
    free_data : judge_free_card s (free_card card) ≡ and_then (free_fields begun tokens) (judge_data s.begun s)
    free_data = ap (λ c. judge_free_card s (free_card c)) is ∙ ap (λ b. and_then (free_fields b tokens) (judge_data s.begun s)) same

    -- the fields that the tokens are are judged
    pub tokens_judged : (found : List (List ℕ)) → free_fields begun tokens ≡ Ok found → judge_free_card s (free_card card) ≡ judge_data s.begun s found
    tokens_judged found e = free_data ∙ ap (λ r. and_then r (judge_data s.begun s)) e

    -- a fault of the tokens is the card's
    pub tokens_refused : (fault : Option LineFault) → IsFound (free_fields begun tokens) fault → IsFound (judge_free_card s (free_card card)) fault
    tokens_refused fault found = subst (λ j. IsFound j fault) (sym free_data) (first_found (free_fields begun tokens) (judge_data s.begun s) fault found)

  -- a card that holds the sense
  pub sense_taken : (tokens : List (List ℕ)) (v : Sense) → card ≡ Data tokens → sense_of (field_of tokens 1) ≡ Some v → judge_sense s (free_card card) ≡ Ok (with_sense_given s (Some v))
  sense_taken tokens v is known =
      ap (λ c. judge_sense s (free_card c)) is ∙ ap (λ o. cond (true && is_some o) (Ok (with_sense_given s o)) (Err fault.Sense)) known
