-- Cards of data, by the section that they stand in.
use Rattle.std.proofs.Common.{◌≡◌, ℕ, Bool, true, false, List, [], ◌∷◌, Option, Result, Ok, if◌then◌else◌, refl, sym, ap, ◌∙◌, subst}
use Rattle.std.specs.Option.{unwrap_or}
use Rattle.lp_model.specs.Edit.{same_bytes}
use Rattle.lp_text.specs.Cards.{field_of}
use Rattle.lp_text.specs.declared.LineFault.{LineFault}
use Rattle.mps_model.specs.declared.Section.{Section}
use Rattle.mps_model.specs.declared.Section.TheVariants.{Bounds, Columns, Finish, ObjectiveSense, Ranges, RightSides, Rows, Title}
use Rattle.mps_model.specs.DeckSoFar.{DeckSoFar}
use Rattle.mps_model.specs.Judgement.{judge_data}
use Rattle.mps_model.specs.PairCards.{judge_in_set, with_set}
use Rattle.mps_reader.specs.declared.draft.Draft.{Draft}
use Rattle.mps_reader.specs.declared.pairs.Use.{Use}
use Rattle.mps_reader.specs.declared.pairs.Use.TheVariants.{InColumn, AsRight, AsRange}
use Rattle.mps_reader.specs.declared.refusal.Refusal.{Refusal}
use Rattle.mps_reader.specs.Inner.Standing.{Judged, MayUse, IsDraftOf}

-- what is judged as another card is taken as that
pub judged_as : (j k : Result DeckSoFar LineFault) (new : Draft) (r : Result (Unit {0}) Refusal) → j ≡ k → Judged k new r → Judged j new r
judged_as j k new r e t = subst (λ x. Judged x new r) (sym e) t

-- a card of data is judged by the last section that has begun
judged_by_last : (k : Section) (before : List Section) (s : DeckSoFar) (fields : List (List ℕ)) → judge_data (k ∷ before) s fields ≡ judge_data (k ∷ []) s fields
judged_by_last Title before s fields = refl
judged_by_last Rows before s fields = refl
judged_by_last Columns before s fields = refl
judged_by_last RightSides before s fields = refl
judged_by_last Ranges before s fields = refl
judged_by_last Bounds before s fields = refl
judged_by_last ObjectiveSense before s fields = refl
judged_by_last Finish before s fields = refl

-- the section that has begun last in a draft judges a card
pub judged_in : (draft : Draft) (s : DeckSoFar) (k kind : Section) → IsDraftOf draft s → (before : List Section) × (draft.begun.items ≡ k ∷ before) → k ≡ kind
    → (fields : List (List ℕ)) → judge_data s.begun s fields ≡ judge_data (kind ∷ []) s fields
judged_in draft s k kind h last is fields =
    ap (λ b. judge_data b s fields) (h.begun ∙ last.1 ∙ ap (λ x. x ∷ last.0) is) ∙ judged_by_last kind last.0 s fields

-- ── cards of sections with sets ──

module _ (judge : DeckSoFar → List (List ℕ) → Result DeckSoFar LineFault) (s : DeckSoFar) (fields : List (List ℕ)) (name : List ℕ) (is : name ≡ field_of fields 2) where
  in_set : (b : Bool) → b ≡ same_bytes (unwrap_or s.set name) name → judge_in_set judge s fields ≡ (if b then judge (with_set s name) fields else Ok s)
  in_set b e =
      ap (λ n. if same_bytes (unwrap_or s.set n) n then judge (with_set s n) fields else Ok s) (sym is)
      ∙ ap (λ t. if t then judge (with_set s name) fields else Ok s) (sym e)

  -- a card of the section's set is judged
  pub of_set : (b : Bool) → b ≡ same_bytes (unwrap_or s.set name) name → b ≡ true → judge_in_set judge s fields ≡ judge (with_set s name) fields
  of_set b e used = in_set b e ∙ ap (λ t. if t then judge (with_set s name) fields else Ok s) used

  -- a card of another set is passed over
  pub of_other_set : (b : Bool) → b ≡ same_bytes (unwrap_or s.set name) name → b ≡ false → judge_in_set judge s fields ≡ Ok s
  of_other_set b e other = in_set b e ∙ ap (λ t. if t then judge (with_set s name) fields else Ok s) other

-- a number may have its use whatever the set
pub may_in_set : (how : Use) (draft : Draft) (set : Option (List ℕ)) → MayUse how draft → MayUse how (record draft { set = set })
may_in_set InColumn draft set may = may
may_in_set AsRight draft set may = may
may_in_set AsRange draft set may = may

-- what a draft stands for once a card's set was asked for
pub of_used : (new : Draft) (s : DeckSoFar) (name : List ℕ) (b : Bool) → b ≡ true → IsDraftOf new (if b then with_set s name else s) → IsDraftOf new (with_set s name)
of_used new s name b used h = subst (λ t. IsDraftOf new (if t then with_set s name else s)) used h

pub of_unused : (new : Draft) (s : DeckSoFar) (name : List ℕ) (b : Bool) → b ≡ false → IsDraftOf new (if b then with_set s name else s) → IsDraftOf new s
of_unused new s name b unused h = subst (λ t. IsDraftOf new (if t then with_set s name else s)) unused h
