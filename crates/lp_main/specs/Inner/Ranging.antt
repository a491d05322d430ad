-- What the parts of ranging answer.
use Rattle.std.specs.Prelude.{ℕ, List, codes}
use Rattle.lp_model.specs.Deck.{Deck}
use Rattle.lp_run.specs.Instance.{instance_of}
use Rattle.lp_run.specs.Listing.{Overflows}
use Rattle.ranging.specs.Text.{HasLengthsOf, range_text}
use Rattle.lp_main.specs.declared.range.Found.{Found}
use Rattle.lp_main.specs.declared.range.Found.TheVariants as found
use Rattle.lp_main.specs.declared.refusal.Refusal.{Refusal}
use Rattle.lp_main.specs.declared.refusal.Refusal.TheVariants as refusal
use Rattle.lp_main.specs.Ranged.{AreRangesOf, HasUnfitRange}
use Rattle.lp_main.specs.RangeTexts.{bare_text}
use Rattle.lp_main.specs.Solves.{IsShort}
use Rattle.lp_main.specs.Summaries.{summary_budget}

-- the text of what is found
abbrev pub found_text : Deck → Found → List ℕ
found_text d (found.Ranges ranges) = range_text d ranges
found_text d found.Infeasible = bare_text d (codes "INFEASIBLE")
found_text d found.Unbounded = bare_text d (codes "UNBOUNDED")

-- ranges have the lengths of the deck
abbrev pub FitsDeck : Deck → Found → Type 0
FitsDeck d (found.Ranges ranges) = HasLengthsOf d ranges
FitsDeck d other = Unit {0}

-- its text tells the deck's ranges
pub record IsFound (d : Deck) (it : Found) : Type 0 where
  pub told : AreRangesOf (found_text d it) d
  pub fits : FitsDeck d it

-- why a deck that was read has no ranges
abbrev pub IsUnrangedCause : ℕ → Deck → Refusal → Type 0
IsUnrangedCause w d (refusal.Overflow here) = Overflows w summary_budget (instance_of d) here
IsUnrangedCause w d (refusal.RangeUnfit place name) = HasUnfitRange w place name d
IsUnrangedCause w d (refusal.Budget n) = IsShort summary_budget n d
IsUnrangedCause w d refusal.Memory = Unit {0}
IsUnrangedCause w d other = ⊥
