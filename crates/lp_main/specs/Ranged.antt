-- What is replied to a deck whose ranges are asked for; w is the width of the arithmetic.
use Rattle.std.specs.Prelude.{◌≡◌, ℕ, List, Option, Some, IfSome}
use Rattle.lp_model.specs.declared.Entry.{Entry}
use Rattle.lp_model.specs.Deck.{Deck, column, row}
use Rattle.lp_model.specs.Outcome.{Outcome, optimal}
use Rattle.rational.specs.Rational.{ℚ}
use Rattle.lp_run.specs.Instance.{instance_of}
use Rattle.lp_run.specs.Listing.{Overflows}
use Rattle.lp_run.specs.Run.{IsRun}
use Rattle.lp_run.specs.State.{State}
use Rattle.lp_text.specs.declared.Form.{Form}
use Rattle.ranging.specs.declared.fault.RangePlace.{RangePlace}
use Rattle.ranging.specs.declared.fault.RangePlace.TheVariants as range_place
use Rattle.ranging.specs.Listing.{RangeLists, Ranged as RangedValue, first_wide}
use Rattle.lp_main.specs.declared.refusal.Refusal.TheVariants as refusal
use Rattle.lp_main.specs.declared.status.Answer.TheVariants as answer
use Rattle.lp_main.specs.FirstFaults.{IsTextFault}
use Rattle.lp_main.specs.RangeTexts.{TellsRanges}
use Rattle.lp_main.specs.Reply.{Reply, gives, refuses}
use Rattle.lp_main.specs.Solves.{IsDeckWith, IsShort, IsSolved}
use Rattle.lp_main.specs.Summaries.{summary_budget}

-- the bytes tell the ranges of the last state of the deck's whole run
abbrev pub AreRangesOf : List ℕ → Deck → Type 0
AreRangesOf bytes d = (log : List Entry) × (o : Outcome) × (last : State) × IsSolved summary_budget d log o × IsRun (instance_of d) log last × TellsRanges d last o bytes

-- the column or row of a range
abbrev pub range_name : Deck → RangePlace → List ℕ
range_name d (range_place.Cost j) = (column d j).name
range_name d (range_place.Right i) = (row d i).name

-- the deck's whole run ends at an optimum, and the first value of the ranges there that does not fit is of this column or row
abbrev pub HasUnfitRange : ℕ → RangePlace → List ℕ → Deck → Type 0
HasUnfitRange w place name d =
    (log : List Entry) × (x y : List ℚ) × (v : ℚ) × (last : State) × (vs : List RangedValue)
    × IsSolved summary_budget d log (optimal x y v) × IsRun (instance_of d) log last
    × RangeLists (instance_of d) last vs × (first_wide w vs ≡ Some place) × (name ≡ range_name d place)

-- the ranges; the text's first fault; the first value of the run, within the budget, or of the ranges, that does not fit w bits; or a run longer than the
-- budget
abbrev pub TellsHowFar : Form → ℕ → Option (List ℕ) → Reply → Type 0
TellsHowFar form w text (gives answer.Done bytes) = IfSome text (IsDeckWith form (AreRangesOf bytes))
TellsHowFar form w text (refuses (refusal.Deck fault)) = IfSome text (λ t. IsTextFault form t fault)
TellsHowFar form w text (refuses (refusal.Overflow here)) = IfSome text (IsDeckWith form (λ d. Overflows w summary_budget (instance_of d) here))
TellsHowFar form w text (refuses (refusal.RangeUnfit place name)) = IfSome text (IsDeckWith form (HasUnfitRange w place name))
TellsHowFar form w text (refuses (refusal.Budget n)) = IfSome text (IsDeckWith form (IsShort summary_budget n))
TellsHowFar form w text other = ⊥
