-- What is told of a deck's ranges at a state of its run.
use Rattle.std.specs.Prelude.{◌≡◌, ℕ, List, [], ◌∷◌, ◌++◌, codes}
use Rattle.lp_model.specs.Deck.{Deck}
use Rattle.lp_model.specs.Outcome.{Outcome, optimal}
use Rattle.lp_run.specs.Instance.{instance_of}
use Rattle.lp_run.specs.State.{State}
use Rattle.lp_text.specs.Lines.{text_of}
use Rattle.ranging.specs.Ranges.{AreRanges, Ranges}
use Rattle.ranging.specs.Text.{range_text}
use Rattle.lp_main.specs.Verdicts.{outcome_word}

-- what is told of a deck without an optimum: the word of its answer
abbrev pub bare_text : Deck → List ℕ → List ℕ
bare_text d word = text_of (codes "LPRANGE 1" ∷ (codes "DECK " ++ d.name) ∷ word ∷ codes "END" ∷ [])

-- at an optimum the bytes are the ranges of the state: each cost and each right side may change just so far, alone, with the state staying optimal. Else they
-- tell the word of the outcome
abbrev pub TellsRanges : Deck → State → Outcome → List ℕ → Type 0
TellsRanges d s (optimal x y v) bytes = (found : Ranges) × AreRanges (instance_of d) s found × (bytes ≡ range_text d found)
TellsRanges d s o bytes = bytes ≡ bare_text d (outcome_word o)
