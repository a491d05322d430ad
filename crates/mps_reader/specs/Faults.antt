-- The faults of a text among those of a deck.
use Rattle.std.specs.Prelude.{Option, Some, None}
use Rattle.mps_model.specs.DeckOf.{TextFault, crossed_bounds, in_line, no_end, no_objective}
use Rattle.mps_reader.specs.declared.faults.DeckFault.{DeckFault}
use Rattle.mps_reader.specs.declared.faults.DeckFault.TheVariants.{CrossedBounds, InLine, Memory, NoEnd, NoObjective, Read}

-- the first fault of a text that a deck's fault is; want of memory and a failed read are none
abbrev pub text_fault : DeckFault → Option TextFault
text_fault Read = None
text_fault Memory = None
text_fault (InLine n fault) = Some (in_line n fault)
text_fault NoObjective = Some no_objective
text_fault (NoEnd n) = Some (no_end n)
text_fault (CrossedBounds name) = Some (crossed_bounds name)
