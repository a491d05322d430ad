-- A fault that the reader answers, as a fault of the text.
use Rattle.std.proofs.Common.{◌≡◌, refl}
use Rattle.std.specs.Prelude.{MatchOption}
use Rattle.mps_model.specs.DeckOf.{TextFault, crossed_bounds, in_line, no_end, no_objective}
use Rattle.mps_reader.specs.declared.faults.DeckFault.{DeckFault}
use Rattle.mps_reader.specs.declared.faults.DeckFault.TheVariants as deck
use Rattle.mps_reader.specs.Faults.{text_fault}
use Rattle.lp_main.specs.FaultLines.{fault_line, reader_line}

-- the line of what the reader answers is that of the fault of a text that it is
pub named : (f : DeckFault) (P : TextFault → Type 0) → MatchOption (text_fault f) ⊥ P → (first : TextFault) × P first × (reader_line f ≡ fault_line first)
named deck.Read P h = absurd h
named deck.Memory P h = absurd h
named (deck.InLine n found) P h = (in_line n found, h, refl)
named deck.NoObjective P h = (no_objective, h, refl)
named (deck.NoEnd n) P h = (no_end n, h, refl)
named (deck.CrossedBounds name) P h = (crossed_bounds name, h, refl)
