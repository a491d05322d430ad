-- What a run works with, and the tickets that it gives.
use Rattle.bland_ratio.specs.declared.tickets.Pay.{Pay}
use Rattle.bland_ratio.specs.declared.tickets.Pay.TheVariants as pay
use Rattle.two_phase.specs.declared.ground.Ground.{Ground}
use Rattle.two_phase.specs.declared.ground.Ground.TheVariants as ground
use Rattle.two_phase.specs.declared.standing.Mode.{Mode}
use Rattle.two_phase.specs.declared.standing.Mode.TheVariants as mode

abbrev pub mode_of : Ground → Mode
mode_of (ground.Factors it) = mode.Factors
mode_of (ground.Plain p) = mode.Plain

-- the pay of a ticket by the mode: prices while there are factors, reduced costs once they are given up
abbrev pub IsPaidBy : Mode → Pay → Type 0
IsPaidBy mode.Factors (pay.Prices y) = Unit {0}
IsPaidBy mode.Factors (pay.Costs d) = ⊥
IsPaidBy mode.Plain (pay.Prices y) = ⊥
IsPaidBy mode.Plain (pay.Costs d) = Unit {0}
