-- The first table stands at the start.
use Rattle.std.proofs.Common.{[], List, refl}
use Rattle.rational.specs.Rational.{ℚ}
use Rattle.lp_run.specs.Instance.{Instance}
use Rattle.lp_run.specs.Listing.{start_entry}
use Rattle.lp_run.specs.Solution.{Values}
use Rattle.lp_run.specs.State.{start_of}
use Rattle.lp_run.specs.Tableau.{table_cost}
use Rattle.lp_run.proofs.Start.{start_entries, start_inverse}
use Rattle.table_laws.specs.Stands.{StandsAt}
use Rattle.table_laws.proofs.Tableaus.{tableau_stands}

-- each row times the sign of its artificial, with the values of the start and the costs that the basis leaves
pub started : (inst : Instance) (β : List ℚ) → Values inst (start_of inst) β → StandsAt inst [] (start_of inst) (start_entry inst) β (table_cost inst (start_of inst) (start_entry inst))
started inst β values =
    tableau_stands inst [] (start_of inst) (start_entry inst) β (table_cost inst (start_of inst) (start_entry inst)) refl
    (record { inverse = start_inverse inst; entries = start_entries inst; values = values; costs = λ j b. refl })
