-- The names of a deck's columns, or of its rows.
use Rattle.std.specs.Prelude.{ℕ, List}
use Rattle.lp_text.specs.Report.{column_names, row_names}
use Rattle.cert_text.specs.declared.names.Names.{Names}
use Rattle.cert_text.specs.declared.names.Names.TheVariants.{Columns, Rows}

abbrev pub names_of : Names → List (List ℕ)
names_of (Columns deck) = column_names deck.now
names_of (Rows deck) = row_names deck.now
