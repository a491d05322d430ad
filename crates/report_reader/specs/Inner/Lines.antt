-- What single lines of a report say, and what is expected behind them.
use Rattle.std.specs.Prelude.{◌≡◌, ℕ, List, [], ◌∷◌, ◌++◌, codes, Bool, true, false, Option, Some, None}
use Rattle.lp_model.specs.Deck.{Deck}
use Rattle.lp_text.specs.Report.{column_names, row_names}
use Rattle.report_lines.specs.Judged.{IsCountLine}
use Rattle.report_lines.specs.FirstFlaw as expected
use Rattle.report_lines.specs.FirstFlaw.{Expected, repeated, values}
use Rattle.report_reader.specs.declared.judges.Kind.{Kind}
use Rattle.report_reader.specs.declared.judges.Kind.TheVariants.{Optimal, Infeasible, Unbounded}

-- the first line of a report that tells a basis, or tells none
abbrev pub version_of : Bool → List ℕ
version_of false = codes "LPCERT 1"
version_of true = codes "LPCERT 2"

abbrev pub of_basis : Bool → List Expected
of_basis false = []
of_basis true = expected.basis ∷ expected.upper ∷ []

abbrev pub after_version : Bool → List Expected
after_version tells = expected.title ∷ expected.kind ∷ of_basis tells ++ expected.log_or_end ∷ []

abbrev pub kind_line : Kind → List ℕ
kind_line Optimal = codes "OPTIMAL"
kind_line Infeasible = codes "INFEASIBLE"
kind_line Unbounded = codes "UNBOUNDED"

abbrev pub after_kind : Deck → Kind → List Expected
after_kind d Optimal = expected.objective ∷ values (codes "VALUE") (column_names d) ++ values (codes "PRICE") (row_names d)
after_kind d Infeasible = values (codes "FARKAS") (row_names d)
after_kind d Unbounded = values (codes "VALUE") (column_names d) ++ values (codes "RAY") (column_names d)

abbrev pub log_line : List ℕ → Option ℕ → Type 0
log_line line None = line ≡ codes "END"
log_line line (Some count) = IsCountLine (codes "LOG") line count

abbrev pub after_count : Option ℕ → List Expected
after_count None = []
after_count (Some count) = repeated expected.entry count ++ expected.end ∷ []
