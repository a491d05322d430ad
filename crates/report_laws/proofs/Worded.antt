-- The words that are expected have no blank.
use Rattle.std.proofs.Common.{inl, inr, ℕ, zero, suc, List, [], ◌∷◌, ◌++◌, refl, sym, subst}
use Rattle.std.specs.Prelude.{codes}
use Rattle.lp_model.specs.Deck.{Deck}
use Rattle.lp_text.specs.Report.{column_names, row_names}
use Rattle.report_lines.specs.FirstFlaw as expected
use Rattle.report_lines.specs.FirstFlaw.{Expected, Follows, Meets, at, basic, basis, end, entry, kind, log_or_end, objective, repeated, title, upper, value, values, version}
use Rattle.report_laws.proofs.Parts.{IsUnbroken}
use Rattle.report_laws.proofs.OneFlaw.{IsWorded}

abbrev pub AreWorded : List Expected → Type 0
AreWorded [] = Unit {0}
AreWorded (e ∷ es) = IsWorded e × AreWorded es

worded-append : (es fs : List Expected) → AreWorded es → AreWorded fs → AreWorded (es ++ fs)
worded-append [] fs h k = k
worded-append (e ∷ es) fs h k = (h.0, worded-append es fs h.1 k)

worded_values : (word : List ℕ) (names : List (List ℕ)) → IsUnbroken word → AreWorded (values word names)
worded_values word [] h = tt
worded_values word (name ∷ names) h = (h, worded_values word names h)

worded_basics : (count : ℕ) → AreWorded (repeated basic count)
worded_basics zero = tt
worded_basics (suc count) = (tt, tt)

worded_columns : (least count : ℕ) → AreWorded (repeated (at least) count)
worded_columns least zero = tt
worded_columns least (suc count) = (tt, tt)

worded_entries : (count : ℕ) → AreWorded (repeated entry count)
worded_entries zero = tt
worded_entries (suc count) = (tt, tt)

worded_kind : (d : Deck) (line : List ℕ) (next : List Expected) → Follows d line next → AreWorded next
worded_kind d line next expected.optimal =
    worded-append (objective ∷ values (codes "VALUE") (column_names d)) (values (codes "PRICE") (row_names d))
    (tt, worded_values (codes "VALUE") (column_names d) refl) (worded_values (codes "PRICE") (row_names d) refl)
worded_kind d line next expected.infeasible = worded_values (codes "FARKAS") (row_names d) refl
worded_kind d line next expected.unbounded =
    worded-append (values (codes "VALUE") (column_names d)) (values (codes "RAY") (column_names d))
    (worded_values (codes "VALUE") (column_names d) refl) (worded_values (codes "RAY") (column_names d) refl)

worded_next : (d : Deck) (e : Expected) (line : List ℕ) (next : List Expected) → Meets d e line next → AreWorded next
worded_next d version line next (inl m) = subst AreWorded (sym m.1) (tt, (tt, (tt, tt)))
worded_next d version line next (inr m) = subst AreWorded (sym m.1) (tt, (tt, (tt, (tt, (tt, tt)))))
worded_next d title line next m = subst AreWorded (sym m.1) tt
worded_next d kind line next m = worded_kind d line next m
worded_next d objective line next m = subst AreWorded (sym m.3) tt
worded_next d (value word name) line next m = subst AreWorded (sym m.3) tt
worded_next d basis line next m = subst AreWorded (sym m.1) (worded_basics _)
worded_next d (basic more) line next m = subst AreWorded (sym m.3) (worded_basics more)
worded_next d upper line next m = subst AreWorded (sym m.3) (worded_columns 0 m.0)
worded_next d (at least more) line next m = subst AreWorded (sym m.4) (worded_columns _ more)
worded_next d log_or_end line next (inl m) = subst AreWorded (sym m.1) tt
worded_next d log_or_end line next (inr m) =
    subst AreWorded (sym m.2) (worded-append (repeated entry m.0) (end ∷ []) (worded_entries m.0) (tt, tt))
worded_next d (entry more) line next m = subst AreWorded (sym m.3) (worded_entries more)
worded_next d end line next m = subst AreWorded (sym m.1) tt

-- so are those behind a line as expected
pub worded_on : (d : Deck) (e : Expected) (others : List Expected) (line : List ℕ) (next : List Expected) → AreWorded (e ∷ others) → Meets d e line next
    → AreWorded (next ++ others)
worded_on d e others line next worded m = worded-append next others (worded_next d e line next m) worded.1
