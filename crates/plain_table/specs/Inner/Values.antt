-- What is listed where the basic values move with the entering column, and what they become.
use Rattle.std.specs.Prelude.{◌≡◌, ℕ, ◌<◌, List, length, Some, None, Bool, ◌==◌, if◌then◌else◌}
use Rattle.std.specs.List.{flat_map}
use Rattle.lp_model.specs.declared.Kind.TheVariants as kind
use Rattle.rational.specs.Rational.{ℚ, ◌+ℚ◌, ◌-ℚ◌}
use Rattle.rational.specs.Sparse.{upto}
use Rattle.rational.specs.Sum.{at}
use Rattle.rational.specs.Worked.{Worked, less, more, placed, work}
use Rattle.lp_run.specs.Listing.{Listed, place}

-- the value of a column that falls by the ratio, or else rises by it
abbrev pub entered_by : Bool → ℚ → ℚ → ℚ
entered_by down rest ratio = if down then rest -ℚ ratio else rest +ℚ ratio

-- a basic value, with its element in the entering column, which falls or rises by the ratio
abbrev pub moved : Bool → ℚ → ℚ → ℚ → Worked ℚ
moved down value element ratio = if down then more value element ratio else less value element ratio

-- the value in a position after the step: that of the entering column in its own position, else the moved one
abbrev pub value_work : Bool → Bool → ℚ → ℚ → ℚ → ℚ → Worked ℚ
value_work own down rest value element ratio = if own then work (entered_by down rest ratio) else moved down value element ratio

abbrev pub values_listing : ℕ → ℕ → Bool → ℚ → ℚ → List ℚ → List ℚ → List Listed
values_listing k p down rest ratio values column =
    flat_map (λ i. placed (place k kind.Value (Some i) None) (value_work (i == p) down rest (at values i) (at column i) ratio)) (upto (length values))

abbrev pub AreMoved : ℕ → Bool → ℚ → ℚ → List ℚ → List ℚ → List ℚ → Type 0
AreMoved p down rest ratio values column out =
    (i : ℕ) → i < length values → at out i ≡ (value_work (i == p) down rest (at values i) (at column i) ratio).answer
