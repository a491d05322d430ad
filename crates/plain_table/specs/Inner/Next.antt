-- What the parts of the search for what comes next answer.
use Rattle.std.specs.Prelude.{◌≢◌, ℕ, List}
use Rattle.lp_model.specs.declared.Entry.TheVariants.{Flip, Swap}
use Rattle.rational.specs.Rational.{ℚ, zero_ℚ}
use Rattle.rational.specs.Sum.{at}
use Rattle.lp_run.specs.Instance.{Instance}
use Rattle.lp_run.specs.Listing.{Listed, ratio_listing}
use Rattle.lp_run.specs.State.{State, basic}
use Rattle.lp_run.specs.Step.{IsArtificial, direction}
use Rattle.bland_ratio.specs.Leave.{Decides}
use Rattle.bland_ratio.specs.declared.ratio_test.Leave.{Leave}
use Rattle.bland_ratio.specs.declared.ratio_test.Leave.TheVariants as leave
use Rattle.plain_table.specs.Plain.{Plain}
use Rattle.plain_table.specs.Next.{column}
use Rattle.plain_table.specs.declared.next.End.TheVariants as end
use Rattle.plain_table.specs.declared.next.Next.{Next}
use Rattle.plain_table.specs.declared.next.Next.TheVariants as next

-- an artificial stands in position p at another value than 0
abbrev pub StandsOff : Instance → State → List ℚ → ℕ → Type 0
StandsOff inst s β p = IsArtificial inst (basic s p) × (at β p ≢ zero_ℚ)

-- the limit that decides the step of column q, which goes in the direction of its reduced cost
abbrev pub DecidesAt : Instance → Plain → ℕ → Leave → Type 0
DecidesAt inst t q = Decides inst t.state q (direction (at t.costs q)) t.values (column inst t q)

-- what the ratio test of column q lists, which goes in the direction of its reduced cost
abbrev pub tested_at : Instance → Plain → ℕ → List Listed
tested_at inst t q = ratio_listing inst t.number t.state q (direction (at t.costs q)) t.values (column inst t q)

-- what comes next where that limit decides the step of column q
abbrev pub next_by : ℕ → Leave → Next
next_by q (leave.Flip r) = next.Entry (Flip q)
next_by q (leave.Out p end r) = next.Entry (Swap q p end)
next_by q leave.Free = next.End (end.Unbounded q)
