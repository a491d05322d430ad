use Rattle.std.proofs.Common.{◌∙◌, ap₂, sym}
use Rattle.mps_model.specs.DeckOf.{are_crossed}
use Rattle.rational.proofs.OrderLaws.{is_lt-cmp_ℚ}
use Rattle.mps_reader.proofs.bounds.Ends.are_crossed.Goals as goal

pub returns-in-Some-Some : goal.returns-in-Some-Some
returns-in-Some-Some c =
    c.lt.ensures ∙ is_lt-cmp_ℚ c.in-Some-Some.upper c.in-Some-Some.lower
    ∙ sym (ap₂ are_crossed c.in-Some-Some.is-0 c.in-Some-Some.is-1)
