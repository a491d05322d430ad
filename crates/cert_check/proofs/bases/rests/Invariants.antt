use Rattle.std.proofs.Common.{◌≡◌, ℕ, length}
use Rattle.cert_check.specs.Inner.Groups.{rest_by}
use Rattle.cert_check.specs.Walk.{each, first_stop}
use Rattle.cert_check.specs.declared.verdict.Rule.TheVariants as rule
use Rattle.cert_check.proofs.Walking.{item_by, left_items}
use Rattle.cert_check.proofs.bases.rests.Given as goal

-- what is left decides
abbrev pub invariant-loop-j : goal.invariant-loop-j
invariant-loop-j l =
    (w : ℕ) → first_stop w (left_items (item_by rule.Rest (rest_by l.deck l.basic l.upper l.x)) l.j (length l.deck.columns)) ≡ first_stop w
    (each rule.Rest (rest_by l.deck l.basic l.upper l.x) (length l.deck.columns))
