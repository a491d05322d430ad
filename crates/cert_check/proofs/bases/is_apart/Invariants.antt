use Rattle.std.proofs.Common.{◌≡◌, drop, not}
use Rattle.std.specs.List.{list_all}
use Rattle.cert_check.specs.Inner.Groups.{is_marked}
use Rattle.cert_check.proofs.bases.is_apart.Given as goal

-- the numbers so far are not marked
abbrev pub invariant-loop-k : goal.invariant-loop-k
invariant-loop-k l = list_all (λ j. not (is_marked l.marks j)) (drop l.k l.list) ≡ list_all (λ j. not (is_marked l.marks j)) l.list
