use Rattle.std.proofs.Common.{◌≡◌, length}
use Rattle.std.specs.List.{list_all}
use Rattle.lp_model.specs.Deck.{column}
use Rattle.rational.specs.Sum.{at}
use Rattle.rational.specs.Worked.{is_skipped}
use Rattle.cert_check.specs.Sums.{cost_terms}
use Rattle.cert_check.proofs.Adding.{left_terms}
use Rattle.cert_check.proofs.sums.has_no_cost.Given as goal

-- the products so far are skipped
abbrev pub invariant-loop-j : goal.invariant-loop-j
invariant-loop-j l =
    list_all (λ term. is_skipped term.0 term.1) (left_terms (λ j. ((column l.deck j).cost, at l.x j)) (length l.deck.columns) l.j)
    ≡ list_all (λ term. is_skipped term.0 term.1) (cost_terms l.deck l.x)
