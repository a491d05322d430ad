use Rattle.std.proofs.Common.{◌≡◌, drop}
use Rattle.std.specs.List.{list_all}
use Rattle.lp_model.specs.Deck.{column}
use Rattle.rational.specs.Worked.{is_skipped}
use Rattle.cert_check.specs.Sums.{entry_terms}
use Rattle.cert_check.proofs.sums.is_unpriced.Given as goal

-- the products so far are skipped
abbrev pub invariant-loop-k : goal.invariant-loop-k
invariant-loop-k l =
    list_all (λ term. is_skipped term.0 term.1) (entry_terms l.y (drop l.k l.entries.pairs))
    ≡ list_all (λ term. is_skipped term.0 term.1) (entry_terms l.y (column l.deck l.column).entries)
