use Rattle.std.proofs.Common.{ap, ap₂, refl, subst, sym, ◌∙◌, Option}
use Rattle.lp_model.specs.Deck.{Interval, IsUncrossed}
use Rattle.lp_model.specs.Edit.{with_bounds}
use Rattle.rational.specs.Rational.{ℚ}
use Rattle.deck_model.specs.End.{interval}
use Rattle.deck_model.specs.Parts.{column_of}
use Rattle.deck_model.proofs.Sound.{column_at, column_changed, deck_of-column_changed}
use Rattle.deck_model.proofs.deck.Deck.set_bounds.Goals as goal

pair : Option ℚ → Option ℚ → Interval
pair l u = record { lower = l; upper = u }

pub invariant_of-self : goal.invariant_of-self
invariant_of-self c =
    let v = c.index_mut-data.result.now in
    let old = column_at c.self.inside c.self.invariant c.args.column v c.index_mut-data.ensures.value in
    column_changed c.self.inside c.self.invariant c.args.column v (record v { lower = c.finite-data.result; upper = c.finite-data-2.result }) c.self.inside.nonzeros c.index_mut-data.ensures.value
    (record {
      long = old.long;
      sparse = old.sparse;
      uncrossed = subst IsUncrossed (sym (ap₂ (λ l u. record { lower = l; upper = u }) c.finite-data.ensures c.finite-data-2.ensures)) c.requires.uncrossed;
    })
    refl

pub returns : goal.returns
returns c =
    let v = c.index_mut-data.result.now in
    deck_of-column_changed c.self.inside (λ k. record k { bounds = interval c.args.lower c.args.upper }) c.args.column v (record v { lower = c.finite-data.result; upper = c.finite-data-2.result }) c.self.inside.nonzeros c.index_mut-data.ensures.value
    (λ name. ap₂ (λ l u. record (column_of (name, v)) { bounds = record { lower = l; upper = u } }) c.finite-data.ensures c.finite-data-2.ensures)
    ∙ ap (λ d. with_bounds d c.args.column (interval c.args.lower c.args.upper)) c.self.view_is
