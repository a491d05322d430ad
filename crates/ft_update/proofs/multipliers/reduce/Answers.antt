-- The multipliers, and then the new diagonal.
use Rattle.std.proofs.Common.{ℕ, ◌<◌, List, length, get_or, sym, subst, ap, ◌∙◌, arith}
use Rattle.rational.specs.Rational.{ℚ}
use Rattle.rational.specs.Sum.{at}
use Rattle.factor_model.specs.Update.{AreApart, RowEta}
use Rattle.sparse_steps.proofs.Steps.{item_read, refused}
use Rattle.ft_update.proofs.Reduced.{taken-apart_at, reduced, not_reduced}
use Rattle.ft_update.proofs.Stored.{apart-below}
use Rattle.ft_update.proofs.multipliers.reduce.Goals as goal

pub less_items-requires-after_bounds : goal.less_items-requires-after_bounds
less_items-requires-after_bounds g c κs within k d lt =
    let u = c.args.upper.now in
    let w = g.A.Arith.width c.args.arith.now in
    let ks = c.multipliers.new.taken.items in
    let apart : AreApart (length u.rows) ks = taken-apart_at w u c.requires.upper c.args.p c.requires.position c.args.spike.now c.requires.length ks c.in_ok-multipliers.ensures.settled in
    let e = c.deref.ensures.value in
    subst (λ (m : ℕ). (get_or c.deref.result.now k d).0 < m) (sym c.requires.length)
    (subst (λ (xs : List (ℕ × ℚ)). (get_or xs k d).0 < length u.rows) (sym e) (apart-below (length u.rows) ks apart k d (subst (λ (xs : List (ℕ × ℚ)). k < length xs) e lt)))

pub returns-clause-settled : goal.returns-clause-settled
returns-clause-settled g c =
    let u = c.args.upper.now in
    let row = c.row_of-row.result in
    let spike = c.args.spike.now in
    let item = item_read spike row c.index-spike-row.result (omega (arith, c.row_of-row.ensures.within, c.requires.length)) c.index-spike-row.is ∙ ap (at spike) c.row_of-row.ensures.value in
    reduced _ _ u c.args.p spike c.multipliers.new.taken.items c.deref.result.now c.index-spike-row.result item c.multipliers.ensures.width
    c.deref.ensures.value c.in_ok-multipliers.ensures.settled c.less_items.result c.less_items.ensures.settled

pub returns-in_err-multipliers-clause-settled : goal.returns-in_err-multipliers-clause-settled
returns-in_err-multipliers-clause-settled g c =
    refused {A = RowEta} _ _ _ (λ d. record { taken = c.multipliers.new.taken.items; pivot = d }) (not_reduced _ c.args.upper.now c.args.p c.args.spike.now c.in_err-multipliers.ensures.settled) c.from_residual.ensures.1
