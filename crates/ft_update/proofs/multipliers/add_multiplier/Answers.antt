-- The next multiplier is worked and kept, or 0.
use Rattle.std.proofs.Common.{ℕ, ◌+◌, ◌≤◌, ◌++◌, List, length, refl, sym, ap, subst, ◌∙◌}
use Rattle.rational.specs.Rational.{ℚ, zero_ℚ}
use Rattle.rational.specs.Worked.{settle}
use Rattle.factor_model.specs.Upper.{row_of}
use Rattle.factor_model.specs.Update.{multiplier}
use Rattle.factor_model.specs.Vectors.{stored_pair}
use Rattle.ft_update.proofs.Flagging.{multiplier-unmet}
use Rattle.ft_update.proofs.Steps.{stored-short}
use Rattle.ft_update.proofs.Stored.{stored-none}
use Rattle.ft_update.proofs.multipliers.add_multiplier.Goals as goal

pub returns-then-not-meets-clause-settled : goal.returns-then-not-meets-clause-settled
returns-then-not-meets-clause-settled g c =
    let wide = ((g.met.A.Arith g.world.𝓛 g.world.𝓜 g.world.𝓡 ((λ s x. x), (λ x. x), (λ x. x), λ x. x)).width_in_range c.args.arith.now).0 in
    let u = c.args.upper.now in
    let ks = c.args.taken.now.items in (
      zero_ℚ,
      multiplier-unmet _ u c.args.row c.args.s c.args.flags.now ks wide (sym c.meets.ensures ∙ c.if-not-meets.true) c.requires.row c.requires.flagged,
      sym (stored-none (row_of u c.args.s) zero_ℚ ks refl),
    )

pub returns-clause-settled : goal.returns-clause-settled
returns-clause-settled g c =
    let u = c.args.upper.now in
    let ks = c.args.taken.now.items in (
      c.in_ok-k.k,
      ap (λ (xs : List (ℕ × ℚ)). settle (g.A.Arith.width c.args.arith.now) (multiplier u c.args.row xs c.args.s)) (sym c.deref.ensures.value) ∙ c.in_ok-k.ensures.settled,
      c.keep.ensures.kept ∙ ap (λ (row : ℕ). ks ++ stored_pair row c.in_ok-k.k) c.row_of.ensures.value,
    )

pub returns-clause-fewer : goal.returns-clause-fewer
returns-clause-fewer g c =
    let ks = c.args.taken.now.items in
    subst (λ (xs : List (ℕ × ℚ)). length xs ≤ length ks + 1) (sym c.keep.ensures.kept) (stored-short c.row_of.result c.in_ok-k.k ks)
