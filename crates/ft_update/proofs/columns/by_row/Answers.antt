use Rattle.std.proofs.Common.{ℕ, List, length, sym, subst, ap, ◌∙◌, Result, Ok, Err}
use Rattle.std.proofs.lemmas.List.{length-replicate}
use Rattle.std.specs.Result.{IfOk}
use Rattle.rational.specs.Rational.{ℚ, zero_ℚ}
use Rattle.factor_model.specs.Vectors.{sparse}
use Rattle.factor_model.specs.Update.{AreApart}
use Rattle.ft_update.specs.Inner.Rows.{placed}
use Rattle.ft_update.proofs.Stored.{placed-zeros}
use Rattle.ft_update.proofs.columns.by_row.Goals as goal

pub place-requires : goal.place-requires
place-requires c =
    record { apart = subst (λ (n : ℕ). AreApart n c.args.taken.now) (sym (ap length c.in_ok-v.ensures ∙ length-replicate c.args.len zero_ℚ)) c.requires }

pub returns : goal.returns
returns c =
    let is = c.deref.ensures.value ∙ c.place.ensures ∙ ap (λ (v : List ℚ). placed v c.args.taken.now) c.in_ok-v.ensures ∙ placed-zeros c.args.len c.args.taken.now c.requires in
    if_ok c.sparse.result (λ column e. e ∙ ap sparse is) c.sparse.ensures
  where
    if_ok : {A E : Type 0} {P Q : A → Type 0} (r : Result A E) → ((a : A) → P a → Q a) → IfOk r P → IfOk r Q
    if_ok (Ok a) f h = f a h
    if_ok (Err e) f h = tt
