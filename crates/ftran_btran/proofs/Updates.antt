-- What an update leaves of what factors keep.
use Rattle.std.proofs.Common.{◌≡◌, ℕ, ◌+◌, ◌*◌, ◌-◌, ◌<◌, ◌≤◌, List, [], ◌∷◌, ◌++◌, length, Option, Some, None, refl, sym, ◌∙◌, ap, subst, arith}
use Rattle.std.proofs.lemmas.List.Elements.{All-push}
use Rattle.rational.specs.Rational.{ℚ}
use Rattle.rational.specs.Worked.{Worked, done, bind, settle}
use Rattle.rational.proofs.Settling.{settle-done, settle-bind, settle-bind_none, settle-answer}
use Rattle.factor_model.specs.declared.Op.{Op}
use Rattle.factor_model.specs.Eta.{IsOp, AreOps, stored}
use Rattle.factor_model.specs.Upper.{Triangle, IsUpper}
use Rattle.factor_model.specs.Update.{HasPivot, RowEta, update, row_operation, updated_upper, updated_parts}
use Rattle.factor_model.specs.Factors.{Factors, most_updates, updated, with_update}
use Rattle.factor_model.proofs.UpdateLaws.{operation-within, pivot-nonzero, updated-upper}
use Rattle.ft_update.specs.declared.fault.UpdateFault.{UpdateFault}
use Rattle.ft_update.specs.declared.fault.UpdateFault.TheVariants.{Memory, Unfit}
use Rattle.ft_update.specs.Fault.{IsCause}
use Rattle.ftran_btran.specs.Kept.{AreKept, size}

-- the first part of what settles settles
unbound : {A B : Type 0} (w : ℕ) (c : Worked A) (f : A → Worked B) (b : B) → settle w (bind c f) ≡ Some b → (a : A) × (settle w c ≡ Some a) × (settle w (f a) ≡ Some b)
unbound {A} {B} w c f b settled = by_answer (settle w c) refl
  where
    by_answer : (o : Option A) → settle w c ≡ o → (a : A) × (settle w c ≡ Some a) × (settle w (f a) ≡ Some b)
    by_answer None e = let none : settle w (bind c f) ≡ None = settle-bind_none w c f e in absurd cc
    by_answer (Some a) e = (a, e, sym (settle-bind w c f a e) ∙ settled)

some : {A : Type 0} (a b : A) → Some a ≡ Some b → a ≡ b
some a b e = cc

module _ (w : ℕ) (f : Factors) (p : ℕ) (spike : List ℚ) where
  pub update_stops : settle w (updated_parts f.etas f.upper p spike) ≡ None → settle w (updated f p spike) ≡ None
  update_stops none = by_answer (settle w (update f.upper p spike)) refl
    where
      by_answer : (o : Option RowEta) → settle w (update f.upper p spike) ≡ o → settle w (updated f p spike) ≡ None
      by_answer None e = settle-bind_none w (update f.upper p spike) (λ x. done (with_update f p spike x)) e
      by_answer (Some a) e =
          let parts : settle w (updated_parts f.etas f.upper p spike) ≡ Some (f.etas ++ row_operation f.upper p a ∷ [], updated_upper f.upper p spike a) =
          settle-bind w (update f.upper p spike) (λ x. done (f.etas ++ row_operation f.upper p x ∷ [], updated_upper f.upper p spike x)) a e
          ∙ settle-done w (f.etas ++ row_operation f.upper p a ∷ [], updated_upper f.upper p spike a) in
          absurd cc

  pub update_fault : (fault : UpdateFault) → IsCause w (updated_parts f.etas f.upper p spike) fault → IsCause w (updated f p spike) fault
  update_fault Memory cause = tt
  update_fault Unfit cause = update_stops cause

  module _ (ops : List Op) (u : Triangle) (settled : settle w (updated_parts f.etas f.upper p spike) ≡ Some (ops, u)) where
    given : List Op × Triangle
    given = (ops, u)

    parts_of : RowEta → List Op × Triangle
    parts_of e = (f.etas ++ row_operation f.upper p e ∷ [], updated_upper f.upper p spike e)

    found : (e : RowEta) × (settle w (update f.upper p spike) ≡ Some e) × (parts_of e ≡ given)
    unfolding given parts_of
    found =
        let there = unbound w (update f.upper p spike) (λ x. done (f.etas ++ row_operation f.upper p x ∷ [], updated_upper f.upper p spike x)) (ops, u) settled in (
          there.0,
          there.1,
          some (f.etas ++ row_operation f.upper p there.0 ∷ [], updated_upper f.upper p spike there.0) (ops, u)
              (sym (settle-done w (f.etas ++ row_operation f.upper p there.0 ∷ [], updated_upper f.upper p spike there.0)) ∙ there.2),
        )

    pub update_settles : settle w (updated f p spike) ≡ Some (record { etas = ops; upper = u; updates = f.updates + 1; base = f.base })
    unfolding given parts_of
    update_settles =
        let there = found in
        settle-bind w (update f.upper p spike) (λ x. done (with_update f p spike x)) there.0 there.1
        ∙ settle-done w (with_update f p spike there.0)
        ∙ ap (λ (parts : List Op × Triangle). Some (record { etas = parts.0; upper = parts.1; updates = f.updates + 1; base = f.base })) there.2

    pub same_rows : u.rows ≡ f.upper.rows
    unfolding given parts_of
    same_rows = let there = found in ap (λ (parts : List Op × Triangle). parts.1.rows) (sym there.2)

    pub update_keeps : AreKept f → f.updates < most_updates → p < size f → length spike ≡ size f → HasPivot f.upper p spike → stored ops < stored f.etas + size f
        → AreKept (record { etas = ops; upper = u; updates = f.updates + 1; base = f.base })
    unfolding given parts_of
    update_keeps kept lt p_lt len has entries =
        let there = found in
        let answer : (update f.upper p spike).answer ≡ there.0 = settle-answer w (update f.upper p spike) there.0 there.1 in
        let nonzero = pivot-nonzero f.upper kept.upper p p_lt spike len has.0 has.1 has.2 in
        let upper : IsUpper (size f) (updated_upper f.upper p spike there.0) =
        subst (λ (e : RowEta). IsUpper (size f) (updated_upper f.upper p spike e)) answer (updated-upper f.upper kept.upper p p_lt spike len nonzero) in
        let op : IsOp (size f) (row_operation f.upper p there.0) = subst (λ (e : RowEta). IsOp (size f) (row_operation f.upper p e)) answer (operation-within f.upper kept.upper p p_lt spike len) in
        let rows : size f ≡ length u.rows = ap length (sym same_rows) in
        record {
          upper = subst (λ (n : ℕ). IsUpper n u) rows (subst (IsUpper (size f)) (ap (λ (parts : List Op × Triangle). parts.1) there.2) upper);
          within = subst (λ (n : ℕ). AreOps n ops) rows
              (subst (AreOps (size f)) (ap (λ (parts : List Op × Triangle). parts.0) there.2) (All-push (IsOp (size f)) f.etas (row_operation f.upper p there.0) kept.within op));
          few_updates = omega (arith, lt);
          few = subst (λ (n : ℕ). 2 * stored ops ≤ (n - 1) * (n + 2 * (f.updates + 1))) rows (more_few (size f) (stored f.etas) (stored ops) f.updates kept.few entries);
        }
      where
        more_few : (n before after k : ℕ) → 2 * before ≤ (n - 1) * (n + 2 * k) → after < before + n → 2 * after ≤ (n - 1) * (n + 2 * (k + 1))
        more_few n before after k few entries =
            let step : (n - 1) * (n + 2 * (k + 1)) ≡ (n - 1) * (n + 2 * k) + (n - 1) * 2 = times (n - 1) (n + 2 * k) (n + 2 * (k + 1)) (omega arith) in
            omega (arith, few, entries, step)
          where
            times : (a b c : ℕ) → c ≡ b + 2 → a * c ≡ a * b + a * 2
            times a b c e = ap (λ z. a * z) e ∙ omega arith
