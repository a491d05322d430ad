use Rattle.std.proofs.Common.{◌≡◌, ◌<◌, ℕ, length, sym, subst, ap, ◌∙◌}
use Rattle.std.proofs.lemmas.Result.{err_from_is_err_and}
use Rattle.rational.specs.Rational.{ℚ}
use Rattle.rational.specs.Worked.{settle}
use Rattle.factor_model.specs.Eta.{apply}
use Rattle.factor_model.specs.Factors.{Factors, AreFactors, most_updates, updated}
use Rattle.factor_model.specs.Represents.{Represents}
use Rattle.factor_model.specs.Update.{HasPivot, with_column}
use Rattle.factor_model.specs.Vectors.{vector}
use Rattle.ft_update.specs.Fault.{IsCause}
use Rattle.ftran_btran.specs.Kept.{size}
use Rattle.ftran_btran.proofs.Updates.{same_rows, update_settles, update_keeps, update_fault}
use Rattle.ftran_btran.proofs.Factors.update.Goals as goal

pub invariant_of-self-2 : goal.invariant_of-self-2
invariant_of-self-2 g c =
    let f : Factors = record { etas = c.self.inside.etas; upper = c.self.inside.upper; updates = c.self.inside.updates; base = c.self.inside.base } in
    let p = c.args.p in
    let spike = c.args.spike.now in
    let asked : (f.updates < most_updates) × (p < size f) × (length spike ≡ size f) × HasPivot f.upper p spike =
    subst (λ (x : Factors). (x.updates < most_updates) × (p < size x) × (length spike ≡ size x) × HasPivot x.upper p spike) (sym c.self.view_is)
    (c.requires.updates, c.requires.position, c.requires.length, c.requires.pivot) in
    update_keeps (g.A.Arith.width c.args.arith.now) f p spike c.update.new.etas c.update.new.upper c.in_ok-update.ensures.settled c.self.invariant asked.0 asked.1 asked.2 asked.3 c.in_ok-update.ensures.entries

pub returns-clause-settled : goal.returns-clause-settled
returns-clause-settled g c =
    let w = g.A.Arith.width c.args.arith.now in
    let f : Factors = record { etas = c.self.inside.etas; upper = c.self.inside.upper; updates = c.self.inside.updates; base = c.self.inside.base } in
    ap (λ (x : Factors). settle w (updated x c.args.p c.args.spike.now)) (sym c.self.view_is)
    ∙ update_settles w f c.args.p c.args.spike.now c.update.new.etas c.update.new.upper c.in_ok-update.ensures.settled

pub returns-clause-represents : goal.returns-clause-represents
returns-clause-represents g c =
    subst (λ (x : Factors). (b : ℕ → ℕ → ℚ) → (a : ℕ → ℚ) → AreFactors (size x) x b → c.args.spike.now ≡ (apply (vector (size x) a) x.etas).answer
    → Represents (size x) c.update.new.etas c.update.new.upper (with_column b c.args.p a))
    c.self.view_is c.in_ok-update.ensures.represents

pub returns-in_err-update-clause-fault : goal.returns-in_err-update-clause-fault
returns-in_err-update-clause-fault g c =
    let w = g.A.Arith.width c.args.arith.now in
    let f : Factors = record { etas = c.self.inside.etas; upper = c.self.inside.upper; updates = c.self.inside.updates; base = c.self.inside.base } in
    let q = err_from_is_err_and c.from_residual.result c.from_residual.ensures.1 in
    rw (q.1, q.2)
    (subst (λ (x : Factors). IsCause w (updated x c.args.p c.args.spike.now) c.in_err-update.field-0.0) c.self.view_is
    (update_fault w f c.args.p c.args.spike.now c.in_err-update.field-0.0 c.in_err-update.ensures.fault))

pub returns-clause-size : goal.returns-clause-size
returns-clause-size g c =
    let f : Factors = record { etas = c.self.inside.etas; upper = c.self.inside.upper; updates = c.self.inside.updates; base = c.self.inside.base } in
    ap length (same_rows (g.A.Arith.width c.args.arith.now) f c.args.p c.args.spike.now c.update.new.etas c.update.new.upper c.in_ok-update.ensures.settled) ∙ ap size c.self.view_is
