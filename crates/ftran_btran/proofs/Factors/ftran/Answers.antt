use Rattle.std.proofs.Common.{◌≡◌, ◌≤◌, ◌+◌, ◌*◌, ℕ, List, None, sym, subst, ap, ◌∙◌, arith}
use Rattle.rational.specs.Rational.{ℚ}
use Rattle.rational.specs.Worked.{settle}
use Rattle.exact_frac.specs.Settles.{Leaves}
use Rattle.factor_model.specs.Eta.{apply, stored}
use Rattle.factor_model.specs.Factors.{Factors, ftran}
use Rattle.factor_model.specs.Vectors.{entry, vector}
use Rattle.ftran_btran.specs.Kept.{AreKept, size}
use Rattle.ftran_btran.proofs.Solves.{refused, ftran_leaves, ftran_leaves_form, ftran_leaves_spike, ftran_stops, ftran_means, work-back}
use Rattle.ftran_btran.proofs.Factors.ftran.Goals as goal

pub returns-clause-settled : goal.returns-clause-settled
returns-clause-settled g c =
    let w = g.A.Arith.width c.args.arith.now in
    let pairs = c.args.column.now.pairs in
    let f : Factors = record { etas = c.self.inside.etas; upper = c.self.inside.upper; updates = c.self.inside.updates; base = c.self.inside.base } in
    let is_column : vector (size f) (entry pairs) ≡ c.spread.new.v = ap (λ (n : ℕ). vector n (entry pairs)) (ap size c.self.view_is ∙ sym c.requires.spike) ∙ sym c.spread.ensures in
    let applied = ap (λ (a : List ℚ). settle w (apply a f.etas)) is_column ∙ c.in_ok-apply.ensures.settled in
    subst (λ (x : Factors). Leaves w (ftran x (vector (size x) (entry pairs))) c.solve_keeping.result (c.solve_keeping.new.v, c.solve_keeping.new.out)) c.self.view_is
    (ftran_leaves w _ f (vector (size f) (entry pairs)) c.apply.new.v c.apply.ensures.width applied c.solve_keeping.result c.solve_keeping.new.v c.solve_keeping.new.out
    c.solve_keeping.ensures.settled c.solve_keeping.ensures.kept)

pub returns-clause-spike : goal.returns-clause-spike
returns-clause-spike g c =
    let w = g.A.Arith.width c.args.arith.now in
    let pairs = c.args.column.now.pairs in
    let f : Factors = record { etas = c.self.inside.etas; upper = c.self.inside.upper; updates = c.self.inside.updates; base = c.self.inside.base } in
    let is_column : vector (size f) (entry pairs) ≡ c.spread.new.v = ap (λ (n : ℕ). vector n (entry pairs)) (ap size c.self.view_is ∙ sym c.requires.spike) ∙ sym c.spread.ensures in
    let applied = ap (λ (a : List ℚ). settle w (apply a f.etas)) is_column ∙ c.in_ok-apply.ensures.settled in
    ftran_leaves_spike w c.args.self.now (vector (size c.args.self.now) (entry pairs)) c.solve_keeping.result (c.solve_keeping.new.v, c.solve_keeping.new.out)
    (subst (λ (x : Factors). Leaves w (ftran x (vector (size x) (entry pairs))) c.solve_keeping.result (c.solve_keeping.new.v, c.solve_keeping.new.out)) c.self.view_is
    (ftran_leaves w _ f (vector (size f) (entry pairs)) c.apply.new.v c.apply.ensures.width applied c.solve_keeping.result c.solve_keeping.new.v c.solve_keeping.new.out
    c.solve_keeping.ensures.settled c.solve_keeping.ensures.kept))

pub returns-clause-form : goal.returns-clause-form
returns-clause-form g c =
    let w = g.A.Arith.width c.args.arith.now in
    let pairs = c.args.column.now.pairs in
    let f : Factors = record { etas = c.self.inside.etas; upper = c.self.inside.upper; updates = c.self.inside.updates; base = c.self.inside.base } in
    let is_column : vector (size f) (entry pairs) ≡ c.spread.new.v = ap (λ (n : ℕ). vector n (entry pairs)) (ap size c.self.view_is ∙ sym c.requires.spike) ∙ sym c.spread.ensures in
    let applied = ap (λ (a : List ℚ). settle w (apply a f.etas)) is_column ∙ c.in_ok-apply.ensures.settled in
    ftran_leaves_form w c.args.self.now (subst AreKept c.self.view_is c.self.invariant) pairs c.solve_keeping.result (c.solve_keeping.new.v, c.solve_keeping.new.out)
    (subst (λ (x : Factors). Leaves w (ftran x (vector (size x) (entry pairs))) c.solve_keeping.result (c.solve_keeping.new.v, c.solve_keeping.new.out)) c.self.view_is
    (ftran_leaves w _ f (vector (size f) (entry pairs)) c.apply.new.v c.apply.ensures.width applied c.solve_keeping.result c.solve_keeping.new.v c.solve_keeping.new.out
    c.solve_keeping.ensures.settled c.solve_keeping.ensures.kept))

pub returns-clause-solves : goal.returns-clause-solves
returns-clause-solves g c b factors =
    let w = g.A.Arith.width c.args.arith.now in
    let pairs = c.args.column.now.pairs in
    let f : Factors = record { etas = c.self.inside.etas; upper = c.self.inside.upper; updates = c.self.inside.updates; base = c.self.inside.base } in
    let is_column : vector (size f) (entry pairs) ≡ c.spread.new.v = ap (λ (n : ℕ). vector n (entry pairs)) (ap size c.self.view_is ∙ sym c.requires.spike) ∙ sym c.spread.ensures in
    let applied = ap (λ (a : List ℚ). settle w (apply a f.etas)) is_column ∙ c.in_ok-apply.ensures.settled in
    ftran_means w (size c.args.self.now) c.args.self.now pairs c.solve_keeping.result (c.solve_keeping.new.v, c.solve_keeping.new.out)
    (subst (λ (x : Factors). Leaves w (ftran x (vector (size x) (entry pairs))) c.solve_keeping.result (c.solve_keeping.new.v, c.solve_keeping.new.out)) c.self.view_is
    (ftran_leaves w _ f (vector (size f) (entry pairs)) c.apply.new.v c.apply.ensures.width applied c.solve_keeping.result c.solve_keeping.new.v c.solve_keeping.new.out
    c.solve_keeping.ensures.settled c.solve_keeping.ensures.kept))
    b factors

pub returns-clause-work : goal.returns-clause-work
returns-clause-work g c =
    let f : Factors = record { etas = c.self.inside.etas; upper = c.self.inside.upper; updates = c.self.inside.updates; base = c.self.inside.base } in
    let bound : g.A.Arith.work_count c.solve_keeping.new.arith ≤ g.A.Arith.work_count c.args.arith.now + (stored f.etas + (size f * size f + size f)) =
    omega (arith, work-back (size f) f.upper c.self.invariant.upper, c.in_ok-apply.ensures.work, c.solve_keeping.ensures.work) in
    subst (λ (x : Factors). g.A.Arith.work_count c.solve_keeping.new.arith ≤ g.A.Arith.work_count c.args.arith.now + (stored x.etas + (size x * size x + size x))) c.self.view_is bound

pub returns-in_err-apply-clause-settled : goal.returns-in_err-apply-clause-settled
returns-in_err-apply-clause-settled g c =
    let w = g.A.Arith.width c.args.arith.now in
    let pairs = c.args.column.now.pairs in
    let f : Factors = record { etas = c.self.inside.etas; upper = c.self.inside.upper; updates = c.self.inside.updates; base = c.self.inside.base } in
    let is_column : vector (size f) (entry pairs) ≡ c.spread.new.v = ap (λ (n : ℕ). vector n (entry pairs)) (ap size c.self.view_is ∙ sym c.requires.spike) ∙ sym c.spread.ensures in
    refused _ _ _ _
    (subst (λ (x : Factors). settle w (ftran x (vector (size x) (entry pairs))) ≡ None) c.self.view_is
    (ftran_stops w f (vector (size f) (entry pairs)) (ap (λ (a : List ℚ). settle w (apply a f.etas)) is_column ∙ c.in_err-apply.ensures.settled))) c.from_residual.ensures.1
