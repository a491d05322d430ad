use Rattle.std.proofs.Common.{◌≡◌, ◌≤◌, ◌+◌, ◌*◌, List, None, subst, arith}
use Rattle.rational.specs.Rational.{ℚ}
use Rattle.rational.specs.Worked.{settle}
use Rattle.exact_frac.specs.Settles.{Leaves}
use Rattle.factor_model.specs.Eta.{apply_back, stored}
use Rattle.factor_model.specs.Factors.{Factors, btran}
use Rattle.ftran_btran.specs.Kept.{size}
use Rattle.ftran_btran.proofs.Solves.{refused, btran_leaves, btran_stops, btran_means, work-on}
use Rattle.ftran_btran.proofs.Factors.btran.Goals as goal

pub returns-clause-settled : goal.returns-clause-settled
returns-clause-settled g c =
    let w = g.A.Arith.width c.args.arith.now in
    let f : Factors = record { etas = c.self.inside.etas; upper = c.self.inside.upper; updates = c.self.inside.updates; base = c.self.inside.base } in
    let k = g.A.Arith.width c.solve_back.new.arith in
    let settled = subst (λ (z : List ℚ). Leaves k (apply_back z f.etas) c.apply_back.result c.apply_back.new.v) c.copy.ensures c.apply_back.ensures.settled in
    subst (λ (x : Factors). Leaves w (btran x c.args.c.now) c.apply_back.result c.apply_back.new.v) c.self.view_is
    (btran_leaves w k f c.args.c.now c.solve_back.new.out c.solve_back.ensures.width c.in_ok-solve_back.ensures.settled c.apply_back.result c.apply_back.new.v settled)

pub returns-clause-solves : goal.returns-clause-solves
returns-clause-solves g c b factors =
    let w = g.A.Arith.width c.args.arith.now in
    let f : Factors = record { etas = c.self.inside.etas; upper = c.self.inside.upper; updates = c.self.inside.updates; base = c.self.inside.base } in
    let k = g.A.Arith.width c.solve_back.new.arith in
    let settled = subst (λ (z : List ℚ). Leaves k (apply_back z f.etas) c.apply_back.result c.apply_back.new.v) c.copy.ensures c.apply_back.ensures.settled in
    btran_means w (size c.args.self.now) c.args.self.now c.args.c.now c.apply_back.result c.apply_back.new.v
    (subst (λ (x : Factors). Leaves w (btran x c.args.c.now) c.apply_back.result c.apply_back.new.v) c.self.view_is
    (btran_leaves w k f c.args.c.now c.solve_back.new.out c.solve_back.ensures.width c.in_ok-solve_back.ensures.settled c.apply_back.result c.apply_back.new.v settled))
    b factors

pub returns-clause-work : goal.returns-clause-work
returns-clause-work g c =
    let f : Factors = record { etas = c.self.inside.etas; upper = c.self.inside.upper; updates = c.self.inside.updates; base = c.self.inside.base } in
    let bound : g.A.Arith.work_count c.apply_back.new.arith ≤ g.A.Arith.work_count c.args.arith.now + (stored f.etas + (size f * size f + size f)) =
    omega (arith, work-on (size f) f.upper c.self.invariant.upper, c.in_ok-solve_back.ensures.work, c.apply_back.ensures.work) in
    subst (λ (x : Factors). g.A.Arith.work_count c.apply_back.new.arith ≤ g.A.Arith.work_count c.args.arith.now + (stored x.etas + (size x * size x + size x))) c.self.view_is bound

pub returns-in_err-solve_back-clause-settled : goal.returns-in_err-solve_back-clause-settled
returns-in_err-solve_back-clause-settled g c =
    let w = g.A.Arith.width c.args.arith.now in
    let f : Factors = record { etas = c.self.inside.etas; upper = c.self.inside.upper; updates = c.self.inside.updates; base = c.self.inside.base } in
    refused _ _ _ _
    (subst (λ (x : Factors). settle w (btran x c.args.c.now) ≡ None) c.self.view_is (btran_stops w f c.args.c.now c.in_err-solve_back.ensures.settled)) c.from_residual.ensures.1

pub returns-in_err-solve_back-clause-work : goal.returns-in_err-solve_back-clause-work
returns-in_err-solve_back-clause-work g c =
    let f : Factors = record { etas = c.self.inside.etas; upper = c.self.inside.upper; updates = c.self.inside.updates; base = c.self.inside.base } in
    let bound : g.A.Arith.work_count c.solve_back.new.arith ≤ g.A.Arith.work_count c.args.arith.now + (stored f.etas + (size f * size f + size f)) =
    omega (arith, work-on (size f) f.upper c.self.invariant.upper, c.in_err-solve_back.ensures.work) in
    subst (λ (x : Factors). g.A.Arith.work_count c.solve_back.new.arith ≤ g.A.Arith.work_count c.args.arith.now + (stored x.etas + (size x * size x + size x))) c.self.view_is bound
