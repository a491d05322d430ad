-- Pivot after pivot, and what is left at the end.
use Rattle.std.proofs.Common.{◌≡◌, ℕ, ◌-◌, ◌*◌, ◌≤◌, Some, length, sym, ap, subst, ◌∙◌, refl, arith}
use Rattle.rational.specs.Worked.{settle}
use Rattle.factor_model.specs.Eta.{stored}
use Rattle.factor_model.specs.Represents.{Represents}
use Rattle.factor_model.specs.Factoring.{factored, factored_by, pivoted, whole}
use Rattle.cross_links.specs.Matrix.{IsLink, IsLeast, row_of, col_of}
use Rattle.markowitz_lu.specs.Columns.{matrix_of}
use Rattle.markowitz_lu.specs.Fault.{IsCause, IsDependent}
use Rattle.markowitz_lu.specs.Inner.Stops.{Stops}
use Rattle.markowitz_lu.proofs.Runs.{under_way, under_way-rows, rows_and_etas, further, further-rows, spent, one_less, gone_wrong, whole-represents, whole-operations, whole-few}
use Rattle.markowitz_lu.proofs.Outcomes.{ok_map, err_map, err_handed, dependent_by, whole_by, cause_by}
use Rattle.markowitz_lu.proofs.factor.Goals as goal

pub pivots-init : goal.pivots-init
pivots-init g c =
    let m = c.args.m in
    let m0 = matrix_of c.args.columns.now in
    let w = g.A.Arith.width c.args.arith.now in
    record {
      way = (under_way m m0 w c.in_ok-stage.stage c.in_ok-stage.ensures, omega (arith, ap (λ (k : ℕ). k * (m * m)) (under_way-rows m m0 w c.in_ok-stage.stage c.in_ok-stage.ensures)));
      index = c.in_ok-buffers.ensures;
      width = refl;
      unfit = refl;
    }

pub pivot-requires-clause-small : goal.pivot-requires-clause-small
pivot-requires-clause-small g c _ _ = c.requires.small

pub pivot-requires-clause-link : goal.pivot-requires-clause-link
pivot-requires-clause-link g c _ _ = c.in-Some.ensures.least.is_link

pub pivot-requires-clause-kept : goal.pivot-requires-clause-kept
pivot-requires-clause-kept g c _ _ =
    let u = c.pivots.invariant.way.0 in
    (matrix_of c.args.columns.now, u.now, u.reached, u.kept)

pub pivot-requires-clause-index : goal.pivot-requires-clause-index
pivot-requires-clause-index g c _ _ = c.pivots.invariant.index

pub pivots-smaller : goal.pivots-smaller
pivots-smaller g c =
    let m = c.args.m in
    let m0 = matrix_of c.args.columns.now in
    let w = g.A.Arith.width c.args.arith.now in
    let u = c.pivots.invariant.way.0 in
    let best : IsLeast c.pivots.stage.cross c.in-Some.link = c.in-Some.ensures.least in
    let settled = ap (λ (k : ℕ). settle k (pivoted m u.now (row_of c.pivots.stage.cross c.in-Some.link, col_of c.pivots.stage.cross c.in-Some.link))) (sym c.pivots.invariant.width)
    ∙ c.in_ok-pivot.ensures.settled m0 u.now u.reached u.kept in
    let next = further m m0 w c.pivots.stage u c.in-Some.link best c.pivot.new.self settled (c.in_ok-pivot.ensures.kept m0 u.now u.reached u.kept) in
    let rows = further-rows m m0 w c.pivots.stage u c.in-Some.link best c.pivot.new.self settled (c.in_ok-pivot.ensures.kept m0 u.now u.reached u.kept) in
    omega (arith, rows_and_etas m m0 w c.pivots.stage u, rows_and_etas m m0 w c.pivot.new.self next, rows)

pub pivots-preserved : goal.pivots-preserved
pivots-preserved g c =
    let m = c.args.m in
    let m0 = matrix_of c.args.columns.now in
    let w = g.A.Arith.width c.args.arith.now in
    let u = c.pivots.invariant.way.0 in
    let best : IsLeast c.pivots.stage.cross c.in-Some.link = c.in-Some.ensures.least in
    let settled = ap (λ (k : ℕ). settle k (pivoted m u.now (row_of c.pivots.stage.cross c.in-Some.link, col_of c.pivots.stage.cross c.in-Some.link))) (sym c.pivots.invariant.width)
    ∙ c.in_ok-pivot.ensures.settled m0 u.now u.reached u.kept in
    let next = further m m0 w c.pivots.stage u c.in-Some.link best c.pivot.new.self settled (c.in_ok-pivot.ensures.kept m0 u.now u.reached u.kept) in
    let rows = further-rows m m0 w c.pivots.stage u c.in-Some.link best c.pivot.new.self settled (c.in_ok-pivot.ensures.kept m0 u.now u.reached u.kept) in
    record {
      way = (next, omega (arith, one_less (m * m) (length u.now.rows) (length next.now.rows) rows, c.pivots.invariant.way.1, c.in_ok-pivot.ensures.work));
      index = c.in_ok-pivot.ensures.index;
      width = c.in_ok-pivot.ensures.width ∙ c.pivots.invariant.width;
      unfit = c.in_ok-pivot.ensures.unfit ∙ c.pivots.invariant.unfit;
    }

pub returns-in_err-pivot-clause-fault : goal.returns-in_err-pivot-clause-fault
returns-in_err-pivot-clause-fault g c =
    let m = c.args.m in
    let m0 = matrix_of c.args.columns.now in
    let w = g.A.Arith.width c.args.arith.now in
    let u = c.pivots.invariant.way.0 in
    let best : IsLeast c.pivots.stage.cross c.in-Some.link = c.in-Some.ensures.least in
    let f = c.in_err-pivot.field-0.0 in
    let stops = subst (λ (k : ℕ). Stops k (pivoted m u.now (row_of c.pivots.stage.cross c.in-Some.link, col_of c.pivots.stage.cross c.in-Some.link)) f) c.pivots.invariant.width
    (c.in_err-pivot.ensures.fault m0 u.now u.reached u.kept) in
    err_handed (IsCause w (factored m m0)) _ f (gone_wrong m m0 w c.pivots.stage u c.in-Some.link best f stops) c.from_residual-in_err-pivot.ensures.1

pub returns-in_err-pivot-clause-dependent : goal.returns-in_err-pivot-clause-dependent
returns-in_err-pivot-clause-dependent g c =
    let m = c.args.m in
    let m0 = matrix_of c.args.columns.now in
    let w = g.A.Arith.width c.args.arith.now in
    let u = c.pivots.invariant.way.0 in
    let best : IsLeast c.pivots.stage.cross c.in-Some.link = c.in-Some.ensures.least in
    let f = c.in_err-pivot.field-0.0 in
    let stops = subst (λ (k : ℕ). Stops k (pivoted m u.now (row_of c.pivots.stage.cross c.in-Some.link, col_of c.pivots.stage.cross c.in-Some.link)) f) c.pivots.invariant.width
    (c.in_err-pivot.ensures.fault m0 u.now u.reached u.kept) in
    err_handed (IsDependent m m0) _ f (dependent_by m m0 w f (gone_wrong m m0 w c.pivots.stage u c.in-Some.link best f stops)) c.from_residual-in_err-pivot.ensures.1

pub returns-in_err-pivot-clause-work : goal.returns-in_err-pivot-clause-work
returns-in_err-pivot-clause-work g c =
    let m = c.args.m in
    let m0 = matrix_of c.args.columns.now in
    let w = g.A.Arith.width c.args.arith.now in
    let u = c.pivots.invariant.way.0 in
    let best : IsLeast c.pivots.stage.cross c.in-Some.link = c.in-Some.ensures.least in
    omega (arith, spent m m0 w c.pivots.stage u c.in-Some.link best (m * m), c.pivots.invariant.way.1, c.in_err-pivot.ensures.work)

pub returns-clause-settled : goal.returns-clause-settled
returns-clause-settled g c =
    let m = c.args.m in
    let m0 = matrix_of c.args.columns.now in
    let w = g.A.Arith.width c.args.arith.now in
    let v = g.A.Arith.width c.pivots.arith in
    let u = c.pivots.invariant.way.0 in
    let empty : (l : ℕ) → ¬ IsLink c.pivots.stage.cross l = c.in_default.ensures.least in
    ok_map (λ made. settle v (factored_by m u.now u.now.rows) ≡ Some (whole made.0 made.1))
    (λ made. settle w (factored m m0) ≡ Some (whole made.0 made.1)) c.factors.result (λ made h. whole_by m m0 w c.pivots.stage u empty v c.pivots.invariant.width made.0 made.1 h)
    (c.factors.ensures.settled m0 u.now u.reached u.kept)

pub returns-clause-represents : goal.returns-clause-represents
returns-clause-represents g c =
    let m = c.args.m in
    let m0 = matrix_of c.args.columns.now in
    let w = g.A.Arith.width c.args.arith.now in
    let v = g.A.Arith.width c.pivots.arith in
    let u = c.pivots.invariant.way.0 in
    let empty : (l : ℕ) → ¬ IsLink c.pivots.stage.cross l = c.in_default.ensures.least in
    ok_map (λ made. settle v (factored_by m u.now u.now.rows) ≡ Some (whole made.0 made.1))
    (λ made. Represents m made.0 made.1 m0) c.factors.result (λ made h. whole-represents m m0 w made.0 made.1 (whole_by m m0 w c.pivots.stage u empty v c.pivots.invariant.width made.0 made.1 h))
    (c.factors.ensures.settled m0 u.now u.reached u.kept)

pub returns-clause-operations : goal.returns-clause-operations
returns-clause-operations g c =
    let m = c.args.m in
    let m0 = matrix_of c.args.columns.now in
    let w = g.A.Arith.width c.args.arith.now in
    let v = g.A.Arith.width c.pivots.arith in
    let u = c.pivots.invariant.way.0 in
    let empty : (l : ℕ) → ¬ IsLink c.pivots.stage.cross l = c.in_default.ensures.least in
    ok_map (λ made. settle v (factored_by m u.now u.now.rows) ≡ Some (whole made.0 made.1))
    (λ made. length made.0 ≡ m) c.factors.result (λ made h. whole-operations m m0 w made.0 made.1 (whole_by m m0 w c.pivots.stage u empty v c.pivots.invariant.width made.0 made.1 h))
    (c.factors.ensures.settled m0 u.now u.reached u.kept)

pub returns-clause-entries : goal.returns-clause-entries
returns-clause-entries g c =
    let m = c.args.m in
    let m0 = matrix_of c.args.columns.now in
    let w = g.A.Arith.width c.args.arith.now in
    let v = g.A.Arith.width c.pivots.arith in
    let u = c.pivots.invariant.way.0 in
    let empty : (l : ℕ) → ¬ IsLink c.pivots.stage.cross l = c.in_default.ensures.least in
    ok_map (λ made. settle v (factored_by m u.now u.now.rows) ≡ Some (whole made.0 made.1))
    (λ made. 2 * stored made.0 ≤ m * (m - 1)) c.factors.result (λ made h. whole-few m m0 w made.0 made.1 (whole_by m m0 w c.pivots.stage u empty v c.pivots.invariant.width made.0 made.1 h))
    (c.factors.ensures.settled m0 u.now u.reached u.kept)

pub returns-clause-fault : goal.returns-clause-fault
returns-clause-fault g c =
    let m = c.args.m in
    let m0 = matrix_of c.args.columns.now in
    let w = g.A.Arith.width c.args.arith.now in
    let v = g.A.Arith.width c.pivots.arith in
    let u = c.pivots.invariant.way.0 in
    let empty : (l : ℕ) → ¬ IsLink c.pivots.stage.cross l = c.in_default.ensures.least in
    err_map (IsCause v (factored_by m u.now u.now.rows)) (IsCause w (factored m m0)) c.factors.result
    (λ f h. cause_by m m0 w c.pivots.stage u empty v c.pivots.invariant.width f h) (c.factors.ensures.fault m0 u.now u.reached u.kept)

pub returns-clause-dependent : goal.returns-clause-dependent
returns-clause-dependent g c =
    let m = c.args.m in
    let m0 = matrix_of c.args.columns.now in
    let w = g.A.Arith.width c.args.arith.now in
    let v = g.A.Arith.width c.pivots.arith in
    let u = c.pivots.invariant.way.0 in
    let empty : (l : ℕ) → ¬ IsLink c.pivots.stage.cross l = c.in_default.ensures.least in
    err_map (IsCause v (factored_by m u.now u.now.rows)) (IsDependent m m0) c.factors.result
    (λ f h. dependent_by m m0 w f (cause_by m m0 w c.pivots.stage u empty v c.pivots.invariant.width f h)) (c.factors.ensures.fault m0 u.now u.reached u.kept)

pub returns-clause-work : goal.returns-clause-work
returns-clause-work g c =
    let m = c.args.m in
    let m0 = matrix_of c.args.columns.now in
    let w = g.A.Arith.width c.args.arith.now in
    let v = g.A.Arith.width c.pivots.arith in
    let u = c.pivots.invariant.way.0 in
    let empty : (l : ℕ) → ¬ IsLink c.pivots.stage.cross l = c.in_default.ensures.least in
    omega (arith, c.pivots.invariant.way.1, c.factors.ensures.work m0 u.now u.reached u.kept)
