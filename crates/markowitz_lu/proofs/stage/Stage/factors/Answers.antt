-- The parts are the form of the elimination, or its first row left gives the combination.
use Rattle.std.proofs.Common.{◌≡◌, ℕ, Bool, false, List, Some, sym, ap, ◌∙◌, arith}
use Rattle.std.proofs.lemmas.Result.{err_from_is_err_and}
use Rattle.factor_model.specs.Factoring.{whole}
use Rattle.factor_model.specs.Upper.{Triangle}
use Rattle.cross_links.specs.Matrix.{is_active}
use Rattle.markowitz_lu.proofs.Ends.{rows_gone, first_row, left_below, are_ops, form_upper, factored-whole, factored-singular, factored-stops, back-work}
use Rattle.markowitz_lu.proofs.stage.Stage.factors.Goals as goal

pub of-requires : goal.of-requires
of-requires g c =
    let off : (i : ℕ) → is_active c.args.self.left.items i ≡ false = λ i. ap (λ (xs : List Bool). is_active xs i) (sym c.deref.ensures.value) ∙ c.in-None.ensures i in
    let m0 = c.requires.kept.0 in
    let e = c.requires.kept.1 in
    form_upper c.args.m m0 e c.requires.kept.2 c.args.self c.requires.kept.3 (rows_gone c.args.m m0 e c.requires.kept.2 c.args.self c.requires.kept.3 off)

pub returns-in-None-clause-settled : goal.returns-in-None-clause-settled
returns-in-None-clause-settled g c m0 e reached kept =
    let off : (i : ℕ) → is_active c.args.self.left.items i ≡ false = λ i. ap (λ (xs : List Bool). is_active xs i) (sym c.deref.ensures.value) ∙ c.in-None.ensures i in
    factored-whole c.args.m m0 e reached c.args.self kept (rows_gone c.args.m m0 e reached c.args.self kept off) (g.A.Arith.width c.args.arith.now)
    ∙ ap (λ (u : Triangle). Some (whole c.args.self.etas u)) (sym c.of.ensures)

pub returns-in-None-clause-work : goal.returns-in-None-clause-work
returns-in-None-clause-work g c m0 e reached kept = omega arith

pub combination-requires-clause-row : goal.combination-requires-clause-row
combination-requires-clause-row g c _ _ =
    left_below c.args.m c.requires.kept.0 c.requires.kept.1 c.requires.kept.2 c.args.self c.requires.kept.3 c.in-Some.r
    (ap (λ (xs : List Bool). is_active xs c.in-Some.r) (sym c.deref.ensures.value) ∙ c.in-Some.ensures.0)

pub combination-requires-clause-operations : goal.combination-requires-clause-operations
combination-requires-clause-operations g c _ _ = are_ops c.args.m c.requires.kept.0 c.requires.kept.1 c.requires.kept.2 c.args.self c.requires.kept.3

pub returns-clause-fault : goal.returns-clause-fault
returns-clause-fault g c m0 e reached kept =
    let r = c.in-Some.r in
    let same = λ (i : ℕ). ap (λ (xs : List Bool). is_active xs i) (sym c.deref.ensures.value) in
    let first = first_row c.args.m m0 e reached c.args.self kept r (same r ∙ c.in-Some.ensures.0) (λ i lt. same i ∙ c.in-Some.ensures.1 i lt) in
    factored-singular c.args.m m0 e reached c.args.self kept (g.A.Arith.width c.args.arith.now) r first.0 first.1 c.in_ok-y-in-Some.y.items c.in_ok-y-in-Some.ensures.settled

pub returns-clause-work : goal.returns-clause-work
returns-clause-work g c m0 e reached kept =
    let r = c.in-Some.r in
    let same = λ (i : ℕ). ap (λ (xs : List Bool). is_active xs i) (sym c.deref.ensures.value) in
    let first = first_row c.args.m m0 e reached c.args.self kept r (same r ∙ c.in-Some.ensures.0) (λ i lt. same i ∙ c.in-Some.ensures.1 i lt) in
    omega (arith, back-work c.args.m m0 e reached c.args.self kept (g.A.Arith.width c.args.arith.now) r first.0 first.1, c.combination.ensures.work)

pub returns-in_err-y-in-Some-clause-fault : goal.returns-in_err-y-in-Some-clause-fault
returns-in_err-y-in-Some-clause-fault g c m0 e reached kept =
    let r = c.in-Some.r in
    let same = λ (i : ℕ). ap (λ (xs : List Bool). is_active xs i) (sym c.deref.ensures.value) in
    let first = first_row c.args.m m0 e reached c.args.self kept r (same r ∙ c.in-Some.ensures.0) (λ i lt. same i ∙ c.in-Some.ensures.1 i lt) in
    let p = err_from_is_err_and c.from_residual.result c.from_residual.ensures.1 in
    rw (p.1, p.2)
    (factored-stops c.args.m m0 e reached c.args.self kept (g.A.Arith.width c.args.arith.now) r first.0 first.1 c.in_err-y-in-Some.field-0.0 c.in_err-y-in-Some.ensures.fault)

pub returns-in_err-y-in-Some-clause-work : goal.returns-in_err-y-in-Some-clause-work
returns-in_err-y-in-Some-clause-work g c m0 e reached kept =
    let r = c.in-Some.r in
    let same = λ (i : ℕ). ap (λ (xs : List Bool). is_active xs i) (sym c.deref.ensures.value) in
    let first = first_row c.args.m m0 e reached c.args.self kept r (same r ∙ c.in-Some.ensures.0) (λ i lt. same i ∙ c.in-Some.ensures.1 i lt) in
    omega (arith, back-work c.args.m m0 e reached c.args.self kept (g.A.Arith.width c.args.arith.now) r first.0 first.1, c.combination.ensures.work)
