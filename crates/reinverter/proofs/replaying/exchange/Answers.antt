use Rattle.std.proofs.Common.{◌≡◌, None, Some, arith, drop, length, subst}
use Rattle.rational.specs.Worked.{settle}
use Rattle.factor_model.specs.Factors.{updated}
use Rattle.plain_table.proofs.Coming.{handed_on}
use Rattle.basis_solves.proofs.Following.{explained, explains_on}
use Rattle.basis_solves.specs.Refusals.{Explains}
use Rattle.reinverter.proofs.Followed.{both_settle, first_unfit, on_ok, seam_back, second_unfit}
use Rattle.reinverter.specs.Replays.{exchanged_once}
use Rattle.reinverter.proofs.replaying.exchange.Goals as goal

pub returns-in_err-solve_column-clause-refusal : goal.returns-in_err-solve_column-clause-refusal
returns-in_err-solve_column-clause-refusal g c =
    let a = c.args in
    let w = g.A.Arith.width a.arith.now in
    handed_on _ (Explains (settle w (exchanged_once a.inst.now a.factors.now a.q a.p) ≡ None)) c.from_residual-in_err-solve_column.ensures.1
    (explained c.in_err-solve_column.field-0.0 (first_unfit w a.inst.now a.factors.now a.q a.p) c.in_err-solve_column.ensures.refusal)

pub returns-clause-followed : goal.returns-clause-followed
returns-clause-followed g c =
    let a = c.args in
    let w = g.A.Arith.width a.arith.now in
    let new = c.update.new.factors in
    let spike = c.solve_column.new.spike in
    let back = seam_back c.deref.result.now spike (drop (length spike) c.in_ok-spike.spike.items) c.in_ok-spike.spike.len c.deref.ensures.value (omega arith) in
    on_ok c.update.result
    (λ followed.
    both_settle w a.inst.now a.factors.now a.q a.p c.solve_column.new.spike c.solve_column.new.alpha new c.in_ok-solve_column.ensures.settled
    (subst (λ w. settle w (updated a.factors.now a.p c.solve_column.new.spike) ≡ Some new) c.in_ok-solve_column.ensures.width
    (subst (λ v. settle (g.A.Arith.width c.solve_column.new.arith) (updated a.factors.now a.p v) ≡ Some new) back followed)))
    c.update.ensures.settled

pub returns-clause-refusal : goal.returns-clause-refusal
returns-clause-refusal g c =
    let a = c.args in
    let w = g.A.Arith.width a.arith.now in
    let spike = c.solve_column.new.spike in
    let back = seam_back c.deref.result.now spike (drop (length spike) c.in_ok-spike.spike.items) c.in_ok-spike.spike.len c.deref.ensures.value (omega arith) in
    explains_on c.update.result
    (λ none.
    second_unfit w a.inst.now a.factors.now a.q a.p c.solve_column.new.spike c.solve_column.new.alpha c.in_ok-solve_column.ensures.settled
    (subst (λ w. settle w (updated a.factors.now a.p c.solve_column.new.spike) ≡ None) c.in_ok-solve_column.ensures.width
    (subst (λ v. settle (g.A.Arith.width c.solve_column.new.arith) (updated a.factors.now a.p v) ≡ None) back none)))
    c.update.ensures.refusal
