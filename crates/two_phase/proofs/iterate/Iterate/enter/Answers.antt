use Rattle.std.proofs.Common.{length, refl, sym, ◌∙◌, ap, subst}
use Rattle.std.proofs.lemmas.List.{with_items_is}
use Rattle.lp_run.specs.Solution.{ColumnOf}
use Rattle.factor_run.specs.Causes.{Cause}
use Rattle.plain_table.proofs.Coming.{handed_on}
use Rattle.basis_solves.specs.Refusals.{Explains}
use Rattle.basis_solves.proofs.Following.{explained}
use Rattle.two_phase.proofs.Iterating.{column_cause, decided_there, form_there, iterate_basis, same_iterate, undecided_cause, undecided_there}
use Rattle.two_phase.proofs.iterate.Iterate.enter.Goals as goal

pub returns-in_err-solve_column-clause-refusal : goal.returns-in_err-solve_column-clause-refusal
returns-in_err-solve_column-clause-refusal g c log stands =
    let w = g.A.Arith.width c.args.arith.now in
    let it = c.args.self.now in
    handed_on _ (Explains (Cause w c.args.inst.now (length log) it.state it.factors)) c.from_residual.ensures.1
    (explained c.in_err-solve_column.field-0.0 (column_cause w c.args.inst.now log it stands c.requires.priced c.args.q c.requires.enters) c.in_err-solve_column.ensures.refusal)

pub decide-requires-clause-state : goal.decide-requires-clause-state
decide-requires-clause-state g c κs within = iterate_basis _ c.args.inst.now c.args.self.now c.requires.stands

pub returns-in_err-decide-clause-stands : goal.returns-in_err-decide-clause-stands
returns-in_err-decide-clause-stands g c log stands =
    let it = c.args.self.now in
    let spike = with_items_is it.spike c.solve_column.new.spike (c.solve_column.auto.spike ∙ c.deref_mut.ensures.len) in
    let alpha = with_items_is it.alpha c.solve_column.new.alpha (c.solve_column.auto.alpha ∙ c.deref_mut-2.ensures.len) in
    same_iterate _ c.args.inst.now log it _ (record { state = refl; factors = refl; values = refl }) stands.prices
    (record {
      prices = stands.sized.prices;
      alpha = ap (λ xs. length xs) alpha ∙ c.solve_column.auto.alpha ∙ ap (λ xs. length xs) c.deref_mut-2.ensures.value ∙ stands.sized.alpha;
      spike = ap (λ xs. length xs) spike ∙ c.solve_column.auto.spike ∙ ap (λ xs. length xs) c.deref_mut.ensures.value ∙ stands.sized.spike;
      spare = stands.sized.spare;
      few = stands.sized.few;
    }) stands

pub returns-in_err-decide-clause-refusal : goal.returns-in_err-decide-clause-refusal
returns-in_err-decide-clause-refusal g c log stands =
    let w = g.A.Arith.width c.args.arith.now in
    let inst = c.args.inst.now in
    let it = c.args.self.now in
    let alpha = c.deref-3.ensures.value ∙ with_items_is it.alpha c.solve_column.new.alpha (c.solve_column.auto.alpha ∙ c.deref_mut-2.ensures.len) in
    let undecided = undecided_there inst it.state c.args.q it.values.items _ it.prices.items _ c.solve_column.new.alpha _ c.deref.ensures.value c.deref-2.ensures.value alpha w _ c.in_ok-solve_column.ensures.width
    c.in_err-decide.ensures.undecided in
    handed_on _ (Explains (Cause w inst (length log) it.state it.factors)) c.from_residual-in_err-decide.ensures.1
    (undecided_cause w inst log it stands c.requires.priced c.args.q c.requires.enters c.solve_column.new.alpha (c.in_ok-solve_column.ensures.column it.state stands.factors) undecided)

pub returns-clause-entered : goal.returns-clause-entered
returns-clause-entered g c =
    let inst = c.args.inst.now in
    let it = c.args.self.now in
    let stands = c.requires.stands.1 in
    let spike = with_items_is it.spike c.solve_column.new.spike (c.solve_column.auto.spike ∙ c.deref_mut.ensures.len) in
    let alpha = with_items_is it.alpha c.solve_column.new.alpha (c.solve_column.auto.alpha ∙ c.deref_mut-2.ensures.len) in
    record {
      column = subst (ColumnOf inst it.state c.args.q) (sym alpha) (c.in_ok-solve_column.ensures.column it.state stands.factors);
      spike = spike ∙ c.in_ok-solve_column.ensures.spike;
      form = form_there it.factors.upper c.solve_column.new.alpha _ c.solve_column.new.spike _ alpha spike c.in_ok-solve_column.ensures.form;
      decided = decided_there inst it.state c.args.q it.values.items _ it.prices.items _ _ _ c.deref.ensures.value c.deref-2.ensures.value c.deref-3.ensures.value c.in_ok-decide.field-0 c.in_ok-decide.ensures.decided;
    }
