use Rattle.std.proofs.Common.{List, length, ◌≡◌, IfErr, IfOk, sym, subst}
use Rattle.lp_model.specs.declared.Entry.{Entry}
use Rattle.deck_model.specs.Outcome.{outcome_of}
use Rattle.lp_run.specs.Ends.{Yields}
use Rattle.run_outcome.specs.Endings.{IsOutcomeCause}
use Rattle.two_phase.specs.Inner.Fallbacks.{fallback_state}
use Rattle.two_phase.proofs.shown.show_fallback.Goals as goal

pub returns-in-Anew-clause-outcome : goal.returns-in-Anew-clause-outcome
returns-in-Anew-clause-outcome g c =
    subst (λ x. IfOk c.show_iterate.result (λ outcome. Yields c.args.inst.now (fallback_state x) (outcome_of outcome))) (sym c.in-Anew.is) c.show_iterate.ensures.outcome

pub returns-in-Anew-clause-fault : goal.returns-in-Anew-clause-fault
returns-in-Anew-clause-fault g c =
    subst (λ x. IfErr c.show_iterate.result (λ fault. (log : List Entry) → length log ≡ c.args.number → IsOutcomeCause (g.A.Arith.width c.args.arith.now) c.args.inst.now log (fallback_state x) fault))
    (sym c.in-Anew.is) c.show_iterate.ensures.fault

pub returns-in-Table-clause-outcome : goal.returns-in-Table-clause-outcome
returns-in-Table-clause-outcome g c =
    subst (λ x. IfOk c.show_table.result (λ outcome. Yields c.args.inst.now (fallback_state x) (outcome_of outcome))) (sym c.in-Table.is) c.show_table.ensures.outcome

pub returns-in-Table-clause-fault : goal.returns-in-Table-clause-fault
returns-in-Table-clause-fault g c =
    subst (λ x. IfErr c.show_table.result (λ fault. (log : List Entry) → length log ≡ c.args.number → IsOutcomeCause (g.A.Arith.width c.args.arith.now) c.args.inst.now log (fallback_state x) fault))
    (sym c.in-Table.is) c.show_table.ensures.fault
