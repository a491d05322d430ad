use Rattle.std.proofs.Common.{List, length, ◌≡◌, IfErr, IfOk, sym, subst}
use Rattle.lp_model.specs.declared.Entry.{Entry}
use Rattle.deck_model.specs.Outcome.{outcome_of}
use Rattle.lp_run.specs.Ends.{Yields}
use Rattle.run_outcome.specs.Endings.{IsOutcomeCause}
use Rattle.two_phase.specs.Inner.Grounds.{ground_state}
use Rattle.two_phase.proofs.shown.show.Goals as goal

pub returns-in-Factors-clause-outcome : goal.returns-in-Factors-clause-outcome
returns-in-Factors-clause-outcome g c =
    subst (λ x. IfOk c.show_iterate.result (λ outcome. Yields c.args.inst.now (ground_state x) (outcome_of outcome))) (sym c.in-Factors.is) c.show_iterate.ensures.outcome

pub returns-in-Factors-clause-fault : goal.returns-in-Factors-clause-fault
returns-in-Factors-clause-fault g c =
    subst (λ x. IfErr c.show_iterate.result (λ fault. (log : List Entry) → length log ≡ c.args.number → IsOutcomeCause (g.A.Arith.width c.args.arith.now) c.args.inst.now log (ground_state x) fault))
    (sym c.in-Factors.is) c.show_iterate.ensures.fault

pub returns-in-Plain-clause-outcome : goal.returns-in-Plain-clause-outcome
returns-in-Plain-clause-outcome g c =
    subst (λ x. IfOk c.show_fallback.result (λ outcome. Yields c.args.inst.now (ground_state x) (outcome_of outcome))) (sym c.in-Plain.is) c.show_fallback.ensures.outcome

pub returns-in-Plain-clause-fault : goal.returns-in-Plain-clause-fault
returns-in-Plain-clause-fault g c =
    subst (λ x. IfErr c.show_fallback.result (λ fault. (log : List Entry) → length log ≡ c.args.number → IsOutcomeCause (g.A.Arith.width c.args.arith.now) c.args.inst.now log (ground_state x) fault))
    (sym c.in-Plain.is) c.show_fallback.ensures.fault
