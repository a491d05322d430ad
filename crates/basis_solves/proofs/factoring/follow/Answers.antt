use Rattle.std.proofs.Common.{◌<◌, subst}
use Rattle.lp_model.specs.declared.Entry.TheVariants.{Swap}
use Rattle.lp_run.specs.State.{after}
use Rattle.factor_model.specs.Factors.{most_updates}
use Rattle.plain_table.proofs.Makings.{on_ok}
use Rattle.basis_solves.proofs.Following.{explains_on, followed_by_update, unfollowed_by_update, updated_factors}
use Rattle.basis_solves.proofs.factoring.follow.Goals as goal

pub returns-then-updates-lt-MOST_UPDATES-clause-followed : goal.returns-then-updates-lt-MOST_UPDATES-clause-followed
returns-then-updates-lt-MOST_UPDATES-clause-followed g c end basis =
    let a = c.args in
    let few = subst (λ n. n < most_updates) c.updates.ensures.value c.if-updates-lt-MOST_UPDATES.true in
    on_ok c.update.result
    (followed_by_update (g.A.Arith.width a.arith.now) a.inst.now (after a.state.now (Swap a.q a.p end)) a.number a.factors.now a.p a.q a.spike.now c.requires.spike few c.update.new.factors)
    c.update.ensures.settled

pub returns-then-updates-lt-MOST_UPDATES-clause-represents : goal.returns-then-updates-lt-MOST_UPDATES-clause-represents
returns-then-updates-lt-MOST_UPDATES-clause-represents g c end basis =
    let a = c.args in
    updated_factors a.inst.now a.state.now a.factors.now a.p a.q c.requires.positions c.requires.position c.requires.factors a.spike.now c.requires.spike c.update.result c.update.new.factors
    c.update.ensures.represents end

pub returns-then-updates-lt-MOST_UPDATES-clause-refusal : goal.returns-then-updates-lt-MOST_UPDATES-clause-refusal
returns-then-updates-lt-MOST_UPDATES-clause-refusal g c end basis =
    let a = c.args in
    let few = subst (λ n. n < most_updates) c.updates.ensures.value c.if-updates-lt-MOST_UPDATES.true in
    explains_on c.update.result
    (unfollowed_by_update (g.A.Arith.width a.arith.now) a.inst.now (after a.state.now (Swap a.q a.p end)) a.number a.factors.now a.p a.q a.spike.now c.requires.spike few)
    c.update.ensures.refusal
