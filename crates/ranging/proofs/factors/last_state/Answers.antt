-- The state has taken in the entries so far.
use Rattle.std.proofs.Common.{◌+◌, ◌<◌, get_or, length, take, ap, subst, sym, arith}
use Rattle.lp_model.specs.declared.Entry.TheVariants.{Flip}
use Rattle.lp_run.specs.Run.{IsRun}
use Rattle.ranging.proofs.LastStates.{reached_next, taken}
use Rattle.ranging.proofs.factors.last_state.Goals as goal

pub loop-k-init : goal.loop-k-init
loop-k-init c = sym c.in_ok-state.ensures

pub after-requires : goal.after-requires
after-requires c =
    let log = c.args.log.now in
    let k = c.loop-k.k in
    let lt : k < length log = omega (arith, ap (λ es. length es) c.entries-entries.ensures) in
    taken c.args.inst.now c.requires.formed log c.requires.run.0 c.loop-k.state c.requires.run.1 k c.loop-k.invariant (Flip 0) _ lt
    (ap (λ es. get_or es k (Flip 0)) c.entries-entries.ensures)

pub loop-k-preserved : goal.loop-k-preserved
loop-k-preserved c =
    let inst = c.args.inst.now in
    let log = c.args.log.now in
    let k = c.loop-k.k in
    let lt : k < length log = omega (arith, ap (λ es. length es) c.entries-entries.ensures) in
    subst (λ s. IsRun inst (take (k + 1) log) s) (sym c.after.ensures)
    (reached_next inst c.requires.formed log c.requires.run.0 c.loop-k.state c.requires.run.1 k c.loop-k.invariant (Flip 0) _ lt
    (ap (λ es. get_or es k (Flip 0)) c.entries-entries.ensures))
