-- Each position's limit is looked at in turn, and then the column's own.
use Rattle.std.proofs.Common.{◌≡◌, ℕ, Option, None, Some, ◌∙◌, sym, ap, subst, arith}
use Rattle.std.specs.Option.{option_map}
use Rattle.rational.specs.Worked.{Worked, settle}
use Rattle.rational.proofs.Settling.{settle-same}
use Rattle.lp_model.specs.declared.Phase.{Phase}
use Rattle.lp_model.specs.Deck.{Interval}
use Rattle.lp_run.specs.Instance.{Instance, bounds, row_count}
use Rattle.bland_ratio.specs.Leave.{Decides, direction_where}
use Rattle.bland_ratio.specs.Inner.Limits.{limit_of, limit_work, own_work}
use Rattle.bland_ratio.proofs.Least.{IsLeast}
use Rattle.bland_ratio.proofs.Ratios.{LimitBefore, SettleBefore, all_fit, best_next, decided, settle_next, unfit_own, unfit_position}
use Rattle.bland_ratio.proofs.ratio_test.leaving.Goals as goal

bounds_at : (inst : Instance) (phase phase' : Phase) (q : ℕ) (i : Interval) → i ≡ bounds inst phase' q → phase' ≡ phase → i ≡ bounds inst phase q
bounds_at inst phase phase' q i e same = e ∙ ap (λ phase. bounds inst phase q) same

at_width : {A : Type 0} (u w : ℕ) (c : Worked A) (o : Option A) → u ≡ w → settle u c ≡ o → settle w c ≡ o
at_width u w c o same h = subst (λ w. settle w c ≡ o) same h

pub returns-in-Err-clause-unfit : goal.returns-in-Err-clause-unfit
returns-in-Err-clause-unfit g c =
    let a = c.args in
    let t = direction_where a.down in
    let w = g.A.Arith.width a.arith.now in
    unfit_position a.inst.now a.state.now a.q t a.values.now a.alpha.now w c.loop-p.p (omega arith) c.loop-p.invariant.settled
    (at_width (g.A.Arith.width c.loop-p.arith) w (limit_work a.inst.now a.state.now t a.values.now a.alpha.now c.loop-p.p) None c.loop-p.invariant.width c.in-Err.ensures.settled)

pub loop-p-preserved : goal.loop-p-preserved
loop-p-preserved g c =
    let a = c.args in
    let t = direction_where a.down in
    let w = g.A.Arith.width a.arith.now in
    let settled : settle w (limit_work a.inst.now a.state.now t a.values.now a.alpha.now c.loop-p.p) ≡ Some c.in-Ok.next =
    at_width (g.A.Arith.width c.loop-p.arith) w (limit_work a.inst.now a.state.now t a.values.now a.alpha.now c.loop-p.p) (Some c.in-Ok.next) c.loop-p.invariant.width c.in-Ok.ensures.settled in
    record {
      width = c.position_limit.ensures.width ∙ c.loop-p.invariant.width;
      unfit = c.in-Ok.ensures.unfit ∙ c.loop-p.invariant.unfit;
      work = omega arith;
      settled = settle_next a.inst.now a.state.now a.q t a.values.now a.alpha.now w c.loop-p.p c.in-Ok.next c.loop-p.invariant.settled settled;
      best = best_next a.inst.now a.state.now a.q t a.values.now a.alpha.now w c.loop-p.p c.in-Ok.next (option_map (limit_of a.q) c.loop-p.best) (option_map (limit_of a.q) c.earlier-best.result)
          settled c.loop-p.invariant.best (c.earlier-best.ensures a.q);
    }

pub returns-in-Ok-own_limit-clause-decides : goal.returns-in-Ok-own_limit-clause-decides
returns-in-Ok-own_limit-clause-decides g c =
    let a = c.args in
    let t = direction_where a.down in
    let w = g.A.Arith.width a.arith.now in
    let ended : c.loop-p.p ≡ row_count a.inst.now = omega arith in
    let ends : c.bounds.result ≡ bounds a.inst.now a.state.now.phase a.q = bounds_at a.inst.now a.state.now.phase c.phase.result a.q c.bounds.result c.bounds.ensures c.phase.ensures in
    subst (Decides a.inst.now a.state.now a.q t a.values.now a.alpha.now) (sym c.leave_of.ensures)
    (decided a.inst.now a.state.now a.q t a.values.now a.alpha.now w c.in-Ok-own_limit.own c.earlier.result (option_map (limit_of a.q) c.loop-p.best)
    (settle-same (g.A.Arith.width c.loop-p.arith) _ _ (own_work c.bounds.result a.q) (Some c.in-Ok-own_limit.own) (sym c.loop-p.invariant.width)
    (ap (λ i. own_work i a.q) (sym ends)) c.in-Ok-own_limit.ensures.settled)
    (subst (λ p. IsLeast (LimitBefore a.inst.now a.state.now a.q t a.values.now a.alpha.now w p) (option_map (limit_of a.q) c.loop-p.best)) ended c.loop-p.invariant.best)
    (c.earlier.ensures a.q))

pub returns-in-Ok-own_limit-clause-fits : goal.returns-in-Ok-own_limit-clause-fits
returns-in-Ok-own_limit-clause-fits g c =
    let a = c.args in
    let t = direction_where a.down in
    let w = g.A.Arith.width a.arith.now in
    let ended : c.loop-p.p ≡ row_count a.inst.now = omega arith in
    let ends : c.bounds.result ≡ bounds a.inst.now a.state.now.phase a.q = bounds_at a.inst.now a.state.now.phase c.phase.result a.q c.bounds.result c.bounds.ensures c.phase.ensures in
    all_fit a.inst.now a.state.now a.q t a.values.now a.alpha.now w c.in-Ok-own_limit.own
    (subst (SettleBefore a.inst.now a.state.now a.q t a.values.now a.alpha.now w) ended c.loop-p.invariant.settled)
    (settle-same (g.A.Arith.width c.loop-p.arith) _ _ (own_work c.bounds.result a.q) (Some c.in-Ok-own_limit.own) (sym c.loop-p.invariant.width)
    (ap (λ i. own_work i a.q) (sym ends)) c.in-Ok-own_limit.ensures.settled)

pub returns-in-Err-own_limit-clause-unfit : goal.returns-in-Err-own_limit-clause-unfit
returns-in-Err-own_limit-clause-unfit g c =
    let a = c.args in
    let t = direction_where a.down in
    let w = g.A.Arith.width a.arith.now in
    let ended : c.loop-p.p ≡ row_count a.inst.now = omega arith in
    let ends : c.bounds.result ≡ bounds a.inst.now a.state.now.phase a.q = bounds_at a.inst.now a.state.now.phase c.phase.result a.q c.bounds.result c.bounds.ensures c.phase.ensures in
    unfit_own a.inst.now a.state.now a.q t a.values.now a.alpha.now w
    (subst (SettleBefore a.inst.now a.state.now a.q t a.values.now a.alpha.now w) ended c.loop-p.invariant.settled)
    (settle-same (g.A.Arith.width c.loop-p.arith) _ _ (own_work c.bounds.result a.q) None (sym c.loop-p.invariant.width) (ap (λ i. own_work i a.q) (sym ends)) c.in-Err-own_limit.ensures.settled)
