use Rattle.std.proofs.Common.{◌≡◌, ◌+◌, length, length-append, [], ◌∷◌, Some, None, sym, ◌∙◌, ap, subst}
use Rattle.rational.specs.Worked.{settle}
use Rattle.factor_run.specs.Built.{exchanged}
use Rattle.lp_model.specs.declared.Entry.TheVariants.{Swap}
use Rattle.lp_run.specs.State.{after}
use Rattle.factor_run.specs.Causes.{Cause}
use Rattle.instance_model.specs.Entries.{CanTake}
use Rattle.plain_table.proofs.Coming.{handed_on}
use Rattle.two_phase.specs.Inner.Iterates.{IsIterate}
use Rattle.basis_solves.specs.Refusals.{Explains}
use Rattle.basis_solves.proofs.Following.{explained}
use Rattle.two_phase.proofs.Iterating.{iterate_basis}
use Rattle.two_phase.proofs.Taking.{spared_entered, spared_enters, spared_iterate, spared_worked, statused, swap_basis, swap_can, swap_pivots, swap_refused, swap_taken, swap_unfollowed, swap_within, taken_off}
use Rattle.two_phase.proofs.iterate.Iterate.exchange.Goals as goal

pub work_values-requires-clause-status : goal.work_values-requires-clause-status
work_values-requires-clause-status g c κs within = statused _ c.args.inst.now c.requires.well_formed c.args.log.now c.args.self.now c.requires.stands c.args.q c.requires.enters.eligible.in_range

pub returns-in_err-work_values-clause-refusal : goal.returns-in_err-work_values-clause-refusal
returns-in_err-work_values-clause-refusal g c =
    let w = g.A.Arith.width c.args.arith.now in
    let a = c.args in
    let it = a.self.now in
    let (here, e) = c.in_err-work_values.ensures.unfit_value in
    handed_on _ (Explains (Cause w a.inst.now (length a.log.now) it.state it.factors)) c.from_residual.ensures.1
    (swap_refused w a.inst.now c.requires.well_formed a.log.now it c.requires.stands c.requires.priced a.q c.requires.enters a.down a.p a.end a.ratio c.requires.entered c.len-number.result c.len-number.ensures here e)

pub follow-requires-clause-positions : goal.follow-requires-clause-positions
follow-requires-clause-positions g c κs within =
    let kept = c.in_ok-work_values.ensures.spared in
    ap (λ s. length s.basis) kept.state ∙ (iterate_basis _ c.args.inst.now c.args.self.now (c.args.log.now, c.requires.stands)).positions

pub follow-requires-clause-position : goal.follow-requires-clause-position
follow-requires-clause-position g c κs within =
    let a = c.args in
    swap_within _ a.inst.now c.requires.well_formed a.log.now a.self.now c.requires.stands c.requires.priced a.q c.requires.enters a.down a.p a.end a.ratio c.requires.entered

pub follow-requires-clause-pivot : goal.follow-requires-clause-pivot
follow-requires-clause-pivot g c κs within =
    let w = g.A.Arith.width c.args.arith.now in
    let a = c.args in
    let kept = c.in_ok-work_values.ensures.spared in
    let mid = c.work_values.new.self in
    swap_pivots w a.inst.now c.requires.well_formed a.log.now mid (spared_iterate w a.inst.now a.log.now a.self.now mid kept a.q c.requires.stands) (kept.is_priced ∙ c.requires.priced) a.q
    (spared_enters w a.inst.now a.log.now a.self.now mid kept a.q c.requires.enters) a.down a.p a.end a.ratio (spared_entered w a.inst.now a.log.now a.self.now mid kept a.q _ c.requires.entered)

pub follow-requires-clause-basis : goal.follow-requires-clause-basis
follow-requires-clause-basis g c κs within =
    let w = g.A.Arith.width c.args.arith.now in
    let a = c.args in
    let kept = c.in_ok-work_values.ensures.spared in
    let mid = c.work_values.new.self in (
      a.end,
      swap_basis w a.inst.now c.requires.well_formed a.log.now mid (spared_iterate w a.inst.now a.log.now a.self.now mid kept a.q c.requires.stands) (kept.is_priced ∙ c.requires.priced) a.q
          (spared_enters w a.inst.now a.log.now a.self.now mid kept a.q c.requires.enters) a.down a.p a.end a.ratio (spared_entered w a.inst.now a.log.now a.self.now mid kept a.q _ c.requires.entered),
    )

pub take-requires : goal.take-requires
take-requires g c =
    let w = g.A.Arith.width c.args.arith.now in
    let a = c.args in
    let kept = c.in_ok-work_values.ensures.spared in
    subst (λ s. CanTake s (Swap a.q a.p a.end)) (sym (c.in-Ok.ensures.others.state ∙ kept.state))
    (swap_can w a.inst.now c.requires.well_formed a.log.now a.self.now c.requires.stands c.requires.priced a.q c.requires.enters a.down a.p a.end a.ratio c.requires.entered)

pub returns-in-Ok-clause-stands : goal.returns-in-Ok-clause-stands
returns-in-Ok-clause-stands g c =
    let w = g.A.Arith.width c.args.arith.now in
    let a = c.args in
    let kept = c.in_ok-work_values.ensures.spared in
    let mid = c.work_values.new.self in
    let stands = spared_iterate w a.inst.now a.log.now a.self.now mid kept a.q c.requires.stands in
    let enters = spared_enters w a.inst.now a.log.now a.self.now mid kept a.q c.requires.enters in
    let entered = spared_entered w a.inst.now a.log.now a.self.now mid kept a.q _ c.requires.entered in
    let basis = swap_basis w a.inst.now c.requires.well_formed a.log.now mid stands (kept.is_priced ∙ c.requires.priced) a.q enters a.down a.p a.end a.ratio entered in
    let number = c.len-next.ensures ∙ ap (λ l. length l) c.in_ok-push.ensures.ok ∙ length-append a.log.now (Swap a.q a.p a.end ∷ []) in
    subst (λ log. IsIterate w a.inst.now log c.take.new.self) (sym c.in_ok-push.ensures.ok)
    (swap_taken w a.inst.now c.requires.well_formed a.log.now mid stands (kept.is_priced ∙ c.requires.priced) a.q enters a.down a.p a.end a.ratio entered c.follow.new.self c.take.new.self
    c.in-Ok.ensures.others (spared_worked w a.inst.now a.log.now a.self.now mid kept a.q a.p a.down a.ratio c.in_ok-work_values.ensures.worked) (c.in-Ok.ensures.represents a.end basis)
    c.len-next.result number (subst (λ w. settle w (exchanged a.inst.now (after mid.state (Swap a.q a.p a.end)) c.len-next.result mid.factors a.p a.q) ≡ Some (Some c.follow.new.self.factors))
    c.in_ok-work_values.ensures.width (c.in-Ok.ensures.followed a.end basis)) c.take.ensures)

pub returns-in-Err-clause-log_kept : goal.returns-in-Err-clause-log_kept
returns-in-Err-clause-log_kept g c = taken_off c.args.log.now c.push.new.self c.pop.new.self _ c.in_ok-push.ensures.ok c.pop.ensures.rest

pub returns-in-Err-clause-refusal : goal.returns-in-Err-clause-refusal
returns-in-Err-clause-refusal g c =
    let w = g.A.Arith.width c.args.arith.now in
    let a = c.args in
    let kept = c.in_ok-work_values.ensures.spared in
    let mid = c.work_values.new.self in
    let stands = spared_iterate w a.inst.now a.log.now a.self.now mid kept a.q c.requires.stands in
    let enters = spared_enters w a.inst.now a.log.now a.self.now mid kept a.q c.requires.enters in
    let entered = spared_entered w a.inst.now a.log.now a.self.now mid kept a.q _ c.requires.entered in
    let basis = swap_basis w a.inst.now c.requires.well_formed a.log.now mid stands (kept.is_priced ∙ c.requires.priced) a.q enters a.down a.p a.end a.ratio entered in
    let number = c.len-next.ensures ∙ ap (λ l. length l) c.in_ok-push.ensures.ok ∙ length-append a.log.now (Swap a.q a.p a.end ∷ []) in
    subst (λ s. Explains (Cause w a.inst.now (length a.log.now) s a.self.now.factors) c.in-Err.refusal) kept.state
    (subst (λ f. Explains (Cause w a.inst.now (length a.log.now) mid.state f) c.in-Err.refusal) kept.factors
    (explained c.in-Err.refusal
    (λ none. swap_unfollowed w a.inst.now c.requires.well_formed a.log.now mid stands (kept.is_priced ∙ c.requires.priced) a.q enters a.down a.p a.end a.ratio entered c.len-next.result number
    (subst (λ w. settle w (exchanged a.inst.now (after mid.state (Swap a.q a.p a.end)) c.len-next.result mid.factors a.p a.q) ≡ None) c.in_ok-work_values.ensures.width none))
    (c.in-Err.ensures.refusal a.end basis)))

pub returns-in-Ok-clause-followed : goal.returns-in-Ok-clause-followed
returns-in-Ok-clause-followed g c =
    let w = g.A.Arith.width c.args.arith.now in
    let a = c.args in
    let it = a.self.now in
    let kept = c.in_ok-work_values.ensures.spared in
    let mid = c.work_values.new.self in
    let e = Swap a.q a.p a.end in
    let made = c.follow.new.self.factors in
    let stands = spared_iterate w a.inst.now a.log.now it mid kept a.q c.requires.stands in
    let enters = spared_enters w a.inst.now a.log.now it mid kept a.q c.requires.enters in
    let entered = spared_entered w a.inst.now a.log.now it mid kept a.q _ c.requires.entered in
    let basis = swap_basis w a.inst.now c.requires.well_formed a.log.now mid stands (kept.is_priced ∙ c.requires.priced) a.q enters a.down a.p a.end a.ratio entered in
    let number = c.len-next.ensures ∙ ap (λ l. length l) c.in_ok-push.ensures.ok ∙ length-append a.log.now (e ∷ []) in
    subst (λ f. settle w (exchanged a.inst.now (after it.state e) (length a.log.now + 1) it.factors a.p a.q) ≡ Some (Some f)) (sym c.take.ensures.factors)
    (subst (λ n. settle w (exchanged a.inst.now (after it.state e) n it.factors a.p a.q) ≡ Some (Some made)) number
    (subst (λ f. settle w (exchanged a.inst.now (after it.state e) c.len-next.result f a.p a.q) ≡ Some (Some made)) kept.factors
    (subst (λ s. settle w (exchanged a.inst.now (after s e) c.len-next.result mid.factors a.p a.q) ≡ Some (Some made)) kept.state
    (subst (λ w. settle w (exchanged a.inst.now (after mid.state e) c.len-next.result mid.factors a.p a.q) ≡ Some (Some made)) c.in_ok-work_values.ensures.width (c.in-Ok.ensures.followed a.end basis)))))
