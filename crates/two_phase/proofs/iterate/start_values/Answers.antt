use Rattle.std.proofs.Common.{length, sym, ◌∙◌, ap, subst}
use Rattle.lp_run.specs.Solution.{Values}
use Rattle.lp_run.specs.State.{start_of}
use Rattle.plain_table.proofs.Memories.{written}
use Rattle.two_phase.proofs.Starting.{start_values_are}
use Rattle.two_phase.proofs.UnfitStarts.{starts_unfit}
use Rattle.two_phase.proofs.iterate.start_values.Goals as goal

pub returns-in-Ok-clause-values : goal.returns-in-Ok-clause-values
returns-in-Ok-clause-values g c =
    let inst = c.args.inst.now in
    let out = c.work_start_values.new.out in
    subst (Values inst (start_of inst)) (sym (written c.in_ok-values.values c.deref_mut.result.now out c.deref_mut.ensures.value c.work_start_values.auto.out))
    (start_values_are inst c.rows.ensures.well_formed out
    (c.work_start_values.auto.out ∙ ap (λ xs. length xs) c.deref_mut.ensures.value ∙ c.in_ok-values.ensures ∙ c.rows.ensures.count) c.in-Ok.ensures.values)

pub returns-in-Err-clause-refusal : goal.returns-in-Err-clause-refusal
returns-in-Err-clause-refusal g c = starts_unfit (g.A.Arith.width c.args.arith.now) c.args.inst.now c.rows.ensures.well_formed c.in-Err.field-0 c.in-Err.ensures.answer
