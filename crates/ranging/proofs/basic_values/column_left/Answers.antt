use Rattle.std.proofs.Common.{◌≡◌, map, Some, sym, ◌∙◌, ap, arith}
use Rattle.std.proofs.lemmas.Grind.{common_steps}
use Rattle.rational.proofs.Settling.{settle-answer}
use Rattle.sparse_cols.specs.Work.{gathered}
use Rattle.ranging.specs.Causes.{rests_taken}
use Rattle.ranging.proofs.basic_values.column_left.Goals as goal

pub returns-clause-column : goal.returns-clause-column
returns-clause-column g c =
    let w = g.A.Arith.width c.args.arith.now in
    let written : c.deref.result.now ≡ c.put_left.new.out = grind (arith, common_steps, c.deref.ensures.value, c.as_mut_slice.ensures, c.put_left.auto.out) in
    c.in_ok-stored.ensures ∙ ap (λ v. gathered (map Some v)) (written ∙ sym (settle-answer w (rests_taken c.args.inst.now c.args.state.now) c.put_left.new.out c.in_ok-put_left.ensures.settled))
