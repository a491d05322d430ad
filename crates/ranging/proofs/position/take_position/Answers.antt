use Rattle.std.proofs.Common.{◌≡◌, length, subst, arith}
use Rattle.std.proofs.lemmas.Grind.{common_steps}
use Rattle.ranging.specs.Inner.Found.{RisesFor}
use Rattle.ranging.proofs.Rising.{rises_earlier, rises_later, rises_written}
use Rattle.ranging.proofs.position.take_position.Goals as goal

pub returns-clause-rose : goal.returns-clause-rose
returns-clause-rose g c =
    let old = c.args.limits.now in
    let before = g.A.Arith.unfit_count c.args.arith.now in
    let after = g.A.Arith.unfit_count c.take_moves.new.arith in
    let costs_kept : length c.take_cost.new.limits ≡ length old.costs.items = grind (arith, common_steps, c.take_cost.auto.limits, c.as_mut_slice.ensures) in
    let rights_kept : length c.take_moves.new.rights ≡ length old.rights.items = grind (arith, common_steps, c.take_moves.ensures.length, c.as_mut_slice-2.ensures) in (
      rises_written old.costs.items c.take_cost.new.limits before after old.costs.len (grind (arith, common_steps, c.as_mut_slice.ensures)) costs_kept
          (rises_later old.costs.items c.take_cost.new.limits before (g.A.Arith.unfit_count c.take_cost.new.arith) after c.take_moves.ensures.unfit
          (subst (λ xs. RisesFor before (g.A.Arith.unfit_count c.take_cost.new.arith) xs c.take_cost.new.limits) c.as_mut_slice.ensures.value c.take_cost.ensures.rose)),
      rises_written old.rights.items c.take_moves.new.rights before after old.rights.len (grind (arith, common_steps, c.as_mut_slice-2.ensures)) rights_kept
          (rises_earlier old.rights.items c.take_moves.new.rights before (g.A.Arith.unfit_count c.take_cost.new.arith) after c.take_cost.ensures.unfit
          (subst (λ xs. RisesFor (g.A.Arith.unfit_count c.take_cost.new.arith) after xs c.take_moves.new.rights) c.as_mut_slice-2.ensures.value c.take_moves.ensures.rose)),
    )
