use Rattle.std.proofs.Common.{◌≤◌, length, sym, subst}
use Rattle.switch_desk.specs.Answers.{IsGlimpseAt, StandsSo}
use Rattle.switch_desk.specs.declared.glimpse.Glimpse.{Glimpse}
use Rattle.switch_desk.specs.Lineages.{lineage_of}
use Rattle.switch_desk.proofs.Sessions.{stands_now}
use Rattle.switch_desk.proofs.locked.Locked.glimpse.Goals as goal

pub returns : goal.returns
returns g c =
    let width = g.A.Arith.width in
    let b = c.self.inside.board in
    let l = lineage_of width b in
    let seen : Glimpse = record { standing = c.standing.result; mode = c.mode.result; number = c.number.result; epoch = c.epoch.result; updates = c.updates.result } in
    subst (λ b. IsGlimpseAt (lineage_of width b) (length b.log) seen) c.self.view_is
    (record {
      number = c.number.ensures;
      stands = subst (StandsSo l (length b.log)) (sym c.standing.ensures.value) (stands_now width b c.self.invariant.0);
      early = subst (λ n. n ≤ length b.log) (sym c.epoch.ensures) c.self.invariant.0.early;
    })
