use Rattle.std.proofs.Common.{◌≡◌, ◌≤◌, ◌∙◌, sym, ap, subst, refl}
use Rattle.std.specs.Prelude.{IsSome}
use Rattle.counting.specs.Counting.{HasEachOnce}
use Rattle.switch_gate.proofs.Allowed.{ends}
use Rattle.switch_gate.proofs.gate.Gate.close.Goals as goal

pub unwrap-value-requires : goal.unwrap-value-requires
unwrap-value-requires g c =
    let pass = c.args.pass in
    let end = ends g.T.Numbered.number g.T.Numbered.lineage _ _ _ _ _ c.close_with-closed.ensures.values.2 pass.idle pass.some_parts c.requires.all c.take.result c.take.ensures.value in
    subst (λ o. IsSome o) (sym end.1) refl

pub returns : goal.returns
returns g c =
    let pass = c.args.pass in
    let end = ends g.T.Numbered.number g.T.Numbered.lineage _ _ _ _ _ c.close_with-closed.ensures.values.2 pass.idle pass.some_parts c.requires.all c.take.result c.take.ensures.value in
    let same : end.0 ≡ c.unwrap-value.result = cc (c.unwrap-value.ensures, end.1) in
    record {
      closed = refl;
      lineage = ap g.T.Numbered.lineage (sym same) ∙ end.2;
      seen = subst (λ x. pass.seat.me.0.seen ≤ g.T.Numbered.number x) same end.3;
      once = subst (λ x. HasEachOnce pass.seat.me.0.mine (g.T.Numbered.number x)) same end.4;
    }
