use Rattle.std.proofs.Common.{◌≡◌, None, sym, subst}
use Rattle.rational.specs.Worked.{settle}
use Rattle.basis_solves.specs.Bases.{IsBasis}
use Rattle.factor_run.specs.Built.{made_anew}
use Rattle.ranging.specs.Causes.{GivesUp, made}
use Rattle.ranging.proofs.Reached.{explained, made_for, reached_basis}
use Rattle.ranging.proofs.factors.make.Goals as goal

pub factors_of-requires-after_bounds : goal.factors_of-requires-after_bounds
factors_of-requires-after_bounds g c _ _ =
    let inst = c.args.inst.now in
    let s = c.args.state.now in
    (s, subst (IsBasis inst s) (sym c.basis.ensures) (reached_basis inst s c.requires))

pub returns-clause-made : goal.returns-clause-made
returns-clause-made g c =
    let inst = c.args.inst.now in
    let s = c.args.state.now in
    made_for (g.A.Arith.width c.args.arith.now) inst s c.factors_of.result
    (c.factors_of.ensures.made s (subst (IsBasis inst s) (sym c.basis.ensures) (reached_basis inst s c.requires)))

pub returns-clause-refusal : goal.returns-clause-refusal
returns-clause-refusal g c =
    let inst = c.args.inst.now in
    let s = c.args.state.now in
    let w = g.A.Arith.width c.args.arith.now in
    explained (settle w (made_anew inst s 0) ≡ None) (GivesUp w inst s) made c.factors_of.result
    (c.factors_of.ensures.refusal s (subst (IsBasis inst s) (sym c.basis.ensures) (reached_basis inst s c.requires)))
