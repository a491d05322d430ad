use Rattle.std.proofs.Common.{Some, sym, ◌∙◌, ap, subst}
use Rattle.factor_model.specs.Factors.{Factors, AreFactors}
use Rattle.markowitz_lu.specs.Columns.{matrix_of}
use Rattle.ftran_btran.specs.Kept.{size}
use Rattle.ftran_btran.proofs.Making.{made-represents, made-rows, made-within, made-few, made-settles}
use Rattle.ftran_btran.proofs.Factors.make.Goals as goal

pub of-requires-clause-within : goal.of-requires-clause-within
of-requires-clause-within g c = made-within (g.A.Arith.width c.args.arith.now) c.args.m c.args.base (matrix_of c.args.columns.now) c.in_ok-etas.etas c.in_ok-etas.upper c.in_ok-etas.ensures.settled

pub of-requires-clause-few : goal.of-requires-clause-few
of-requires-clause-few g c = made-few (g.A.Arith.width c.args.arith.now) c.args.m c.args.base (matrix_of c.args.columns.now) c.in_ok-etas.etas c.in_ok-etas.upper c.in_ok-etas.ensures.settled

pub returns-clause-settled : goal.returns-clause-settled
returns-clause-settled g c =
    let w = g.A.Arith.width c.args.arith.now in
    let b = matrix_of c.args.columns.now in
    made-settles w c.args.m c.args.base b c.in_ok-etas.etas c.in_ok-etas.upper c.in_ok-etas.ensures.settled ∙ ap (λ (f : Factors). Some (Some f)) (sym c.of.ensures)

pub returns-clause-represents : goal.returns-clause-represents
returns-clause-represents g c =
    let w = g.A.Arith.width c.args.arith.now in
    let b = matrix_of c.args.columns.now in
    subst (λ (f : Factors). AreFactors c.args.m f b) (sym c.of.ensures) (made-represents w c.args.m c.args.base b c.in_ok-etas.etas c.in_ok-etas.upper c.in_ok-etas.ensures.settled)

pub returns-clause-size : goal.returns-clause-size
returns-clause-size g c =
    let w = g.A.Arith.width c.args.arith.now in
    let b = matrix_of c.args.columns.now in
    ap size c.of.ensures ∙ made-rows w c.args.m c.args.base b c.in_ok-etas.etas c.in_ok-etas.upper c.in_ok-etas.ensures.settled
