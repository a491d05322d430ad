-- The row of the pivot becomes the line, one without an entry stays, and another one is worked.
use Rattle.std.proofs.Common.{eqb, ne_eqb, sym, ◌∙◌}
use Rattle.std.proofs.lemmas.Bool.{eq-eqb}
use Rattle.sparse_steps.proofs.Steps.{apart}
use Rattle.plain_table.proofs.Eliminations.{judged_other, none_eliminates, none_lists, own_eliminates, own_lists, row_eliminated}
use Rattle.plain_table.proofs.rows.eliminate.Goals as goal

pub returns-then-own-clause-answer : goal.returns-then-own-clause-answer
returns-then-own-clause-answer g c =
    let e = c.args.elimination.now in
    own_lists _ e.number c.args.index e.column (eqb c.args.index e.position) e.line.now c.args.row.now (eq-eqb _ _ c.if-own.true)

pub returns-then-own-clause-eliminated : goal.returns-then-own-clause-eliminated
returns-then-own-clause-eliminated g c =
    let e = c.args.elimination.now in
    own_eliminates (g.A.Arith.width c.args.arith.now) e.number c.args.index e.column (eqb c.args.index e.position) e.line.now c.args.row.now e.support.now c.args.out.now (eq-eqb _ _ c.if-own.true)

pub returns-then-is_zero-clause-answer : goal.returns-then-is_zero-clause-answer
returns-then-is_zero-clause-answer g c =
    let e = c.args.elimination.now in
    none_lists _ e.number c.args.index e.column (eqb c.args.index e.position) e.line.now c.args.row.now (sym c.get-factor.ensures ∙ c.is_zero.ensures.0 c.if-is_zero.true)

pub returns-then-is_zero-clause-eliminated : goal.returns-then-is_zero-clause-eliminated
returns-then-is_zero-clause-eliminated g c =
    let e = c.args.elimination.now in
    none_eliminates (g.A.Arith.width c.args.arith.now) e.number c.args.index e.column (eqb c.args.index e.position) e.line.now c.args.row.now e.support.now c.args.out.now (ne_eqb _ _ c.if-own.false)
    (sym c.get-factor.ensures ∙ c.is_zero.ensures.0 c.if-is_zero.true)

pub returns-clause-answer : goal.returns-clause-answer
returns-clause-answer g c =
    let e = c.args.elimination.now in
    judged_other _ e.number c.args.index e.column (eqb c.args.index e.position) e.line.now c.args.row.now c.set_less.result _ c.get-factor.result (ne_eqb _ _ c.if-own.false) c.get-factor.ensures
    (apart _ _ c.is_zero.ensures c.if-is_zero.false) c.as_slice.ensures c.set_less.ensures.answer

pub returns-clause-eliminated : goal.returns-clause-eliminated
returns-clause-eliminated g c =
    let e = c.args.elimination.now in
    row_eliminated (g.A.Arith.width c.args.arith.now) e.number c.args.index e.column (eqb c.args.index e.position) e.line.now c.args.row.now c.set_less.new.self c.as_slice.result.now e.support.now
    c.get-factor.result c.set_less.result c.requires.elimination.support (ne_eqb _ _ c.if-own.false) c.get-factor.ensures
    (apart _ _ c.is_zero.ensures c.if-is_zero.false) c.as_slice.ensures c.set_less.ensures.less
