-- Each step takes the next product.
use Rattle.std.proofs.Common.{◌≡◌, ℕ, ◌+◌, ◌<◌, ◌∷◌, drop, length, length-drop, sym, ap, subst, ◌∙◌, refl, arith}
use Rattle.rational.specs.Rational.{ℚ}
use Rattle.rational.specs.Worked.{settle, less}
use Rattle.rational.proofs.OrderLaws.{one_unless_zero-le}
use Rattle.rational.proofs.Loops.{step_settles, step_stops, all_worked}
use Rattle.factor_model.specs.Factoring.{with_entry}
use Rattle.factor_model.specs.Update.{AreApart}
use Rattle.cross_links.specs.Cells.{cell}
use Rattle.markowitz_lu.specs.Inner.Lines.{less_line}
use Rattle.markowitz_lu.specs.Inner.Links.{IsLinkAt, IsPut}
use Rattle.markowitz_lu.proofs.LineSteps.{AreLinked, stopped, alike-all, drop_next, all_linked, still_linked, line_parts, line_ends}
use Rattle.markowitz_lu.proofs.rows.less_line.Goals as goal

pub loop-p-init : goal.loop-p-init
loop-p-init g c = record {
  left = refl;
  alike = record { size = refl; active_rows = refl; active_cols = refl };
  matrix = c.requires.matrix;
  no_zero = c.requires.no_zero;
  apart = c.requires.apart;
  linked = all_linked c.args.cross.now c.args.i c.args.index.now c.args.row.now c.requires.links;
  width = refl;
  unfit = refl;
  work = omega arith;
}

pub returns-in_err-x-clause-fault : goal.returns-in_err-x-clause-fault
returns-in_err-x-clause-fault g c =
    let row = c.args.row.now in
    let j = c.loop-p.p-index in
    let a = c.loop-p.cross in
    let i = c.args.i in
    let k = c.args.k in
    let pair : ℕ × ℚ = c.loop-p-item.result in
    let lt : j < length row = omega arith in
    let next = drop_next row j pair lt c.loop-p-item.is in
    let linked : AreLinked a i c.args.index.now (pair ∷ drop (j + 1) row) = subst (AreLinked a i c.args.index.now) next c.loop-p.invariant.linked in
    let read : c.value-old.result ≡ cell a i pair.0 = c.value-old.ensures i pair.0 (subst (IsLinkAt a i pair.0) (sym c.at-link.ensures) linked.0) in
    stopped _ (less_line i k (cell c.args.cross.now) row) _
    (step_stops _ _ c.loop-p.invariant.width (less c.value-old.result k pair.1) (λ y. less_line i k (with_entry (cell a) i pair.0 y) (drop (j + 1) row)) _
    (line_parts i k row j pair (cell a) c.value-old.result lt c.loop-p-item.is read) _ c.loop-p.invariant.left c.in_err-x.ensures.settled)
    c.from_residual.ensures.1

pub loop-p-preserved : goal.loop-p-preserved
loop-p-preserved g c =
    let row = c.args.row.now in
    let j = c.loop-p.p-index in
    let a = c.loop-p.cross in
    let i = c.args.i in
    let k = c.args.k in
    let pair : ℕ × ℚ = c.loop-p-item.result in
    let w = g.A.Arith.width c.args.arith.now in
    let lt : j < length row = omega arith in
    let next = drop_next row j pair lt c.loop-p-item.is in
    let linked : AreLinked a i c.args.index.now (pair ∷ drop (j + 1) row) = subst (AreLinked a i c.args.index.now) next c.loop-p.invariant.linked in
    let apart : AreApart c.args.cross.now.size (pair ∷ drop (j + 1) row) = subst (AreApart c.args.cross.now.size) next c.loop-p.invariant.apart in
    let read : c.value-old.result ≡ cell a i pair.0 = c.value-old.ensures i pair.0 (subst (IsLinkAt a i pair.0) (sym c.at-link.ensures) linked.0) in
    let put : IsPut a i pair.0 c.in_ok-x.x c.put.new.cross = c.in_ok-put.ensures in
    record {
      left =
          ap (λ (f : ℕ → ℕ → ℚ). settle w (less_line i k f (drop (j + 1) row))) put.cells
          ∙ step_settles _ _ c.loop-p.invariant.width (less c.value-old.result k pair.1) (λ y. less_line i k (with_entry (cell a) i pair.0 y) (drop (j + 1) row)) _
          (line_parts i k row j pair (cell a) c.value-old.result lt c.loop-p-item.is read) _ c.loop-p.invariant.left _ c.in_ok-x.ensures.settled;
      alike = alike-all c.args.cross.now a c.put.new.cross c.loop-p.invariant.alike put.alike;
      matrix = put.matrix;
      no_zero = put.no_zero;
      apart = apart.2;
      linked = still_linked a c.put.new.cross i pair.0 c.in_ok-x.x c.args.index.now (drop (j + 1) row) put apart.1 linked.1;
      width = c.in_ok-x.ensures.width ∙ c.loop-p.invariant.width;
      unfit = c.in_ok-x.ensures.unfit ∙ c.loop-p.invariant.unfit;
      work = omega (arith, length-drop j row, length-drop (j + 1) row, one_unless_zero-le k, c.in_ok-x.ensures.work, c.loop-p.invariant.work);
    }

pub returns-in_err-x-clause-work : goal.returns-in_err-x-clause-work
returns-in_err-x-clause-work g c = omega (arith, length-drop c.loop-p.p-index c.args.row.now, one_unless_zero-le c.args.k, c.in_err-x.ensures.work, c.loop-p.invariant.work)

pub returns-clause-settled : goal.returns-clause-settled
returns-clause-settled g c =
    all_worked _ _ _ _ (line_ends c.args.i c.args.k c.args.row.now c.loop-p.p-index (cell c.loop-p.cross) (omega arith)) c.loop-p.invariant.left
