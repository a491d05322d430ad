-- Each step works the next multiplier and its row.
use Rattle.std.proofs.Common.{◌≡◌, ℕ, ◌+◌, ◌<◌, List, [], ◌∷◌, None, drop, length, replicate, sym, ap, subst, ◌∙◌, refl, arith}
use Rattle.rational.specs.Rational.{ℚ}
use Rattle.rational.specs.Worked.{bind, settle, quotient}
use Rattle.rational.proofs.Loops.{step_settles, step_stops, all_worked}
use Rattle.sparse_cols.specs.Sparse.{Sparse, insert_pair}
use Rattle.factor_model.specs.Update.{AreApart}
use Rattle.cross_links.specs.Cells.{cell}
use Rattle.markowitz_lu.specs.Inner.Lines.{less_line, less_lines}
use Rattle.markowitz_lu.proofs.LineSteps.{AreAbsent, stopped, stops_too, handed_on, quotient_stops, alike-all, drop_next, none_yet, still_absent, lines_parts, lines_left, line_next, lines_end, one_more}
use Rattle.markowitz_lu.proofs.rows.eliminate.Goals as goal

pub loop-i-init : goal.loop-i-init
loop-i-init g c =
    let none : c.empty-multipliers.result.pairs ≡ [] = ap (λ (k : Sparse ℚ). k.pairs) c.empty-multipliers.ensures.value in
    record {
      left = ap (λ (ks : List (ℕ × ℚ)). settle (g.A.Arith.width c.args.arith.now) (less_lines c.args.pivot c.args.row.now (cell c.args.cross.now) ks c.args.column.now)) none;
      len = ap (λ (k : Sparse ℚ). k.length) c.empty-multipliers.ensures.value;
      alike = record { size = refl; active_rows = refl; active_cols = refl };
      matrix = c.requires.matrix;
      no_zero = c.requires.no_zero;
      apart = c.requires.column;
      absent = subst (λ (ks : List (ℕ × ℚ)). AreAbsent ks c.args.column.now) (sym none) (none_yet c.args.column.now);
      index = c.requires.index;
      width = refl;
      unfit = refl;
      work = omega arith;
    }

pub returns-in_err-k-clause-fault : goal.returns-in_err-k-clause-fault
returns-in_err-k-clause-fault g c =
    let column = c.args.column.now in
    let row = c.args.row.now in
    let u = c.args.pivot in
    let j = c.loop-i.i-index in
    let f : ℕ → ℕ → ℚ = cell c.loop-i.cross in
    let ks = c.loop-i.multipliers.pairs in
    let pair : ℕ × ℚ = c.loop-i-item.result in
    let lt : j < length column = omega arith in
    stopped _ (less_lines u row (cell c.args.cross.now) [] column) _
    (step_stops _ _ c.loop-i.invariant.width (quotient pair.1 u) (λ k. bind (less_line pair.0 k f row) (lines_left u row column j pair ks k)) _
    (lines_parts u row column j pair f ks lt c.loop-i-item.is) _ c.loop-i.invariant.left (quotient_stops _ pair.1 u c.in_err-k.ensures.answer))
    c.from_residual.ensures.1

pub returns-in_err-less_line-clause-fault : goal.returns-in_err-less_line-clause-fault
returns-in_err-less_line-clause-fault g c =
    let u = c.args.pivot in
    let row = c.args.row.now in
    let ks = c.loop-i.multipliers.pairs in
    let pair : ℕ × ℚ = c.loop-i-item.result in
    let w = g.A.Arith.width c.args.arith.now in
    let whole = less_lines u row (cell c.args.cross.now) [] c.args.column.now in
    let line = less_line pair.0 c.in_ok-k.k (cell c.loop-i.cross) row in
    handed_on w whole _ c.in_err-less_line.field-0.0
    (stops_too _ w line whole c.in_err-less_line.field-0.0
    (λ none.
    step_stops _ w (c.in_ok-k.ensures.same_width ∙ c.loop-i.invariant.width) line (lines_left u row c.args.column.now c.loop-i.i-index pair ks c.in_ok-k.k) _ refl _
    (line_next u row c.args.column.now c.loop-i.i-index pair (cell c.loop-i.cross) ks (omega arith) c.loop-i-item.is _ w c.loop-i.invariant.width c.in_ok-k.k
    c.in_ok-k.ensures.answer _ c.loop-i.invariant.left)
    none)
    c.in_err-less_line.ensures.fault)
    c.from_residual-in_err-less_line.ensures.1

pub loop-i-preserved : goal.loop-i-preserved
loop-i-preserved g c =
    let column = c.args.column.now in
    let row = c.args.row.now in
    let u = c.args.pivot in
    let j = c.loop-i.i-index in
    let f : ℕ → ℕ → ℚ = cell c.loop-i.cross in
    let ks = c.loop-i.multipliers.pairs in
    let k = c.in_ok-k.k in
    let pair : ℕ × ℚ = c.loop-i-item.result in
    let w = g.A.Arith.width c.args.arith.now in
    let lt : j < length column = omega arith in
    let next = drop_next column j pair lt c.loop-i-item.is in
    let apart : AreApart c.args.m (pair ∷ drop (j + 1) column) = subst (AreApart c.args.m) next c.loop-i.invariant.apart in
    let absent : AreAbsent ks (pair ∷ drop (j + 1) column) = subst (AreAbsent ks) next c.loop-i.invariant.absent in
    let kept : c.insert.new.self.pairs ≡ insert_pair pair.0 k ks = ap (λ (s : Sparse ℚ). s.pairs) c.in_ok-insert.ensures.ok in
    record {
      left =
          ap (λ (qs : List (ℕ × ℚ)). settle w (less_lines u row (cell c.less_line.new.cross) qs (drop (j + 1) column))) kept
          ∙ step_settles _ w (c.in_ok-k.ensures.same_width ∙ c.loop-i.invariant.width) (less_line pair.0 k f row) (lines_left u row column j pair ks k) _ refl _
          (line_next u row column j pair f ks lt c.loop-i-item.is _ w c.loop-i.invariant.width k c.in_ok-k.ensures.answer _ c.loop-i.invariant.left) (cell c.less_line.new.cross)
          c.in_ok-less_line.ensures.settled;
      len = ap (λ (s : Sparse ℚ). s.length) c.in_ok-insert.ensures.ok ∙ c.loop-i.invariant.len;
      alike = alike-all c.args.cross.now c.loop-i.cross c.less_line.new.cross c.loop-i.invariant.alike c.in_ok-less_line.ensures.alike;
      matrix = c.in_ok-less_line.ensures.matrix;
      no_zero = c.in_ok-less_line.ensures.no_zero;
      apart = apart.2;
      absent = subst (λ (qs : List (ℕ × ℚ)). AreAbsent qs (drop (j + 1) column)) (sym kept) (still_absent pair.0 k ks (drop (j + 1) column) apart.1 absent.1);
      index = c.clear.ensures ∙ ap (λ n. replicate n None) (c.index_row.ensures.len ∙ c.loop-i.invariant.alike.size ∙ c.requires.size);
      width = c.in_ok-less_line.ensures.width ∙ c.in_ok-k.ensures.same_width ∙ c.loop-i.invariant.width;
      unfit = c.in_ok-less_line.ensures.unfit ∙ c.in_ok-k.ensures.unfit ∙ c.loop-i.invariant.unfit;
      work = omega (arith, one_more (1 + length row) (length (drop j column)) (length (drop (j + 1) column)) (omega (arith, ap length next)), c.loop-i.invariant.work, c.in_ok-less_line.ensures.work, c.in_ok-k.ensures.work);
    }

pub returns-clause-settled : goal.returns-clause-settled
returns-clause-settled g c =
    all_worked _ _ _ _ (lines_end c.args.pivot c.args.row.now c.args.column.now c.loop-i.i-index (cell c.loop-i.cross) c.loop-i.multipliers.pairs (omega arith)) c.loop-i.invariant.left
