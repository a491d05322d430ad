-- The row and the column of the pivot are read, and what the elimination leaves is kept.
use Rattle.std.proofs.Common.{◌≡◌, ℕ, ◌<◌, List, [], ◌∷◌, sym, ap, subst, ◌∙◌, refl, arith}
use Rattle.rational.specs.Rational.{ℚ}
use Rattle.factor_model.specs.Factoring.{pivoted}
use Rattle.cross_links.specs.Matrix.{Entry, Matrix, col_pairs, row_of, col_of}
use Rattle.cross_links.specs.Cells.{cell}
use Rattle.markowitz_lu.specs.declared.stage.Stage.{Stage}
use Rattle.markowitz_lu.specs.Inner.Kept.{IsKeptPivot}
use Rattle.markowitz_lu.specs.Inner.Lines.{row_pairs, less_lines}
use Rattle.markowitz_lu.proofs.LineSteps.{stops_too, handed_on}
use Rattle.markowitz_lu.proofs.PivotSteps.{IsCleared, cleared_no_zero, read_row_apart, read_column_apart, read_active_cols, read_active_rows, order_len, rows_len, pairs_apart, work-most, stops-pivot, settles-pivot, keeps-pivot}
use Rattle.markowitz_lu.proofs.stage.Stage.pivot.Goals as goal

pub eliminate-requires-clause-no_zero : goal.eliminate-requires-clause-no_zero
eliminate-requires-clause-no_zero g c _ _ =
    let m0 = c.requires.kept.0 in
    let e = c.requires.kept.1 in
    let reached = c.requires.kept.2 in
    let kept = c.requires.kept.3 in
    let s = c.args.self.now in
    let x : Entry = c.entry-r.result in
    let b = c.cancel.new.self in
    let d = c.remove_row.new.self in
    let f = c.remove_col.new.self in
    let cl : IsCleared s.cross c.args.link x b d f = record {
      here = c.entry-r.ensures.entry;
      first = c.cancel.ensures.matrix;
      cancelled = c.cancel.ensures.cancelled;
      second = c.remove_row.ensures.matrix;
      without_row = c.remove_row.ensures.removed;
      third = c.remove_col.ensures.matrix;
      without_col = c.remove_col.ensures.removed;
      second_rows = c.remove_row.ensures.active_rows;
      second_cols = c.remove_row.ensures.active_cols;
      third_rows = c.remove_col.ensures.active_rows;
      third_cols = c.remove_col.ensures.active_cols;
      size = c.remove_col.ensures.size ∙ c.remove_row.ensures.size ∙ ap (λ (m : Matrix). m.size) c.cancel.ensures.cancelled;
    } in
    let row_is : c.deref.result.now ≡ row_pairs b x.0 = c.deref.ensures.value ∙ c.in_ok-read_row.ensures in
    let column_is : c.deref-2.result.now ≡ col_pairs b x.1 = c.deref-2.ensures.value ∙ c.in_ok-read_col.ensures in
    let below : x.1 < c.args.m = omega (arith, kept.size, c.entry-r.ensures.col) in
    cleared_no_zero c.args.m m0 e reached s kept c.args.link x b d f cl below c.deref.result.now c.deref-2.result.now row_is column_is

pub eliminate-requires-clause-row : goal.eliminate-requires-clause-row
eliminate-requires-clause-row g c _ _ =
    let m0 = c.requires.kept.0 in
    let e = c.requires.kept.1 in
    let reached = c.requires.kept.2 in
    let kept = c.requires.kept.3 in
    let s = c.args.self.now in
    let x : Entry = c.entry-r.result in
    let b = c.cancel.new.self in
    let d = c.remove_row.new.self in
    let f = c.remove_col.new.self in
    let cl : IsCleared s.cross c.args.link x b d f = record {
      here = c.entry-r.ensures.entry;
      first = c.cancel.ensures.matrix;
      cancelled = c.cancel.ensures.cancelled;
      second = c.remove_row.ensures.matrix;
      without_row = c.remove_row.ensures.removed;
      third = c.remove_col.ensures.matrix;
      without_col = c.remove_col.ensures.removed;
      second_rows = c.remove_row.ensures.active_rows;
      second_cols = c.remove_row.ensures.active_cols;
      third_rows = c.remove_col.ensures.active_rows;
      third_cols = c.remove_col.ensures.active_cols;
      size = c.remove_col.ensures.size ∙ c.remove_row.ensures.size ∙ ap (λ (m : Matrix). m.size) c.cancel.ensures.cancelled;
    } in
    let row_is : c.deref.result.now ≡ row_pairs b x.0 = c.deref.ensures.value ∙ c.in_ok-read_row.ensures in
    let column_is : c.deref-2.result.now ≡ col_pairs b x.1 = c.deref-2.ensures.value ∙ c.in_ok-read_col.ensures in
    let below : x.1 < c.args.m = omega (arith, kept.size, c.entry-r.ensures.col) in
    read_row_apart c.args.m m0 e reached s kept c.args.link x b d f cl below c.deref.result.now c.deref-2.result.now row_is column_is

pub eliminate-requires-clause-active_cols : goal.eliminate-requires-clause-active_cols
eliminate-requires-clause-active_cols g c _ _ =
    let m0 = c.requires.kept.0 in
    let e = c.requires.kept.1 in
    let reached = c.requires.kept.2 in
    let kept = c.requires.kept.3 in
    let s = c.args.self.now in
    let x : Entry = c.entry-r.result in
    let b = c.cancel.new.self in
    let d = c.remove_row.new.self in
    let f = c.remove_col.new.self in
    let cl : IsCleared s.cross c.args.link x b d f = record {
      here = c.entry-r.ensures.entry;
      first = c.cancel.ensures.matrix;
      cancelled = c.cancel.ensures.cancelled;
      second = c.remove_row.ensures.matrix;
      without_row = c.remove_row.ensures.removed;
      third = c.remove_col.ensures.matrix;
      without_col = c.remove_col.ensures.removed;
      second_rows = c.remove_row.ensures.active_rows;
      second_cols = c.remove_row.ensures.active_cols;
      third_rows = c.remove_col.ensures.active_rows;
      third_cols = c.remove_col.ensures.active_cols;
      size = c.remove_col.ensures.size ∙ c.remove_row.ensures.size ∙ ap (λ (m : Matrix). m.size) c.cancel.ensures.cancelled;
    } in
    let row_is : c.deref.result.now ≡ row_pairs b x.0 = c.deref.ensures.value ∙ c.in_ok-read_row.ensures in
    let column_is : c.deref-2.result.now ≡ col_pairs b x.1 = c.deref-2.ensures.value ∙ c.in_ok-read_col.ensures in
    let below : x.1 < c.args.m = omega (arith, kept.size, c.entry-r.ensures.col) in
    read_active_cols c.args.m m0 e reached s kept c.args.link x b d f cl below c.deref.result.now c.deref-2.result.now row_is column_is

pub eliminate-requires-clause-column : goal.eliminate-requires-clause-column
eliminate-requires-clause-column g c _ _ =
    let m0 = c.requires.kept.0 in
    let e = c.requires.kept.1 in
    let reached = c.requires.kept.2 in
    let kept = c.requires.kept.3 in
    let s = c.args.self.now in
    let x : Entry = c.entry-r.result in
    let b = c.cancel.new.self in
    let d = c.remove_row.new.self in
    let f = c.remove_col.new.self in
    let cl : IsCleared s.cross c.args.link x b d f = record {
      here = c.entry-r.ensures.entry;
      first = c.cancel.ensures.matrix;
      cancelled = c.cancel.ensures.cancelled;
      second = c.remove_row.ensures.matrix;
      without_row = c.remove_row.ensures.removed;
      third = c.remove_col.ensures.matrix;
      without_col = c.remove_col.ensures.removed;
      second_rows = c.remove_row.ensures.active_rows;
      second_cols = c.remove_row.ensures.active_cols;
      third_rows = c.remove_col.ensures.active_rows;
      third_cols = c.remove_col.ensures.active_cols;
      size = c.remove_col.ensures.size ∙ c.remove_row.ensures.size ∙ ap (λ (m : Matrix). m.size) c.cancel.ensures.cancelled;
    } in
    let row_is : c.deref.result.now ≡ row_pairs b x.0 = c.deref.ensures.value ∙ c.in_ok-read_row.ensures in
    let column_is : c.deref-2.result.now ≡ col_pairs b x.1 = c.deref-2.ensures.value ∙ c.in_ok-read_col.ensures in
    let below : x.1 < c.args.m = omega (arith, kept.size, c.entry-r.ensures.col) in
    read_column_apart c.args.m m0 e reached s kept c.args.link x b d f cl below c.deref.result.now c.deref-2.result.now row_is column_is

pub eliminate-requires-clause-active_rows : goal.eliminate-requires-clause-active_rows
eliminate-requires-clause-active_rows g c _ _ =
    let m0 = c.requires.kept.0 in
    let e = c.requires.kept.1 in
    let reached = c.requires.kept.2 in
    let kept = c.requires.kept.3 in
    let s = c.args.self.now in
    let x : Entry = c.entry-r.result in
    let b = c.cancel.new.self in
    let d = c.remove_row.new.self in
    let f = c.remove_col.new.self in
    let cl : IsCleared s.cross c.args.link x b d f = record {
      here = c.entry-r.ensures.entry;
      first = c.cancel.ensures.matrix;
      cancelled = c.cancel.ensures.cancelled;
      second = c.remove_row.ensures.matrix;
      without_row = c.remove_row.ensures.removed;
      third = c.remove_col.ensures.matrix;
      without_col = c.remove_col.ensures.removed;
      second_rows = c.remove_row.ensures.active_rows;
      second_cols = c.remove_row.ensures.active_cols;
      third_rows = c.remove_col.ensures.active_rows;
      third_cols = c.remove_col.ensures.active_cols;
      size = c.remove_col.ensures.size ∙ c.remove_row.ensures.size ∙ ap (λ (m : Matrix). m.size) c.cancel.ensures.cancelled;
    } in
    let row_is : c.deref.result.now ≡ row_pairs b x.0 = c.deref.ensures.value ∙ c.in_ok-read_row.ensures in
    let column_is : c.deref-2.result.now ≡ col_pairs b x.1 = c.deref-2.ensures.value ∙ c.in_ok-read_col.ensures in
    let below : x.1 < c.args.m = omega (arith, kept.size, c.entry-r.ensures.col) in
    read_active_rows c.args.m m0 e reached s kept c.args.link x b d f cl below c.deref.result.now c.deref-2.result.now row_is column_is

pub returns-in_err-multipliers-clause-fault : goal.returns-in_err-multipliers-clause-fault
returns-in_err-multipliers-clause-fault g c m0 e reached kept =
    let s = c.args.self.now in
    let x : Entry = c.entry-r.result in
    let b = c.cancel.new.self in
    let d = c.remove_row.new.self in
    let f = c.remove_col.new.self in
    let cl : IsCleared s.cross c.args.link x b d f = record {
      here = c.entry-r.ensures.entry;
      first = c.cancel.ensures.matrix;
      cancelled = c.cancel.ensures.cancelled;
      second = c.remove_row.ensures.matrix;
      without_row = c.remove_row.ensures.removed;
      third = c.remove_col.ensures.matrix;
      without_col = c.remove_col.ensures.removed;
      second_rows = c.remove_row.ensures.active_rows;
      second_cols = c.remove_row.ensures.active_cols;
      third_rows = c.remove_col.ensures.active_rows;
      third_cols = c.remove_col.ensures.active_cols;
      size = c.remove_col.ensures.size ∙ c.remove_row.ensures.size ∙ ap (λ (m : Matrix). m.size) c.cancel.ensures.cancelled;
    } in
    let row_is : c.deref.result.now ≡ row_pairs b x.0 = c.deref.ensures.value ∙ c.in_ok-read_row.ensures in
    let column_is : c.deref-2.result.now ≡ col_pairs b x.1 = c.deref-2.ensures.value ∙ c.in_ok-read_col.ensures in
    let below : x.1 < c.args.m = omega (arith, kept.size, c.entry-r.ensures.col) in
    let w = g.A.Arith.width c.args.arith.now in
    let part = less_lines x.2 c.deref.result.now (cell f) [] c.deref-2.result.now in
    let whole = pivoted c.args.m e (row_of s.cross c.args.link, col_of s.cross c.args.link) in
    handed_on w whole _ c.in_err-multipliers.field-0.0
    (stops_too w w part whole c.in_err-multipliers.field-0.0 (λ none. stops-pivot c.args.m m0 e reached s kept c.args.link x b d f cl below c.deref.result.now c.deref-2.result.now row_is column_is w none) c.in_err-multipliers.ensures.fault)
    c.from_residual-in_err-multipliers.ensures.1

pub returns-in_err-multipliers-clause-work : goal.returns-in_err-multipliers-clause-work
returns-in_err-multipliers-clause-work g c =
    let m0 = c.requires.kept.0 in
    let e = c.requires.kept.1 in
    let reached = c.requires.kept.2 in
    let kept = c.requires.kept.3 in
    let s = c.args.self.now in
    let x : Entry = c.entry-r.result in
    let b = c.cancel.new.self in
    let d = c.remove_row.new.self in
    let f = c.remove_col.new.self in
    let cl : IsCleared s.cross c.args.link x b d f = record {
      here = c.entry-r.ensures.entry;
      first = c.cancel.ensures.matrix;
      cancelled = c.cancel.ensures.cancelled;
      second = c.remove_row.ensures.matrix;
      without_row = c.remove_row.ensures.removed;
      third = c.remove_col.ensures.matrix;
      without_col = c.remove_col.ensures.removed;
      second_rows = c.remove_row.ensures.active_rows;
      second_cols = c.remove_row.ensures.active_cols;
      third_rows = c.remove_col.ensures.active_rows;
      third_cols = c.remove_col.ensures.active_cols;
      size = c.remove_col.ensures.size ∙ c.remove_row.ensures.size ∙ ap (λ (m : Matrix). m.size) c.cancel.ensures.cancelled;
    } in
    let row_is : c.deref.result.now ≡ row_pairs b x.0 = c.deref.ensures.value ∙ c.in_ok-read_row.ensures in
    let column_is : c.deref-2.result.now ≡ col_pairs b x.1 = c.deref-2.ensures.value ∙ c.in_ok-read_col.ensures in
    let below : x.1 < c.args.m = omega (arith, kept.size, c.entry-r.ensures.col) in
    omega (arith, work-most c.args.m m0 e reached s kept c.args.link x b d f cl below c.deref.result.now c.deref-2.result.now row_is column_is, c.eliminate.ensures.work)

pub returns-in_err-keep-clause-work : goal.returns-in_err-keep-clause-work
returns-in_err-keep-clause-work g c =
    let m0 = c.requires.kept.0 in
    let e = c.requires.kept.1 in
    let reached = c.requires.kept.2 in
    let kept = c.requires.kept.3 in
    let s = c.args.self.now in
    let x : Entry = c.entry-r.result in
    let b = c.cancel.new.self in
    let d = c.remove_row.new.self in
    let f = c.remove_col.new.self in
    let cl : IsCleared s.cross c.args.link x b d f = record {
      here = c.entry-r.ensures.entry;
      first = c.cancel.ensures.matrix;
      cancelled = c.cancel.ensures.cancelled;
      second = c.remove_row.ensures.matrix;
      without_row = c.remove_row.ensures.removed;
      third = c.remove_col.ensures.matrix;
      without_col = c.remove_col.ensures.removed;
      second_rows = c.remove_row.ensures.active_rows;
      second_cols = c.remove_row.ensures.active_cols;
      third_rows = c.remove_col.ensures.active_rows;
      third_cols = c.remove_col.ensures.active_cols;
      size = c.remove_col.ensures.size ∙ c.remove_row.ensures.size ∙ ap (λ (m : Matrix). m.size) c.cancel.ensures.cancelled;
    } in
    let row_is : c.deref.result.now ≡ row_pairs b x.0 = c.deref.ensures.value ∙ c.in_ok-read_row.ensures in
    let column_is : c.deref-2.result.now ≡ col_pairs b x.1 = c.deref-2.ensures.value ∙ c.in_ok-read_col.ensures in
    let below : x.1 < c.args.m = omega (arith, kept.size, c.entry-r.ensures.col) in
    omega (arith, work-most c.args.m m0 e reached s kept c.args.link x b d f cl below c.deref.result.now c.deref-2.result.now row_is column_is, c.eliminate.ensures.work)

pub returns-clause-work : goal.returns-clause-work
returns-clause-work g c =
    let m0 = c.requires.kept.0 in
    let e = c.requires.kept.1 in
    let reached = c.requires.kept.2 in
    let kept = c.requires.kept.3 in
    let s = c.args.self.now in
    let x : Entry = c.entry-r.result in
    let b = c.cancel.new.self in
    let d = c.remove_row.new.self in
    let f = c.remove_col.new.self in
    let cl : IsCleared s.cross c.args.link x b d f = record {
      here = c.entry-r.ensures.entry;
      first = c.cancel.ensures.matrix;
      cancelled = c.cancel.ensures.cancelled;
      second = c.remove_row.ensures.matrix;
      without_row = c.remove_row.ensures.removed;
      third = c.remove_col.ensures.matrix;
      without_col = c.remove_col.ensures.removed;
      second_rows = c.remove_row.ensures.active_rows;
      second_cols = c.remove_row.ensures.active_cols;
      third_rows = c.remove_col.ensures.active_rows;
      third_cols = c.remove_col.ensures.active_cols;
      size = c.remove_col.ensures.size ∙ c.remove_row.ensures.size ∙ ap (λ (m : Matrix). m.size) c.cancel.ensures.cancelled;
    } in
    let row_is : c.deref.result.now ≡ row_pairs b x.0 = c.deref.ensures.value ∙ c.in_ok-read_row.ensures in
    let column_is : c.deref-2.result.now ≡ col_pairs b x.1 = c.deref-2.ensures.value ∙ c.in_ok-read_col.ensures in
    let below : x.1 < c.args.m = omega (arith, kept.size, c.entry-r.ensures.col) in
    omega (arith, work-most c.args.m m0 e reached s kept c.args.link x b d f cl below c.deref.result.now c.deref-2.result.now row_is column_is, c.eliminate.ensures.work)

pub keep-requires-clause-row_paired : goal.keep-requires-clause-row_paired
keep-requires-clause-row_paired g c =
    let m0 = c.requires.kept.0 in
    let e = c.requires.kept.1 in
    let reached = c.requires.kept.2 in
    let kept = c.requires.kept.3 in
    let s = c.args.self.now in
    let x : Entry = c.entry-r.result in
    let b = c.cancel.new.self in
    let d = c.remove_row.new.self in
    let f = c.remove_col.new.self in
    let cl : IsCleared s.cross c.args.link x b d f = record {
      here = c.entry-r.ensures.entry;
      first = c.cancel.ensures.matrix;
      cancelled = c.cancel.ensures.cancelled;
      second = c.remove_row.ensures.matrix;
      without_row = c.remove_row.ensures.removed;
      third = c.remove_col.ensures.matrix;
      without_col = c.remove_col.ensures.removed;
      second_rows = c.remove_row.ensures.active_rows;
      second_cols = c.remove_row.ensures.active_cols;
      third_rows = c.remove_col.ensures.active_rows;
      third_cols = c.remove_col.ensures.active_cols;
      size = c.remove_col.ensures.size ∙ c.remove_row.ensures.size ∙ ap (λ (m : Matrix). m.size) c.cancel.ensures.cancelled;
    } in
    let row_is : c.deref.result.now ≡ row_pairs b x.0 = c.deref.ensures.value ∙ c.in_ok-read_row.ensures in
    let column_is : c.deref-2.result.now ≡ col_pairs b x.1 = c.deref-2.ensures.value ∙ c.in_ok-read_col.ensures in
    let below : x.1 < c.args.m = omega (arith, kept.size, c.entry-r.ensures.col) in
    subst (λ (k : ℕ). x.1 < k) (sym (rows_len c.args.m m0 e reached s kept)) below

pub keep-requires-clause-position : goal.keep-requires-clause-position
keep-requires-clause-position g c =
    let m0 = c.requires.kept.0 in
    let e = c.requires.kept.1 in
    let reached = c.requires.kept.2 in
    let kept = c.requires.kept.3 in
    let s = c.args.self.now in
    let x : Entry = c.entry-r.result in
    let b = c.cancel.new.self in
    let d = c.remove_row.new.self in
    let f = c.remove_col.new.self in
    let cl : IsCleared s.cross c.args.link x b d f = record {
      here = c.entry-r.ensures.entry;
      first = c.cancel.ensures.matrix;
      cancelled = c.cancel.ensures.cancelled;
      second = c.remove_row.ensures.matrix;
      without_row = c.remove_row.ensures.removed;
      third = c.remove_col.ensures.matrix;
      without_col = c.remove_col.ensures.removed;
      second_rows = c.remove_row.ensures.active_rows;
      second_cols = c.remove_row.ensures.active_cols;
      third_rows = c.remove_col.ensures.active_rows;
      third_cols = c.remove_col.ensures.active_cols;
      size = c.remove_col.ensures.size ∙ c.remove_row.ensures.size ∙ ap (λ (m : Matrix). m.size) c.cancel.ensures.cancelled;
    } in
    let row_is : c.deref.result.now ≡ row_pairs b x.0 = c.deref.ensures.value ∙ c.in_ok-read_row.ensures in
    let column_is : c.deref-2.result.now ≡ col_pairs b x.1 = c.deref-2.ensures.value ∙ c.in_ok-read_col.ensures in
    let below : x.1 < c.args.m = omega (arith, kept.size, c.entry-r.ensures.col) in
    subst (λ (k : ℕ). x.1 < k) (sym (order_len c.args.m m0 e reached s kept)) below

pub keep-requires-clause-apart : goal.keep-requires-clause-apart
keep-requires-clause-apart g c =
    let m0 = c.requires.kept.0 in
    let e = c.requires.kept.1 in
    let reached = c.requires.kept.2 in
    let kept = c.requires.kept.3 in
    let s = c.args.self.now in
    let x : Entry = c.entry-r.result in
    let b = c.cancel.new.self in
    let d = c.remove_row.new.self in
    let f = c.remove_col.new.self in
    let cl : IsCleared s.cross c.args.link x b d f = record {
      here = c.entry-r.ensures.entry;
      first = c.cancel.ensures.matrix;
      cancelled = c.cancel.ensures.cancelled;
      second = c.remove_row.ensures.matrix;
      without_row = c.remove_row.ensures.removed;
      third = c.remove_col.ensures.matrix;
      without_col = c.remove_col.ensures.removed;
      second_rows = c.remove_row.ensures.active_rows;
      second_cols = c.remove_row.ensures.active_cols;
      third_rows = c.remove_col.ensures.active_rows;
      third_cols = c.remove_col.ensures.active_cols;
      size = c.remove_col.ensures.size ∙ c.remove_row.ensures.size ∙ ap (λ (m : Matrix). m.size) c.cancel.ensures.cancelled;
    } in
    let row_is : c.deref.result.now ≡ row_pairs b x.0 = c.deref.ensures.value ∙ c.in_ok-read_row.ensures in
    let column_is : c.deref-2.result.now ≡ col_pairs b x.1 = c.deref-2.ensures.value ∙ c.in_ok-read_col.ensures in
    let below : x.1 < c.args.m = omega (arith, kept.size, c.entry-r.ensures.col) in
    let again : c.deref-3.result.now ≡ row_pairs b x.0 = c.deref-3.ensures.value ∙ c.in_ok-read_row.ensures in
    pairs_apart c.args.m m0 e reached s kept c.args.link x b d f cl below c.deref-3.result.now c.deref-2.result.now again column_is

pub returns-clause-settled : goal.returns-clause-settled
returns-clause-settled g c m0 e reached kept =
    let s = c.args.self.now in
    let x : Entry = c.entry-r.result in
    let b = c.cancel.new.self in
    let d = c.remove_row.new.self in
    let f = c.remove_col.new.self in
    let cl : IsCleared s.cross c.args.link x b d f = record {
      here = c.entry-r.ensures.entry;
      first = c.cancel.ensures.matrix;
      cancelled = c.cancel.ensures.cancelled;
      second = c.remove_row.ensures.matrix;
      without_row = c.remove_row.ensures.removed;
      third = c.remove_col.ensures.matrix;
      without_col = c.remove_col.ensures.removed;
      second_rows = c.remove_row.ensures.active_rows;
      second_cols = c.remove_row.ensures.active_cols;
      third_rows = c.remove_col.ensures.active_rows;
      third_cols = c.remove_col.ensures.active_cols;
      size = c.remove_col.ensures.size ∙ c.remove_row.ensures.size ∙ ap (λ (m : Matrix). m.size) c.cancel.ensures.cancelled;
    } in
    let row_is : c.deref.result.now ≡ row_pairs b x.0 = c.deref.ensures.value ∙ c.in_ok-read_row.ensures in
    let column_is : c.deref-2.result.now ≡ col_pairs b x.1 = c.deref-2.ensures.value ∙ c.in_ok-read_col.ensures in
    let below : x.1 < c.args.m = omega (arith, kept.size, c.entry-r.ensures.col) in
    settles-pivot c.args.m m0 e reached s kept c.args.link x b d f cl below c.deref.result.now c.deref-2.result.now row_is column_is (g.A.Arith.width c.args.arith.now)
    c.eliminate.new.cross c.in_ok-multipliers.multipliers.pairs c.in_ok-multipliers.ensures.settled

pub returns-clause-kept : goal.returns-clause-kept
returns-clause-kept g c m0 e reached kept =
    let s = c.args.self.now in
    let x : Entry = c.entry-r.result in
    let b = c.cancel.new.self in
    let d = c.remove_row.new.self in
    let f = c.remove_col.new.self in
    let cl : IsCleared s.cross c.args.link x b d f = record {
      here = c.entry-r.ensures.entry;
      first = c.cancel.ensures.matrix;
      cancelled = c.cancel.ensures.cancelled;
      second = c.remove_row.ensures.matrix;
      without_row = c.remove_row.ensures.removed;
      third = c.remove_col.ensures.matrix;
      without_col = c.remove_col.ensures.removed;
      second_rows = c.remove_row.ensures.active_rows;
      second_cols = c.remove_row.ensures.active_cols;
      third_rows = c.remove_col.ensures.active_rows;
      third_cols = c.remove_col.ensures.active_cols;
      size = c.remove_col.ensures.size ∙ c.remove_row.ensures.size ∙ ap (λ (m : Matrix). m.size) c.cancel.ensures.cancelled;
    } in
    let row_is : c.deref.result.now ≡ row_pairs b x.0 = c.deref.ensures.value ∙ c.in_ok-read_row.ensures in
    let column_is : c.deref-2.result.now ≡ col_pairs b x.1 = c.deref-2.ensures.value ∙ c.in_ok-read_col.ensures in
    let below : x.1 < c.args.m = omega (arith, kept.size, c.entry-r.ensures.col) in
    let again : c.deref-3.result.now ≡ row_pairs b x.0 = c.deref-3.ensures.value ∙ c.in_ok-read_row.ensures in
    let z = c.eliminate.new.cross in
    let old : Stage = record s { cross = z } in
    let same_row : c.deref-3.result.now ≡ c.deref.result.now = again ∙ sym row_is in
    keeps-pivot c.args.m m0 e reached s kept c.args.link x b d f cl below c.deref.result.now c.deref-2.result.now row_is column_is (g.A.Arith.width c.args.arith.now)
    z c.in_ok-multipliers.multipliers.pairs c.in_ok-multipliers.ensures.settled c.in_ok-multipliers.ensures.alike c.in_ok-multipliers.ensures.matrix c.in_ok-multipliers.ensures.no_zero
    old c.keep.new.self refl refl refl refl refl refl c.in_ok-multipliers.multipliers c.in_ok-multipliers.ensures.len refl
    (subst (λ (rs : List (ℕ × ℚ)). IsKeptPivot old x.0 x.1 ((x.1, x.2) ∷ rs) c.in_ok-multipliers.multipliers c.keep.new.self) same_row c.in_ok-keep.ensures)
