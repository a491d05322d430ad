use Rattle.std.proofs.Common.{◌++◌, ℕ, List, sym, ap, ◌∙◌, Result, Ok, Err}
use Rattle.std.specs.Result.{OnOk}
use Rattle.rational.specs.Rational.{ℚ}
use Rattle.ft_update.proofs.Stored.{none-above, inserted-last, stored-none, stored-some, tested-true, tested-false}
use Rattle.ft_update.proofs.columns.store.Goals as goal

pub returns-then-is_zero : goal.returns-then-is_zero
returns-then-is_zero c =
    let column = c.args.column.now in
    ap (λ (ps : List (ℕ × ℚ)). record { length = column.length; pairs = ps })
    (sym (stored-none c.args.i c.args.x column.pairs (tested-true c.is_zero.result c.args.x c.is_zero.ensures c.if-is_zero.true)))

pub insert-requires-clause-absent : goal.insert-requires-clause-absent
insert-requires-clause-absent c = none-above c.args.i 0 c.args.column.now.pairs c.requires.below

pub returns : goal.returns
returns c =
    let column = c.args.column.now in
    let same = inserted-last c.args.i 0 c.args.x column.pairs c.requires.below
    ∙ ap (λ ps. column.pairs ++ ps) (sym (stored-some c.args.i c.args.x (tested-false c.is_zero.result c.args.x c.is_zero.ensures c.if-is_zero.false))) in
    on_ok c.insert.result (λ e. e ∙ ap (λ (ps : List (ℕ × ℚ)). record { length = column.length; pairs = ps }) same) c.insert.ensures.ok
  where
    on_ok : {A E P Q : Type 0} (r : Result A E) → (P → Q) → OnOk r P → OnOk r Q
    on_ok (Ok a) f h = f h
    on_ok (Err e) f h = tt
