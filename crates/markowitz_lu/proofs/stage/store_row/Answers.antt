-- Each step stores the next entry.
use Rattle.std.proofs.Common.{◌≡◌, ℕ, ◌+◌, ◌<◌, List, ◌∷◌, Some, drop, length, get_or, set, sym, ap, subst, ◌∙◌, length-set}
use Rattle.rational.specs.Rational.{ℚ}
use Rattle.sparse_cols.specs.Sparse.{Sparse, value_at, with_pair}
use Rattle.factor_model.specs.Edits.{column_in}
use Rattle.factor_model.specs.Update.{AreApart}
use Rattle.markowitz_lu.specs.Inner.Kept.{IsOpen, stored_at}
use Rattle.markowitz_lu.proofs.LineSteps.{drop_next}
use Rattle.markowitz_lu.proofs.Storing.{column_read, next_open, stored_more, waiting_more}
use Rattle.markowitz_lu.proofs.stage.store_row.Goals as goal

abbrev StoredBy : ℕ → List (ℕ × ℚ) → List (Sparse ℚ) → List (Sparse ℚ) → List (ℕ × ℚ) → Type 0
StoredBy r row old now rest = (p : ℕ) → stored_at r (value_at rest p) (column_in now p) ≡ stored_at r (value_at row p) (column_in old p)

abbrev Waiting : List (ℕ × ℚ) → List (Sparse ℚ) → List (Sparse ℚ) → List (ℕ × ℚ) → Type 0
Waiting row old now rest = (p : ℕ) (u : ℚ) → value_at rest p ≡ Some u → (column_in now p ≡ column_in old p) × (value_at row p ≡ Some u)

-- the column of the next pair is open for row r
next_is_open : (r : ℕ) (row : List (ℕ × ℚ)) (old now : List (Sparse ℚ)) (j : ℕ) (pair : ℕ × ℚ) → j < length row → pair ≡ get_or row j pair
    → AreApart (length now) (drop j row) → StoredBy r row old now (drop j row) → Waiting row old now (drop j row)
    → ((p : ℕ) (u : ℚ) → value_at row p ≡ Some u → IsOpen r (column_in old p)) → (column : Sparse ℚ) → column ≡ get_or now pair.0 column → IsOpen r column
next_is_open r row old now j pair lt found apart stored waiting all column read =
    let next = drop_next row j pair lt found in
    let apart_next : AreApart (length now) (pair ∷ drop (j + 1) row) = subst (AreApart (length now)) next apart in
    subst (IsOpen r) (sym (column_read now pair.0 column apart_next.0 read))
    (next_open r row old now pair.0 pair.1 (drop (j + 1) row) (column_in now pair.0) apart_next (subst (StoredBy r row old now) next stored) (subst (Waiting row old now) next waiting) all)

pub insert-requires : goal.insert-requires
insert-requires c =
    let before = c.loop-p.invariant in
    let is_open =
    next_is_open c.args.r c.args.row.now c.args.columns.now.items c.loop-p.columns.items c.loop-p.p-index c.loop-p-item.result c.loop-p-test.true c.loop-p-item.is
    before.apart before.stored before.waiting c.requires.open_columns c.index_mut.result.now c.index_mut.ensures.value in
    record { within = is_open.0; absent = is_open.1 }

pub loop-p-preserved : goal.loop-p-preserved
loop-p-preserved c =
    let row = c.args.row.now in
    let old = c.args.columns.now.items in
    let now = c.loop-p.columns.items in
    let j = c.loop-p.p-index in
    let pair : ℕ × ℚ = c.loop-p-item.result in
    let next = drop_next row j pair c.loop-p-test.true c.loop-p-item.is in
    let apart : AreApart (length now) (pair ∷ drop (j + 1) row) = subst (AreApart (length now)) next c.loop-p.invariant.apart in
    let stored : StoredBy c.args.r row old now (pair ∷ drop (j + 1) row) = subst (StoredBy c.args.r row old now) next c.loop-p.invariant.stored in
    let waiting : Waiting row old now (pair ∷ drop (j + 1) row) = subst (Waiting row old now) next c.loop-p.invariant.waiting in
    let x = c.insert.new.self in
    let is : x ≡ with_pair (column_in now pair.0) c.args.r pair.1 =
    c.in_ok-insert.ensures.ok ∙ ap (λ (k : Sparse ℚ). with_pair k c.args.r pair.1) (column_read now pair.0 c.index_mut.result.now apart.0 c.index_mut.ensures.value) in
    let len : length (set now pair.0 x) ≡ length now = length-set now pair.0 x in
    record {
      count = len ∙ c.loop-p.invariant.count;
      apart = subst (λ (n : ℕ). AreApart n (drop (j + 1) row)) (sym len) apart.2;
      stored = stored_more c.args.r row old now pair.0 pair.1 (drop (j + 1) row) x apart stored waiting is;
      waiting = waiting_more c.args.r row old now pair.0 pair.1 (drop (j + 1) row) x apart stored waiting is;
    }
