-- A step in the table's own parts: the table that it is worked from, its sizes after it, and an answer that is handed on.
use Rattle.std.proofs.Common.{◌≡◌, ℕ, ◌<◌, List, length, set, Result, Ok, Err, IfOk, OnOk, IsErrAnd, sym, ◌∙◌, ap, subst, length-set, get_or-set_other, get_or-set_same}
use Rattle.lp_model.specs.declared.Entry.TheVariants.{Flip, Swap}
use Rattle.lp_model.specs.declared.Place.{Place}
use Rattle.lp_model.specs.declared.Side.{Side}
use Rattle.lp_model.specs.declared.Status.TheVariants as status
use Rattle.rational.specs.Rational.{ℚ}
use Rattle.rational.proofs.SumLaws.{at_or_other}
use Rattle.lp_run.specs.Instance.{Instance}
use Rattle.lp_run.specs.State.{State, after, basic, other_end, standing_at, status_of}
use Rattle.plain_table.specs.Answers.{JudgesStep}
use Rattle.plain_table.specs.Plain.{IsSized, Plain}
use Rattle.plain_table.specs.Inner.Rows.{AreWide}
use Rattle.plain_table.specs.Inner.Steps.{table_of}
use Rattle.plain_table.proofs.Parts.{judged_on}

pub table_same : (s s' : State) (rows rows' : List (List ℚ)) (values values' costs costs' : List ℚ) (k : ℕ) → s ≡ s' → rows ≡ rows' → values ≡ values' → costs ≡ costs'
    → table_of s rows values costs k ≡ table_of s' rows' values' costs' k
table_same s s' rows rows' values values' costs costs' k a b c d =
    ap (λ s. table_of s rows values costs k) a ∙ ap (λ rows. table_of s' rows values costs k) b ∙ ap (λ values. table_of s' rows' values costs k) c
    ∙ ap (λ costs. table_of s' rows' values' costs k) d

-- an answer of a step that is an error is handed on
pub step_judged_on : {A : Type 0} (w : ℕ) (inst : Instance) (t t' : Plain) (here : Place) (r : Result A Place) → t ≡ t' → JudgesStep {A = A} w inst t (Err here)
    → IsErrAnd r (λ first. first ≡ here) → JudgesStep w inst t' r
step_judged_on w inst t t' here r same h refused =
    subst (λ t. JudgesStep w inst t r) same (h.0, h.1, judged_on w w h.0 here r (λ i. w) h.2 refused)

-- what an answer gives by two clauses
pub if_ok_both : {A : Type 0} (r : Result A Place) (L : Type 0) (P Q : A → Type 0) → OnOk r L → IfOk r P → ((a : A) → L → P a → Q a) → IfOk r Q
if_ok_both (Ok a) L P Q l p both = both a l p
if_ok_both (Err here) L P Q l p both = tt

-- ── the sizes after a step ──

module _ (m n k : ℕ) (t : Plain) (sized : IsSized m n t) where
  pub flip_sized : (q : ℕ) (s' : State) (values' : List ℚ) → s' ≡ after t.state (Flip q) → length values' ≡ m → IsSized m n (table_of s' t.rows values' t.costs k)
  flip_sized q s' values' is each =
      subst (λ s. IsSized m n (table_of s t.rows values' t.costs k)) (sym is)
      (record {
        rows = sized.rows;
        wide = sized.wide;
        values = each;
        costs = sized.costs;
        basis = sized.basis;
        statuses = length-set t.state.statuses q (other_end (status_of t.state q)) ∙ sized.statuses;
        within = sized.within;
      })

  pub swap_sized : (q p : ℕ) (end : Side) (s' : State) (rows' : List (List ℚ)) (values' costs' : List ℚ) → s' ≡ after t.state (Swap q p end) → p < m → q < n → length rows' ≡ m
      → AreWide n rows' → length values' ≡ m → length costs' ≡ n
      → IsSized m n (table_of s' rows' values' costs' k)
  swap_sized q p end s' rows' values' costs' is position column many broad each all =
      subst (λ s. IsSized m n (table_of s rows' values' costs' k)) (sym is)
      (record {
        rows = many;
        wide = λ i b. broad i (subst (λ c. i < c) (sym many) b);
        values = each;
        costs = all;
        basis = length-set t.state.basis p q ∙ sized.basis;
        statuses = length-set (set t.state.statuses (basic t.state p) (standing_at end)) q status.Basic ∙ length-set t.state.statuses (basic t.state p) (standing_at end) ∙ sized.statuses;
        within = λ i b. at_or_other (λ i. i < m → basic (after t.state (Swap q p end)) i < n) p i
            (λ c. subst (λ j. j < n) (sym (get_or-set_same t.state.basis p q 0 (subst (λ c. p < c) (sym sized.basis) position))) column)
            (λ other c. subst (λ j. j < n) (sym (get_or-set_other t.state.basis p i q 0 other)) (sized.within i c)) b;
      })
