-- All pivots: what is left of the elimination settles as all of it.
use Rattle.std.proofs.Common.{◌≡◌, ◌≢◌, ℕ, zero, suc, ◌+◌, ◌-◌, ◌*◌, ◌≤◌, List, ◌++◌, length, Some, refl, sym, ap, subst, ◌∙◌, arith, length-append}
use Rattle.std.specs.List.{range_with_len}
use Rattle.std.proofs.lemmas.List.FromFn.{length-range_with_len}
use Rattle.std.proofs.lemmas.List.Sorted.{length_permutation}
use Rattle.std.proofs.lemmas.List.{length-map}
use Rattle.rational.specs.Rational.{ℚ, zero_ℚ}
use Rattle.rational.specs.Worked.{bind, settle}
use Rattle.rational.proofs.Settling.{settle-done, settle-bind, settle-bind_none, settle-answer}
use Rattle.factor_model.specs.declared.Op.{Op}
use Rattle.factor_model.specs.Eta.{stored}
use Rattle.factor_model.specs.Upper.{In, Triangle}
use Rattle.factor_model.specs.Represents.{Represents}
use Rattle.factor_model.specs.Factoring.{Elimination, whole, singular, IsDependence, least, pivoted, eliminated, factored_by, start, factored}
use Rattle.factor_model.proofs.FactorReaches.{IsReached, start-reached, pivoted-reached, pivoted-rows, rows_done}
use Rattle.factor_model.proofs.FactorStands.{eliminated-none, eliminated-some}
use Rattle.factor_model.proofs.FactoredLaws.{factored-represents, factored-operations, factored-few, factored-dependence}
use Rattle.cross_links.specs.Matrix.{IsLink, IsLeast, row_of, col_of}
use Rattle.markowitz_lu.specs.declared.fault.LuFault.{LuFault}
use Rattle.markowitz_lu.specs.declared.fault.LuFault.TheVariants.{Memory, Unfit, Singular}
use Rattle.markowitz_lu.specs.declared.stage.Stage.{Stage}
use Rattle.markowitz_lu.specs.Fault.{IsCause}
use Rattle.markowitz_lu.specs.Inner.Kept.{IsKept}
use Rattle.markowitz_lu.specs.Inner.Stops.{Stops}
use Rattle.markowitz_lu.proofs.Actives.{has_active}
use Rattle.markowitz_lu.proofs.Leasts.{least-is, least-none}

-- the code stands at an elimination that has come from the matrix, and what is left of it settles as all of it
pub record IsUnderWay (n : ℕ) (m0 : ℕ → ℕ → ℚ) (w : ℕ) (s : Stage) : Type 0 where
  pub now : Elimination
  pub reached : IsReached n m0 now
  pub kept : IsKept n now s
  pub left : settle w (eliminated n (length now.rows) now) ≡ settle w (eliminated n n (start n m0))

-- as much for each row, where there is one less
pub one_less : (b x y : ℕ) → suc y ≡ x → x * b ≡ b + y * b
one_less b x y e = subst (λ (k : ℕ). k * b ≡ b + y * b) e (step b y)
  where
    step : (b y : ℕ) → suc y * b ≡ b + y * b
    step b y = omega arith

module _ (n : ℕ) (m0 : ℕ → ℕ → ℚ) (w : ℕ) where
  pub under_way : (s : Stage) → IsKept n (start n m0) s → IsUnderWay n m0 w s
  under_way s kept = record {
    now = start n m0;
    reached = start-reached n m0;
    kept = kept;
    left = ap (λ m. settle w (eliminated n m (start n m0))) (length-range_with_len 0 n);
  }

  pub under_way-rows : (s : Stage) (kept : IsKept n (start n m0) s) → length (under_way s kept).now.rows ≡ n
  unfolding under_way
  under_way-rows s kept = length-range_with_len 0 n

  -- each operation has a row that is gone
  pub rows_and_etas : (s : Stage) (u : IsUnderWay n m0 w s) → length s.etas + length u.now.rows ≡ n
  rows_and_etas s u =
      omega (
        arith,
        ap length u.kept.etas,
        u.reached.count,
        length-map u.now.pivots (λ (pivot : ℕ × ℕ). pivot.0),
        length-append (rows_done u.now.pivots) u.now.rows,
        length_permutation (range_with_len 0 n) (rows_done u.now.pivots ++ u.now.rows) u.reached.rows_split,
        length-range_with_len 0 n,
      )

  module _ (s : Stage) (u : IsUnderWay n m0 w s) (l : ℕ) (best : IsLeast s.cross l) where
    abbrev pivot : ℕ × ℕ
    pivot = (row_of s.cross l, col_of s.cross l)

    active : In (row_of s.cross l) u.now.rows × In (col_of s.cross l) u.now.positions × (u.now.matrix (row_of s.cross l) (col_of s.cross l) ≢ zero_ℚ)
    active = has_active u.now s.cross u.kept.part (row_of s.cross l) (col_of s.cross l) (l, best.is_link, refl, refl)

    chosen : least u.now ≡ Some pivot
    chosen = least-is u.now u.reached.rows_rise u.reached.positions_rise s.cross u.kept.part l best

    abbrev next : Elimination
    next = (pivoted n u.now pivot).answer

    pub fewer : suc (length next.rows) ≡ length u.now.rows
    fewer = pivoted-rows n m0 u.now u.reached pivot active.0 active.1 active.2

    parts : settle w (eliminated n n (start n m0)) ≡ settle w (bind (pivoted n u.now pivot) (λ x. eliminated n (length next.rows) x))
    parts =
        sym u.left ∙ ap (λ m. settle w (eliminated n m u.now)) (sym fewer) ∙ ap (settle w) (eliminated-some n (length next.rows) u.now pivot chosen)

    -- a pivot more
    pub further : (t : Stage) → settle w (pivoted n u.now pivot) ≡ Some next → IsKept n next t → IsUnderWay n m0 w t
    further t settled kept = record {
      now = next;
      reached = pivoted-reached n m0 u.now u.reached pivot active.0 active.1 active.2;
      kept = kept;
      left = sym (settle-bind w (pivoted n u.now pivot) (λ x. eliminated n (length next.rows) x) next settled) ∙ sym parts;
    }

    pub further-rows : (t : Stage) (settled : settle w (pivoted n u.now pivot) ≡ Some next) (kept : IsKept n next t) → suc (length (further t settled kept).now.rows) ≡ length u.now.rows
    unfolding further
    further-rows t settled kept = fewer

    -- so much is left to spend at least, where each row has as much
    pub spent : (each : ℕ) → each ≤ length u.now.rows * each
    spent each = subst (λ (k : ℕ). each ≤ k * each) fewer (more each (length next.rows))
      where
        more : (b y : ℕ) → b ≤ suc y * b
        more b y = omega (arith, one_less b (suc y) y refl)

    -- or a value that does not fit
    pub gone_wrong : (f : LuFault) → Stops w (pivoted n u.now pivot) f → IsCause w (factored n m0) f
    gone_wrong Memory stops = tt
    gone_wrong Unfit stops =
        settle-bind_none w (eliminated n n (start n m0)) (λ x. factored_by n x x.rows)
        (parts ∙ settle-bind_none w (pivoted n u.now pivot) (λ x. eliminated n (length next.rows) x) stops)
    gone_wrong (Singular y) stops = absurd stops

  module _ (s : Stage) (u : IsUnderWay n m0 w s) (empty : (l : ℕ) → ¬ IsLink s.cross l) where
    -- no pivot is left: the end
    over : settle w (eliminated n n (start n m0)) ≡ Some u.now
    over = sym u.left ∙ by_count (length u.now.rows)
      where
        by_count : (k : ℕ) → settle w (eliminated n k u.now) ≡ Some u.now
        by_count zero = settle-done w u.now
        by_count (suc k) = ap (settle w) (eliminated-none n k u.now (least-none u.now u.reached.rows_rise u.reached.positions_rise s.cross u.kept.part empty)) ∙ settle-done w u.now

    pub at_the_end : settle w (factored n m0) ≡ settle w (factored_by n u.now u.now.rows)
    at_the_end = settle-bind w (eliminated n n (start n m0)) (λ x. factored_by n x x.rows) u.now over

    pub ended_by : (f : LuFault) → IsCause w (factored_by n u.now u.now.rows) f → IsCause w (factored n m0) f
    ended_by Memory h = tt
    ended_by Unfit h = at_the_end ∙ h
    ended_by (Singular y) h = at_the_end ∙ h

  -- what stands of an answer
  module _ (ops : List Op) (u : Triangle) (settled : settle w (factored n m0) ≡ Some (whole ops u)) where
    pub whole-represents : Represents n ops u m0
    whole-represents = factored-represents n m0 ops u (settle-answer w (factored n m0) (whole ops u) settled)

    pub whole-operations : length ops ≡ n
    whole-operations = factored-operations n m0 ops u (settle-answer w (factored n m0) (whole ops u) settled)

    pub whole-few : 2 * stored ops ≤ n * (n - 1)
    whole-few = factored-few n m0 ops u (settle-answer w (factored n m0) (whole ops u) settled)

  pub singular-dependence : (y : List ℚ) → settle w (factored n m0) ≡ Some (singular y) → IsDependence n m0 y
  singular-dependence y settled = factored-dependence n m0 y (settle-answer w (factored n m0) (singular y) settled)
