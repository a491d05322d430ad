-- What the step of a move works is what the run lists there.
use Rattle.std.proofs.Common.{◌≡◌, ℕ, ◌<◌, ◌≤◌, List, [], ◌++◌, length, get_or, flat_map, Bool, inl, inr, sym, ◌∙◌, ap, ap₂, subst}
use Rattle.lp_model.specs.declared.Entry.{Entry}
use Rattle.lp_model.specs.declared.Entry.TheVariants.{Flip, Swap, Turn}
use Rattle.lp_model.specs.declared.Phase.TheVariants.{Two}
use Rattle.lp_model.specs.declared.Side.{Side}
use Rattle.rational.specs.Rational.{ℚ}
use Rattle.rational.specs.Sparse.{upto}
use Rattle.rational.specs.Sum.{at}
use Rattle.lp_run.specs.Instance.{Instance, bounds, column_count, cost, row_count}
use Rattle.lp_run.specs.Listing.{Listed, MoveLists, StepLists, move_listing, ratio_listing, value_listing}
use Rattle.lp_run.specs.Solution.{reduced}
use Rattle.lp_run.specs.State.{State, after, basic, rest}
use Rattle.lp_run.specs.Step.{IsNext, Leaves, Limit, direction}
use Rattle.lp_run.specs.Tableau.{table_column}
use Rattle.lp_run.proofs.Unique.{own_limit_is}
use Rattle.bland_laws.proofs.Moving.{FlipStep, SwapStep, flip_step, swap_step}
use Rattle.table_laws.specs.Stands.{StandsAt, prices_shown}
use Rattle.plain_table.specs.Inner.Costs.{costs_work_listing}
use Rattle.plain_table.specs.Inner.Pivots.{swap_listing}
use Rattle.plain_table.specs.Inner.Rows.{AreWide}
use Rattle.plain_table.specs.Inner.Values.{values_listing}
use Rattle.plain_table.proofs.Anew.{costs_lists}
use Rattle.plain_table.proofs.Stepping.{found_limit, move_lists}
use Rattle.plain_table.proofs.Swaps.{flipped_lists, swap_lists, turned_by}

module _ (inst : Instance) (log : List Entry) (s : State) (rows : List (List ℚ)) (values costs : List ℚ)
    (stands : StandsAt inst log s (λ i j. at (get_or rows i []) j) values (at costs))
    (positions : length rows ≡ row_count inst) (wide : AreWide (column_count inst) rows) (each : length values ≡ row_count inst) (all : length costs ≡ column_count inst)
    (q p : ℕ) (end : Side) (next : IsNext inst s (Swap q p end)) where
  abbrev table : ℕ → ℕ → ℚ
  table i j = at (get_or rows i []) j

  f : SwapStep inst s q p end
  f = swap_step inst s q p end next

  abbrev listed_by : ℚ → List ℚ → ℚ → Entry → List Listed
  listed_by t alpha ratio entry =
      ratio_listing inst (length log) s q t values alpha ++ move_listing inst (length log) s table values alpha (reduced inst s (prices_shown inst (at costs))) q t ratio entry

  pub swap_step_lists : (down : Bool) (other : Limit) (alpha : List ℚ) → direction (at costs q) ≡ turned_by down → alpha ≡ table_column inst table q
      → Leaves inst s q (turned_by down) values alpha other
      → StepLists inst (length log) s
      (ratio_listing inst (length log) s q (turned_by down) values alpha
      ++ swap_listing (record { number = length log; position = p; column = q; down = down; rest = rest inst s q; ratio = other.ratio }) alpha rows values costs)
  swap_step_lists down other alpha turns is leaves =
      inl (subst (MoveLists inst (length log) s) same (move_lists inst log s table values (at costs) stands q f.y f.β f.α f.pivoting f.limit f.leaves))
    where
      found : other ≡ f.limit
      found =
          found_limit inst log s table values (at costs) stands q f.y f.β f.α f.pivoting f.limit f.leaves other
          (subst (λ t. Leaves inst s q t values (table_column inst table q) other) (sym turns) (subst (λ α. Leaves inst s q (turned_by down) values α other) is leaves))

      same : listed_by (direction (at costs q)) (table_column inst table q) f.limit.ratio f.limit.entry
          ≡ ratio_listing inst (length log) s q (turned_by down) values alpha
          ++ swap_listing (record { number = length log; position = p; column = q; down = down; rest = rest inst s q; ratio = other.ratio }) alpha rows values costs
      same =
          ap (λ e. listed_by (direction (at costs q)) (table_column inst table q) f.limit.ratio e) f.meets.entry
          ∙ ap (λ (l : Limit). listed_by (direction (at costs q)) (table_column inst table q) l.ratio (Swap q p end)) (sym found)
          ∙ ap₂ (λ t α. listed_by t α other.ratio (Swap q p end)) turns (sym is)
          ∙ ap (λ vs. ratio_listing inst (length log) s q (turned_by down) values alpha ++ vs)
          (sym (swap_lists inst s (length log) q p down other.ratio rows values costs alpha positions wide each all (subst (λ n. p < n) (sym positions) f.position)
          (reduced inst s (prices_shown inst (at costs))) stands.costs f.pivoting.enters.eligible.in_range end))

-- ── a flip ──

module _ (inst : Instance) (log : List Entry) (s : State) (table : ℕ → ℕ → ℚ) (values : List ℚ) (d : ℕ → ℚ) (stands : StandsAt inst log s table values d) (each : length values ≡ row_count inst)
    (q : ℕ) (next : IsNext inst s (Flip q)) where
  -- where no position is taken, each basic value moves
  flip_values : (k p : ℕ) (down : Bool) (v ratio : ℚ) (alpha : List ℚ) → row_count inst ≤ p
      → values_listing k p down v ratio values alpha ≡ flat_map (value_listing k (turned_by down) ratio values alpha) (upto (row_count inst))
  flip_values k p down v ratio alpha past = flipped_lists (row_count inst) k p down v ratio values alpha each past

  flip : FlipStep inst s q
  flip = flip_step inst s q next

  flips : flip.limit.entry ≡ Flip q
  flips = (own_limit_is (bounds inst s.phase q).lower (bounds inst s.phase q).upper q flip.limit flip.own).1

  abbrev flip_listed_by : ℚ → List ℚ → ℚ → Entry → List Listed
  flip_listed_by t alpha ratio entry =
      ratio_listing inst (length log) s q t values alpha ++ move_listing inst (length log) s table values alpha (reduced inst s (prices_shown inst d)) q t ratio entry

  pub flip_step_lists : (down : Bool) (other : Limit) (alpha : List ℚ) (p : ℕ) (v : ℚ) → row_count inst ≤ p → direction (d q) ≡ turned_by down
      → alpha ≡ table_column inst table q → Leaves inst s q (turned_by down) values alpha other
      → StepLists inst (length log) s (ratio_listing inst (length log) s q (turned_by down) values alpha ++ values_listing (length log) p down v other.ratio values alpha)
  flip_step_lists down other alpha p v past turns is leaves =
      inl (subst (MoveLists inst (length log) s) same (move_lists inst log s table values d stands q flip.y flip.β flip.α flip.pivoting flip.limit flip.leaves))
    where
      found : other ≡ flip.limit
      found =
          found_limit inst log s table values d stands q flip.y flip.β flip.α flip.pivoting flip.limit flip.leaves other
          (subst (λ t. Leaves inst s q t values (table_column inst table q) other) (sym turns) (subst (λ α. Leaves inst s q (turned_by down) values α other) is leaves))

      same : flip_listed_by (direction (d q)) (table_column inst table q) flip.limit.ratio flip.limit.entry
          ≡ ratio_listing inst (length log) s q (turned_by down) values alpha ++ values_listing (length log) p down v other.ratio values alpha
      same =
          ap (λ e. flip_listed_by (direction (d q)) (table_column inst table q) flip.limit.ratio e) flips
          ∙ ap (λ (l : Limit). flip_listed_by (direction (d q)) (table_column inst table q) l.ratio (Flip q)) (sym found)
          ∙ ap₂ (λ t α. flip_listed_by t α other.ratio (Flip q)) turns (sym is)
          ∙ ap (λ vs. ratio_listing inst (length log) s q (turned_by down) values alpha ++ vs) (sym (flip_values (length log) p down v other.ratio alpha past))

-- ── a turn ──

pub turn_step_lists : (inst : Instance) (log : List Entry) (s : State) (rows : List (List ℚ)) (values costs : List ℚ) (d : ℕ → ℚ)
    → StandsAt inst log s (λ i j. at (get_or rows i []) j) values d → IsNext inst s Turn
    → length rows ≡ row_count inst → ((p : ℕ) → p < row_count inst → at costs p ≡ cost inst Two (basic s p))
    → StepLists inst (length log) s (costs_work_listing inst Two (length log) costs rows)
turn_step_lists inst log s rows values costs d stands next positions basics =
    inr (inl ((λ i j. at (get_or rows i []) j), next, stands.columns, costs_lists inst (after s Turn) costs rows positions basics (length log)))
