-- A move, from the parts of a table that stands: what it lists, and what stands after it.
use Rattle.std.proofs.Common.{◌≡◌, ℕ, ◌+◌, ◌<◌, ◌≤◌, List, [], ◌∷◌, ◌++◌, length, get_or, eqb, ne_eqb, inl, Some, Result, IsErrAnd, refl, sym, ◌∙◌, ap, ap₂, subst, arith, ◌≢◌}
use Rattle.std.proofs.lemmas.List.{length-append}
use Rattle.std.proofs.lemmas.Result.{err_from_is_err_and}
use Rattle.lp_model.specs.declared.Entry.{Entry}
use Rattle.lp_model.specs.declared.Entry.TheVariants.{Flip, Swap, Turn}
use Rattle.lp_model.specs.declared.Phase.TheVariants.{Two}
use Rattle.lp_model.specs.declared.Place.{Place}
use Rattle.lp_model.specs.declared.Side.{Side}
use Rattle.rational.specs.Rational.{ℚ, zero_ℚ}
use Rattle.rational.specs.Sum.{at}
use Rattle.rational.proofs.VectorLaws.{get-map-upto}
use Rattle.bland_ratio.specs.Leave.{direction_where}
use Rattle.lp_run.specs.Instance.{Instance, IsWellFormed, bounds, column_count, cost, row_count}
use Rattle.lp_run.specs.Listing.{AllFit, Listed, StepLists, first_unfit, move_listing, ratio_listing, Judges}
use Rattle.lp_run.specs.Solution.{reduced}
use Rattle.lp_run.specs.State.{after, basic, rest}
use Rattle.lp_run.specs.Tableau.{pivoted}
use Rattle.lp_run.specs.Step.{IsNext, Leaves, Limit, Pivoting, direction}
use Rattle.lp_run.proofs.Unique.{own_limit_is}
use Rattle.bland_laws.proofs.Moving.{FlipStep, SwapStep, flip_step, swap_step}
use Rattle.table_laws.specs.Stands.{prices_shown}
use Rattle.table_laws.proofs.Stepped.{swapped}
use Rattle.plain_table.specs.declared.motion.Motion.{Motion}
use Rattle.plain_table.specs.declared.pivot.Pivot.{Pivot}
use Rattle.plain_table.specs.Inner.Pivots.{ArePivoted, pivot_line, swap_listing}
use Rattle.plain_table.specs.Inner.Rows.{AreTaken, AreWide}
use Rattle.plain_table.specs.Answers.{JudgesStep}
use Rattle.plain_table.specs.Plain.{Plain, Stands, cell}
use Rattle.plain_table.specs.Inner.Costs.{AreCosts, costs_work_listing}
use Rattle.plain_table.specs.Inner.Steps.{IsDecided, IsMotion, column_of, table_of, test_listing}
use Rattle.plain_table.specs.Inner.Values.{AreMoved, moved, value_work, values_listing}
use Rattle.plain_table.proofs.Anew.{costs_are}
use Rattle.plain_table.proofs.Eliminations.{taken_from_first}
use Rattle.plain_table.proofs.Moving.{flip_step_lists, swap_step_lists, turn_step_lists}
use Rattle.plain_table.proofs.Parts.{judged_first, judged_next}
use Rattle.plain_table.proofs.Stepping.{flip_stands, found_limit, move_lists, shown_leaves, swap_stands, turn_stands}
use Rattle.plain_table.proofs.Swaps.{costs_after, entries_after}
use Rattle.plain_table.proofs.Tables.{flip_sized, swap_sized}

module _ (inst : Instance) (t : Plain) (log : List Entry) (stands : Stands inst log t) where
  -- ── what decides a move, and what it refuses first ──

  module _ (q : ℕ) (y β α : List ℚ) (pivoting : Pivoting inst t.state y β α q) (limit : Limit) (leaves : Leaves inst t.state q (direction (reduced inst t.state y q)) β α limit) where
    pub move_column : q < column_count inst
    move_column = pivoting.enters.eligible.in_range

    pub move_decided : IsDecided inst t.state t.rows t.values t.costs q limit
    move_decided =
        subst (λ c. Leaves inst t.state q (direction c) t.values (column_of inst t.rows q) limit) (sym (stands.table.costs q move_column))
        (shown_leaves inst log t.state (cell t) t.values (at t.costs) stands.table q y β α pivoting limit leaves)

    pub move_refused : {A : Type 0} (w : ℕ) (here : Place) (r : Result A Place) → first_unfit w (test_listing inst t.number t.state t.rows t.values t.costs q) ≡ Some here
        → IsErrAnd r (λ first. first ≡ here) → JudgesStep w inst t r
    move_refused w here r unfit refused = (
      listed t.number,
      subst (λ k. StepLists inst k t.state (listed k)) (sym stands.number) (inl (move_lists inst log t.state (cell t) t.values (at t.costs) stands.table q y β α pivoting limit leaves)),
      subst (Judges w (listed t.number)) (sym (err_from_is_err_and r refused).1)
          (judged_first w (test_listing inst t.number t.state t.rows t.values t.costs q) (later t.number) _ (unfit ∙ ap Some (sym (err_from_is_err_and r refused).2))),
    )
      where
        later : ℕ → List Listed
        later k = move_listing inst k t.state (cell t) t.values (column_of inst t.rows q) (reduced inst t.state (prices_shown inst (at t.costs))) q
            (direction (at t.costs q)) limit.ratio limit.entry

        listed : ℕ → List Listed
        listed k = test_listing inst k t.state t.rows t.values t.costs q ++ later k

  -- ── a flip ──

  module _ (q : ℕ) (next : IsNext inst t.state (Flip q)) where
    flip : FlipStep inst t.state q
    flip = flip_step inst t.state q next

    pub flip_column : q < column_count inst
    flip_column = move_column q flip.y flip.β flip.α flip.pivoting flip.limit flip.leaves

    pub flip_decided : (limit : Limit) × IsDecided inst t.state t.rows t.values t.costs q limit
    flip_decided = (flip.limit, move_decided q flip.y flip.β flip.α flip.pivoting flip.limit flip.leaves)

    pub flip_refused : {A : Type 0} (w : ℕ) (here : Place) (r : Result A Place) → first_unfit w (test_listing inst t.number t.state t.rows t.values t.costs q) ≡ Some here
        → IsErrAnd r (λ first. first ≡ here) → JudgesStep w inst t r
    flip_refused w here r unfit refused = move_refused q flip.y flip.β flip.α flip.pivoting flip.limit flip.leaves w here r unfit refused

    module _ (m : Motion) (motion : IsMotion inst t.state t.rows t.values t.costs q m) (p : ℕ) (past : row_count inst ≤ p) (v : ℚ) (alpha : List ℚ) (is : alpha ≡ column_of inst t.rows q) where
      abbrev other : Limit
      other = motion.1.0

      -- the limit that the ratio test finds is that of the flip
      flips : other.entry ≡ Flip q
      flips =
          ap (λ (l : Limit). l.entry) (found_limit inst log t.state (cell t) t.values (at t.costs) stands.table q flip.y flip.β flip.α flip.pivoting flip.limit flip.leaves other motion.1.1)
          ∙ (own_limit_is (bounds inst t.state.phase q).lower (bounds inst t.state.phase q).upper q flip.limit flip.own).1

      pub flip_judged : {A : Type 0} (w u : ℕ) (r : Result A Place) → u ≡ w → AllFit w (test_listing inst t.number t.state t.rows t.values t.costs q)
          → Judges u (values_listing t.number p m.down v m.ratio t.values alpha) r → JudgesStep w inst t r
      flip_judged w u r same fits judged = (
        listed t.number m.ratio,
        subst (λ k. StepLists inst k t.state (listed k m.ratio)) (sym stands.number)
            (subst (λ ratio. StepLists inst (length log) t.state (listed (length log) ratio)) motion.1.2
            (flip_step_lists inst log t.state (cell t) t.values (at t.costs) stands.table stands.sized.values q next m.down other alpha p v past motion.0 is
            (subst (λ α. Leaves inst t.state q (direction_where m.down) t.values α other) (sym is)
            (subst (λ d. Leaves inst t.state q d t.values (column_of inst t.rows q) other) motion.0 motion.1.1)))),
        judged_next w (tested t.number) (values_listing t.number p m.down v m.ratio t.values alpha) r
            (subst (λ α. AllFit w (ratio_listing inst t.number t.state q (direction_where m.down) t.values α)) (sym is)
            (subst (λ d. AllFit w (ratio_listing inst t.number t.state q d t.values (column_of inst t.rows q))) motion.0 fits))
            (subst (λ w. Judges w (values_listing t.number p m.down v m.ratio t.values alpha) r) same judged),
      )
        where
          tested : ℕ → List Listed
          tested k = ratio_listing inst k t.state q (direction_where m.down) t.values alpha

          listed : ℕ → ℚ → List Listed
          listed k ratio = tested k ++ values_listing k p m.down v ratio t.values alpha

      pub flip_after : IsWellFormed inst → (values : List ℚ) → length values ≡ length t.values → AreMoved p m.down v m.ratio t.values alpha values
          → Stands inst (log ++ Flip q ∷ []) (table_of (after t.state (Flip q)) t.rows values t.costs (t.number + 1))
      flip_after sound values each moves = record {
        table = flip_stands inst sound log t.state (cell t) t.values (at t.costs) stands.table q next m.down other values motion.0 motion.1.1.is_limit flips
            (each ∙ stands.sized.values) moved_there;
        number = ap (λ n. n + 1) stands.number ∙ sym (length-append log (Flip q ∷ []));
        sized = flip_sized (row_count inst) (column_count inst) (t.number + 1) t stands.sized q (after t.state (Flip q)) values refl (each ∙ stands.sized.values);
      }
        where
          moved_there : (i : ℕ) → i < row_count inst → at values i ≡ (moved m.down (at t.values i) (cell t i q) other.ratio).answer
          moved_there i b =
              moves i (subst (λ n. i < n) (sym stands.sized.values) b)
              ∙ ap (λ o. (value_work o m.down v (at t.values i) (at alpha i) m.ratio).answer) (ne_eqb i p (omega arith))
              ∙ ap₂ (λ a ratio. (moved m.down (at t.values i) a ratio).answer) (ap (λ (α : List ℚ). at α i) is ∙ get-map-upto (λ i. cell t i q) zero_ℚ (row_count inst) i b) (sym motion.1.2)

  -- ── a swap ──

  module _ (q p : ℕ) (end : Side) (next : IsNext inst t.state (Swap q p end)) where
    swap : SwapStep inst t.state q p end
    swap = swap_step inst t.state q p end next

    pub swap_column : q < column_count inst
    swap_column = move_column q swap.y swap.β swap.α swap.pivoting swap.limit swap.leaves

    pub swap_position : p < row_count inst
    swap_position = swap.position

    pub swap_decided : (limit : Limit) × IsDecided inst t.state t.rows t.values t.costs q limit
    swap_decided = (swap.limit, move_decided q swap.y swap.β swap.α swap.pivoting swap.limit swap.leaves)

    pub swap_refused : {A : Type 0} (w : ℕ) (here : Place) (r : Result A Place) → first_unfit w (test_listing inst t.number t.state t.rows t.values t.costs q) ≡ Some here
        → IsErrAnd r (λ first. first ≡ here) → JudgesStep w inst t r
    swap_refused w here r unfit refused = move_refused q swap.y swap.β swap.α swap.pivoting swap.limit swap.leaves w here r unfit refused

    pub swap_element : IsWellFormed inst → cell t p q ≢ zero_ℚ
    swap_element sound = let w = swapped inst sound log t.state (cell t) t.values (at t.costs) stands.table q p end next in w.2

    module _ (m : Motion) (motion : IsMotion inst t.state t.rows t.values t.costs q m) (v : ℚ) (rests : v ≡ rest inst t.state q) (alpha : List ℚ) (is : alpha ≡ column_of inst t.rows q) where
      abbrev found : Limit
      found = motion.1.0

      abbrev pivot : ℕ → ℚ → ℚ → Pivot
      pivot k value ratio = record { number = k; position = p; column = q; down = m.down; rest = value; ratio = ratio }

      wide : AreWide (column_count inst) t.rows
      wide k b = stands.sized.wide k (subst (λ n. k < n) stands.sized.rows b)

      -- the limit that the ratio test finds is that of the swap
      swaps : found.entry ≡ Swap q p end
      swaps =
          ap (λ (l : Limit). l.entry) (found_limit inst log t.state (cell t) t.values (at t.costs) stands.table q swap.y swap.β swap.α swap.pivoting swap.limit swap.leaves found motion.1.1)
          ∙ swap.meets.entry

      pub swap_judged : {A : Type 0} (w u : ℕ) (r : Result A Place) → u ≡ w → AllFit w (test_listing inst t.number t.state t.rows t.values t.costs q)
          → Judges u (swap_listing (pivot t.number v m.ratio) alpha t.rows t.values t.costs) r → JudgesStep w inst t r
      swap_judged w u r same fits judged = (
        listed t.number v m.ratio,
        subst (λ k. StepLists inst k t.state (listed k v m.ratio)) (sym stands.number)
            (subst (λ value. StepLists inst (length log) t.state (listed (length log) value m.ratio)) (sym rests)
            (subst (λ ratio. StepLists inst (length log) t.state (listed (length log) (rest inst t.state q) ratio)) motion.1.2
            (swap_step_lists inst log t.state t.rows t.values t.costs stands.table stands.sized.rows wide stands.sized.values stands.sized.costs q p end next m.down found alpha motion.0 is
            (subst (λ α. Leaves inst t.state q (direction_where m.down) t.values α found) (sym is)
            (subst (λ d. Leaves inst t.state q d t.values (column_of inst t.rows q) found) motion.0 motion.1.1))))),
        judged_next w (tested t.number) (swap_listing (pivot t.number v m.ratio) alpha t.rows t.values t.costs) r
            (subst (λ α. AllFit w (ratio_listing inst t.number t.state q (direction_where m.down) t.values α)) (sym is)
            (subst (λ d. AllFit w (ratio_listing inst t.number t.state q d t.values (column_of inst t.rows q))) motion.0 fits))
            (subst (λ w. Judges w (swap_listing (pivot t.number v m.ratio) alpha t.rows t.values t.costs) r) same judged),
      )
        where
          tested : ℕ → List Listed
          tested k = ratio_listing inst k t.state q (direction_where m.down) t.values alpha

          listed : ℕ → ℚ → ℚ → List Listed
          listed k value ratio = tested k ++ swap_listing (pivot k value ratio) alpha t.rows t.values t.costs

      pub swap_after : IsWellFormed inst → (line : List ℚ) (columns : List ℕ) (out new : List (List ℚ)) (values costs : List ℚ)
          → line ≡ pivot_line (pivot t.number v m.ratio) t.rows → length values ≡ length t.values → length costs ≡ length t.costs → length new ≡ length t.rows
          → AreWide (length t.costs) new → AreTaken p 0 q line columns t.rows out new → ArePivoted (pivot t.number v m.ratio) alpha t.rows t.values t.costs columns out values costs
          → Stands inst (log ++ Swap q p end ∷ []) (table_of (after t.state (Swap q p end)) new values costs (t.number + 1))
      swap_after sound line columns out new values costs line_is each all many broad taken pivots = record {
        table = swap_stands inst sound log t.state (cell t) t.values (at t.costs) stands.table q p end next m.down found values (λ i j. at (get_or new i []) j)
            (at costs) motion.0 motion.1.1.is_limit swaps
            (each ∙ stands.sized.values) moved_there entries_there
            (λ j b. costs_after inst t.state t.number q p m.down m.ratio t.rows t.values t.costs alpha stands.sized.rows wide stands.sized.values stands.sized.costs within
            (at t.costs) (λ j b. refl) swap_column costs j b pivots.costs_after);
        number = ap (λ n. n + 1) stands.number ∙ sym (length-append log (Swap q p end ∷ []));
        sized = swap_sized (row_count inst) (column_count inst) (t.number + 1) t stands.sized q p end (after t.state (Swap q p end)) new values costs refl swap.position swap_column
            (many ∙ stands.sized.rows)
            (subst (λ n. AreWide n new) stands.sized.costs broad) (each ∙ stands.sized.values) (all ∙ stands.sized.costs);
      }
        where
          within : p < length t.rows
          within = subst (λ n. p < n) (sym stands.sized.rows) swap.position

          moved_there : (i : ℕ) → i < row_count inst → at values i ≡ (value_work (eqb i p) m.down (rest inst t.state q) (at t.values i) (cell t i q) found.ratio).answer
          moved_there i b =
              pivots.values_after i (subst (λ n. i < n) (sym stands.sized.values) b)
              ∙ ap (λ value. (value_work (eqb i p) m.down value (at t.values i) (at alpha i) m.ratio).answer) rests
              ∙ ap₂ (λ a ratio. (value_work (eqb i p) m.down (rest inst t.state q) (at t.values i) a ratio).answer)
              (ap (λ (α : List ℚ). at α i) is ∙ get-map-upto (λ i. cell t i q) zero_ℚ (row_count inst) i b) (sym motion.1.2)

          entries_there : (k j : ℕ) → k < row_count inst → j < column_count inst → at (get_or new k []) j ≡ pivoted (cell t) p q k j
          entries_there k j b c =
              let below : k < length t.rows = subst (λ n. k < n) (sym stands.sized.rows) b in
              entries_after inst t.state t.number q p m.down m.ratio t.rows t.values t.costs alpha stands.sized.rows wide stands.sized.values stands.sized.costs within (at t.costs)
              (λ j b. refl) swap_column
              (get_or new k []) k j c
              (λ j inside. taken_from_first p q (pivot_line (pivot t.number v m.ratio) t.rows) columns t.rows out new pivots.rows_after
              (subst (λ by. AreTaken p 0 q by columns t.rows out new) line_is taken) k below j inside)

  -- ── a turn ──

  module _ (next : IsNext inst t.state Turn) (basic_costs : List ℚ) (basics : (p : ℕ) → p < row_count inst → at basic_costs p ≡ cost inst Two (basic t.state p)) where
    pub turn_judged : {A : Type 0} (w u : ℕ) (r : Result A Place) → u ≡ w → Judges u (costs_work_listing inst Two t.number basic_costs t.rows) r → JudgesStep w inst t r
    turn_judged w u r same judged = (
      costs_work_listing inst Two t.number basic_costs t.rows,
      subst (λ k. StepLists inst k t.state (costs_work_listing inst Two k basic_costs t.rows)) (sym stands.number)
          (turn_step_lists inst log t.state t.rows t.values basic_costs (at t.costs) stands.table next stands.sized.rows basics),
      subst (λ w. Judges w (costs_work_listing inst Two t.number basic_costs t.rows) r) same judged,
    )

    pub turn_after : IsWellFormed inst → (costs : List ℚ) → length costs ≡ length t.costs → AreCosts inst Two basic_costs t.rows costs
        → Stands inst (log ++ Turn ∷ []) (table_of (after t.state Turn) t.rows t.values costs (t.number + 1))
    turn_after sound costs each are = record {
      table = turn_stands inst sound log t.state (cell t) t.values (at t.costs) stands.table next (at costs)
          (λ j b. are j b ∙ costs_are inst (after t.state Turn) basic_costs t.rows stands.sized.rows basics j);
      number = ap (λ n. n + 1) stands.number ∙ sym (length-append log (Turn ∷ []));
      sized = record {
        rows = stands.sized.rows;
        wide = stands.sized.wide;
        values = stands.sized.values;
        costs = each ∙ stands.sized.costs;
        basis = stands.sized.basis;
        statuses = stands.sized.statuses;
        within = stands.sized.within;
      };
    }
