-- What is worked for the reduced costs is what their listing has, and they are those of the table.
use Rattle.std.proofs.Common.{◌≡◌, ℕ, zero, suc, ◌+◌, ◌<◌, ◌≤◌, List, [], ◌∷◌, ◌++◌, map, length, get_or, Some, None, refl, ◌∙◌, ap, arith}
use Rattle.std.specs.List.{range_with_len}
use Rattle.std.proofs.lemmas.List.{map-append}
use Rattle.lp_model.specs.declared.Kind.TheVariants as kind
use Rattle.lp_model.specs.declared.Place.{Place}
use Rattle.rational.specs.Rational.{ℚ, ◌-ℚ◌, ◌*ℚ◌}
use Rattle.rational.specs.Sum.{at, sum_ℚ}
use Rattle.rational.specs.Worked.{bind, done, less, placed}
use Rattle.rational.proofs.SumLaws.{sum-cong}
use Rattle.lp_run.specs.Instance.{Instance, column_count, cost, row_count}
use Rattle.lp_run.specs.Listing.{cost_listing, costs_listing, or_first, place, taken}
use Rattle.lp_run.specs.State.{State, basic}
use Rattle.lp_run.specs.Tableau.{table_cost}
use Rattle.plain_table.specs.Inner.Costs.{cost_work, costs_work_listing, or_single, priced, terms_from}
use Rattle.plain_table.proofs.Parts.{same_parts}
use Rattle.plain_table.proofs.Pricing.{cost_answer}

taken_from : (here : Place) (f g h : ℕ → ℚ) (a n : ℕ) (r : ℚ) → ((p : ℕ) → a ≤ p → p < a + n → f p ≡ h p)
    → placed here (priced r (map (λ p. (f p, g p)) (range_with_len a n))) ≡ taken r (map (λ p. (here, (h p, g p))) (range_with_len a n))
unfolding bind done
taken_from here f g h a zero r same = refl
taken_from here f g h a (suc n) r same =
    ap (λ c. placed here (priced r ((c, g a) ∷ map (λ p. (f p, g p)) (range_with_len (a + 1) n)))) (same a (omega arith) (omega arith))
    ∙ map-append (λ v. (here, v)) (less r (h a) (g a)).values (priced (less r (h a) (g a)).answer (map (λ p. (f p, g p)) (range_with_len (a + 1) n))).values
    ∙ ap (λ xs. placed here (less r (h a) (g a)) ++ xs) (taken_from here f g h (a + 1) n (less r (h a) (g a)).answer (λ p from below. same p (omega arith) (omega arith)))

first_single : (here : Place) (r : ℚ) (vs : List ℚ) → map (λ v. (here, v)) (or_single r vs) ≡ or_first here r (map (λ v. (here, v)) vs)
first_single here r [] = refl
first_single here r (v ∷ vs) = refl

module _ (inst : Instance) (s : State) (costs : List ℚ) (rows : List (List ℚ)) (positions : length rows ≡ row_count inst)
    (basics : (p : ℕ) → p < row_count inst → at costs p ≡ cost inst s.phase (basic s p)) where
  column_same : (k j : ℕ) → placed (place k kind.Cost None (Some j)) (cost_work (cost inst s.phase j) costs rows j) ≡ cost_listing inst k s (λ p j. at (get_or rows p []) j) j
  column_same k j =
      first_single (place k kind.Cost None (Some j)) (cost inst s.phase j) (priced (cost inst s.phase j) (terms_from costs rows j 0 (length rows))).values
      ∙ ap (λ n. or_first (place k kind.Cost None (Some j)) (cost inst s.phase j) (placed (place k kind.Cost None (Some j)) (priced (cost inst s.phase j) (terms_from costs rows j 0 n)))) positions
      ∙ ap (or_first (place k kind.Cost None (Some j)) (cost inst s.phase j))
      (taken_from (place k kind.Cost None (Some j)) (λ p. at costs p) (λ p. at (get_or rows p []) j) (λ p. cost inst s.phase (basic s p)) 0 (row_count inst)
      (cost inst s.phase j) (λ p from below. basics p (omega arith)))

  pub costs_lists : (k : ℕ) → costs_work_listing inst s.phase k costs rows ≡ costs_listing inst k s (λ p j. at (get_or rows p []) j)
  costs_lists k = same_parts _ _ (column_count inst) (λ j b. column_same k j)

  -- the reduced cost of column j
  pub costs_are : (j : ℕ) → (cost_work (cost inst s.phase j) costs rows j).answer ≡ table_cost inst s (λ p j. at (get_or rows p []) j) j
  costs_are j =
      cost_answer costs rows j (cost inst s.phase j)
      ∙ ap (λ n. cost inst s.phase j -ℚ sum_ℚ n (λ p. at costs p *ℚ at (get_or rows p []) j)) positions
      ∙ ap (λ x. cost inst s.phase j -ℚ x) (sum-cong (row_count inst) _ _ (λ p b. ap (λ c. c *ℚ at (get_or rows p []) j) (basics p b)))
