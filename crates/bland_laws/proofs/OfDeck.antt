-- What an instance has from the deck that it is of.
use Rattle.std.proofs.Common.{◌≡◌, ℕ, ◌+◌, ◌<◌, List, length, refl, ◌∙◌, ap, subst}
use Rattle.std.proofs.lemmas.List.{get_or-map, length-map}
use Rattle.lp_model.specs.declared.Phase.{Phase}
use Rattle.lp_model.specs.declared.Phase.TheVariants.{One, Two}
use Rattle.rational.specs.Rational.{ℚ, zero_ℚ, ◌+ℚ◌, ◌*ℚ◌}
use Rattle.rational.specs.Sparse.{entry_at}
use Rattle.rational.specs.Sum.{sum_ℚ, at}
use Rattle.rational.proofs.SumLaws.{sum-cong}
use Rattle.lp_model.specs.Deck.{Deck, IsDeck, column, entry, in_sense, logical_bounds, no_column, no_row, nonnegative, objective, row}
use Rattle.lp_run.specs.declared.ColumnKind.TheVariants as kind
use Rattle.lp_run.specs.Ends.{objective_at}
use Rattle.lp_run.specs.Instance.{Instance, IsWellFormed, bounds, coefficient, cost, instance_of, kind_bounds, kind_coefficient, kind_cost, logical, no_structural, row_count, structural, structural_count, structural_of}
use Rattle.lp_run.specs.State.{start_of}
use Rattle.lp_run.proofs.Start.{kind_of_logical, kind_of_structural}
use Rattle.lp_run.proofs.WellFormed.{instance_well_formed}
use Rattle.bland_laws.specs.Kept.{IsBounded}
use Rattle.bland_laws.proofs.Bounded.{is_bounded}
use Rattle.bland_laws.proofs.Holding.{Holds}
use Rattle.bland_laws.proofs.Starting.{start_holds}

module _ (d : Deck) (deck : IsDeck d) where
  abbrev inst : Instance
  inst = instance_of d

  pub row_count_is : row_count inst ≡ length d.rows
  row_count_is = length-map d.rows (λ r. r.right)

  pub structural_count_is : structural_count inst ≡ length d.columns
  structural_count_is = length-map d.columns structural_of

  pub row_there : (i : ℕ) → i < row_count inst → i < length d.rows
  row_there i b = subst (λ n. i < n) row_count_is b

  pub column_there : (j : ℕ) → j < structural_count inst → j < length d.columns
  column_there j b = subst (λ n. j < n) structural_count_is b

  pub right_is : (i : ℕ) → i < row_count inst → at inst.right i ≡ (row d i).right
  right_is i b = get_or-map (λ r. r.right) d.rows i no_row zero_ℚ (row_there i b)

  pub structural_is : (j : ℕ) → j < structural_count inst → structural inst j ≡ structural_of (column d j)
  structural_is j b = get_or-map structural_of d.columns j no_column no_structural (column_there j b)

  pub logical_is : (i : ℕ) → i < row_count inst → logical inst i ≡ logical_bounds (row d i)
  logical_is i b = get_or-map logical_bounds d.rows i no_row nonnegative (row_there i b)

  pub column_bounds : (phase : Phase) (j : ℕ) → j < structural_count inst → bounds inst phase j ≡ (column d j).bounds
  column_bounds phase j b = ap (kind_bounds inst phase) (kind_of_structural inst j b) ∙ by_phase phase ∙ ap (λ s. s.bounds) (structural_is j b)
    where
      by_phase : (phase : Phase) → kind_bounds inst phase (kind.Structural j) ≡ (structural inst j).bounds
      by_phase One = refl
      by_phase Two = refl

  pub row_bounds : (phase : Phase) (i : ℕ) → i < row_count inst → bounds inst phase (structural_count inst + i) ≡ logical_bounds (row d i)
  row_bounds phase i b = ap (kind_bounds inst phase) (kind_of_logical inst i b) ∙ by_phase phase ∙ logical_is i b
    where
      by_phase : (phase : Phase) → kind_bounds inst phase (kind.Logical i) ≡ logical inst i
      by_phase One = refl
      by_phase Two = refl

  pub column_cost : (j : ℕ) → j < structural_count inst → cost inst Two j ≡ in_sense d.sense (column d j).cost
  column_cost j b = ap (kind_cost inst Two) (kind_of_structural inst j b) ∙ ap (λ s. in_sense d.sense s.cost) (structural_is j b)

  pub column_entry : (i j : ℕ) → j < structural_count inst → coefficient inst i j ≡ entry d i j
  column_entry i j b = ap (kind_coefficient inst i) (kind_of_structural inst j b) ∙ ap (λ s. entry_at s.entries i) (structural_is j b)

  pub objective_is : (x : List ℚ) → objective_at inst x ≡ objective d x
  objective_is x =
      ap (λ z. d.constant +ℚ z)
      (sum-cong (structural_count inst) _ _ (λ j b. ap (λ s. s.cost *ℚ at x j) (structural_is j b))
      ∙ ap (λ n. sum_ℚ n (λ j. (column d j).cost *ℚ at x j)) structural_count_is)

  pub well_formed : IsWellFormed inst
  well_formed = instance_well_formed inst (d, deck, refl)

  pub deck_bounded : IsBounded inst
  deck_bounded = is_bounded inst well_formed

  pub deck_holds : Holds inst (start_of inst)
  deck_holds = start_holds inst well_formed
