-- Where each column stands at the start of an instance.
use Rattle.std.proofs.Common.{◌≡◌, ℕ, ◌+◌, ◌<◌, List, ◌++◌, map, length, get_or, None, sym, ◌∙◌, ap, ap₂, subst, length-append, arith}
use Rattle.std.proofs.lemmas.List.{get_or-map, length-map, get_or-append_right}
use Rattle.std.proofs.Math.ListN.{get_or-append}
use Rattle.lp_model.specs.declared.Status.{Status}
use Rattle.lp_model.specs.declared.Status.TheVariants as status
use Rattle.lp_model.specs.Deck.{Deck}
use Rattle.lp_run.specs.Instance.{Instance, column_count, equations_of, instance_of, no_structural, passed_side, row_count, row_passes, structural, structural_count}
use Rattle.lp_run.specs.State.{artificial_start, logical_start, start_of, status_of, structural_start}
use Rattle.rational.proofs.VectorLaws.{length-map-upto}
use Rattle.std.specs.Option.{option_map}

-- an index into three lists end to end
module _ (A B C : List Status) (n m : ℕ) (a : length A ≡ n) (b : length B ≡ m) where
  first_part : (j : ℕ) → j < n → get_or (A ++ B ++ C) j status.Lower ≡ get_or A j status.Lower
  first_part j h =
      let inside : j < length A = subst (λ k. j < k) (sym a) h in
      get_or-append (A ++ B) C status.Lower j (omega (arith, length-append A B)) ∙ get_or-append A B status.Lower j inside

  second_part : (i : ℕ) → i < m → get_or (A ++ B ++ C) (n + i) status.Lower ≡ get_or B i status.Lower
  second_part i h =
      get_or-append (A ++ B) C status.Lower (n + i) (omega (arith, length-append A B)) ∙ get_or-append_right A B n (n + i) status.Lower a (omega arith)
      ∙ ap (λ k. get_or B k status.Lower) (omega arith)

  third_part : (i : ℕ) → get_or (A ++ B ++ C) (n + m + i) status.Lower ≡ get_or C i status.Lower
  third_part i =
      get_or-append_right (A ++ B) C (n + m) (n + m + i) status.Lower (length-append A B ∙ ap₂ ◌+◌ a b) (omega arith)
      ∙ ap (λ k. get_or C k status.Lower) (omega arith)

  all_parts : length C ≡ m → length (A ++ B ++ C) ≡ n + m + m
  all_parts c = omega (arith, length-append (A ++ B) C, length-append A B)

-- a deck's instance says of each row which end is passed
pub passed_count : (d : Deck) → length (instance_of d).passed ≡ row_count (instance_of d)
passed_count d = length-map-upto (λ i. option_map (λ passed. passed.0) (row_passes (equations_of d) i)) (row_count (equations_of d))

module _ (inst : Instance) (each : length inst.passed ≡ row_count inst) where
  abbrev structural_statuses : List Status
  structural_statuses = map (λ c. structural_start c.bounds) inst.structurals

  structural_length : length structural_statuses ≡ structural_count inst
  structural_length = length-map inst.structurals (λ c. structural_start c.bounds)

  logical_length : length (map logical_start inst.passed) ≡ row_count inst
  logical_length = length-map inst.passed logical_start ∙ each

  pub start_length : length (start_of inst).statuses ≡ column_count inst
  start_length =
      all_parts structural_statuses (map logical_start inst.passed) (map artificial_start inst.passed) (structural_count inst) (row_count inst) structural_length logical_length
      (length-map inst.passed artificial_start ∙ each)

  pub start_structural : (j : ℕ) → j < structural_count inst → status_of (start_of inst) j ≡ structural_start (structural inst j).bounds
  start_structural j b =
      first_part structural_statuses (map logical_start inst.passed) (map artificial_start inst.passed) (structural_count inst) (row_count inst) structural_length logical_length j b
      ∙ get_or-map (λ c. structural_start c.bounds) inst.structurals j no_structural status.Lower b

  pub start_logical : (i : ℕ) → i < row_count inst → status_of (start_of inst) (structural_count inst + i) ≡ logical_start (passed_side inst i)
  start_logical i b =
      second_part structural_statuses (map logical_start inst.passed) (map artificial_start inst.passed) (structural_count inst) (row_count inst) structural_length logical_length i b
      ∙ get_or-map logical_start inst.passed i None status.Lower (subst (λ k. i < k) (sym each) b)

  pub start_artificial : (i : ℕ) → i < row_count inst → status_of (start_of inst) (structural_count inst + row_count inst + i) ≡ artificial_start (passed_side inst i)
  start_artificial i b =
      third_part structural_statuses (map logical_start inst.passed) (map artificial_start inst.passed) (structural_count inst) (row_count inst) structural_length logical_length i
      ∙ get_or-map artificial_start inst.passed i None status.Lower (subst (λ k. i < k) (sym each) b)
