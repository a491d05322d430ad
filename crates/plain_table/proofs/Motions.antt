-- What the ratio test of a column says, where a limit decides its step.
use Rattle.std.proofs.Common.{◌≡◌, ◌≢◌, ℕ, ◌<◌, List, [], length, get_or, Bool, Some, refl, sym, ◌∙◌, ap, subst}
use Rattle.lp_model.specs.declared.Entry.TheVariants.{Flip, Swap}
use Rattle.lp_model.specs.declared.Place.{Place}
use Rattle.rational.specs.Rational.{ℚ, zero_ℚ}
use Rattle.rational.specs.Sum.{at}
use Rattle.rational.proofs.VectorLaws.{list_of}
use Rattle.bland_ratio.specs.Leave.{Decides, RatioDoesNotFit, RatiosFit, direction_where, ratio_place}
use Rattle.bland_ratio.specs.declared.ratio_test.Leave.{Leave}
use Rattle.bland_ratio.specs.declared.ratio_test.Leave.TheVariants as leave
use Rattle.bland_ratio.specs.declared.ratio_test.RatioUnfit.{RatioUnfit}
use Rattle.lp_run.specs.Instance.{Instance, row_count}
use Rattle.lp_run.specs.Listing.{AllFit, first_unfit, ratio_listing}
use Rattle.lp_run.specs.State.{State, basic}
use Rattle.lp_run.specs.Step.{IsFree, Limit, direction}
use Rattle.plain_table.specs.Inner.Steps.{IsDecided, IsMotion, column_of, ratio_by, test_listing}
use Rattle.plain_table.proofs.Lines.{item_read}

-- the column that is read
pub column_read : (inst : Instance) (rows : List (List ℚ)) (q : ℕ) (alpha : List ℚ) → length alpha ≡ row_count inst → length rows ≡ row_count inst
    → ((p : ℕ) → p < length rows → at alpha p ≡ at (get_or rows p []) q) → alpha ≡ column_of inst rows q
column_read inst rows q alpha long positions read = list_of (λ p. at (get_or rows p []) q) (row_count inst) alpha long (λ p b. read p (subst (λ n. p < n) (sym positions) b))

turns_where : (costs : List ℚ) (q : ℕ) (cost : ℚ) (down : Bool) → q < length costs → cost ≡ get_or costs q cost → direction cost ≡ direction_where down → direction (at costs q) ≡ direction_where down
turns_where costs q cost down b read falls = ap direction (sym (item_read costs q cost zero_ℚ b read)) ∙ falls

module _ (inst : Instance) (s : State) (rows : List (List ℚ)) (values costs : List ℚ) (q : ℕ) (alpha : List ℚ) (is : alpha ≡ column_of inst rows q)
    (down : Bool) (cost : ℚ) (b : q < length costs) (read : cost ≡ get_or costs q cost) (falls : direction cost ≡ direction_where down) where
  turns : direction (at costs q) ≡ direction_where down
  turns = turns_where costs q cost down b read falls

  pub decides_so : (l : Leave) → Decides inst s q (direction_where down) values alpha l → Decides inst s q (direction (at costs q)) values (column_of inst rows q) l
  decides_so l h = subst (λ t. Decides inst s q t values (column_of inst rows q) l) (sym turns) (subst (λ α. Decides inst s q (direction_where down) values α l) is h)

  pub test_fits : (w k : ℕ) → RatiosFit w inst s q (direction_where down) values alpha → AllFit w (test_listing inst k s rows values costs q)
  test_fits w k fits =
      subst (λ t. AllFit w (ratio_listing inst k s q t values (column_of inst rows q))) (sym turns) (subst (λ α. AllFit w (ratio_listing inst k s q (direction_where down) values α)) is (fits k))

  pub test_unfit : (w k : ℕ) (refusal : RatioUnfit) (here : Place) → here ≡ ratio_place k q refusal → RatioDoesNotFit w inst s q (direction_where down) values alpha refusal
      → first_unfit w (test_listing inst k s rows values costs q) ≡ Some here
  test_unfit w k refusal here there unfit =
      subst (λ t. first_unfit w (ratio_listing inst k s q t values (column_of inst rows q)) ≡ Some here) (sym turns)
      (subst (λ α. first_unfit w (ratio_listing inst k s q (direction_where down) values α) ≡ Some here) is (unfit k ∙ ap Some (sym there)))

-- ── a step that has a limit ──

module _ (inst : Instance) (s : State) (rows : List (List ℚ)) (values costs : List ℚ) (q : ℕ) (limit : Limit) (limited : IsDecided inst s rows values costs q limit) where
  pub not_free : (l : Leave) → Decides inst s q (direction (at costs q)) values (column_of inst rows q) l → l ≢ leave.Free
  not_free l decides e =
      let free : IsFree inst s q (direction (at costs q)) values (column_of inst rows q) = subst (λ l. Decides inst s q (direction (at costs q)) values (column_of inst rows q) l) e decides in
      free limit limited.is_limit

  pub motion_is : (l : Leave) → Decides inst s q (direction (at costs q)) values (column_of inst rows q) l → (cost : ℚ) (down : Bool) → q < length costs → cost ≡ get_or costs q cost
      → direction cost ≡ direction_where down → (ratio : ℚ) → ratio ≡ ratio_by l → IsMotion inst s rows values costs q (record { down = down; ratio = ratio })
  motion_is (leave.Flip r) decides cost down b read falls ratio e =
      (turns_where costs q cost down b read falls, (record { ratio = r; column = q; entry = Flip q }, decides, sym e))
  motion_is (leave.Out p end r) decides cost down b read falls ratio e =
      (turns_where costs q cost down b read falls, (record { ratio = r; column = basic s p; entry = Swap q p end }, decides, sym e))
  motion_is leave.Free decides cost down b read falls ratio e = absurd (not_free leave.Free decides refl)
