-- One step along the pivot's row, and one along its column.
use Rattle.std.proofs.Common.{◌≡◌, ◌≢◌, ℕ, ◌+◌, ◌*◌, ◌<◌, ◌≤◌, Bool, true, false, cond, eqb, ltb, ⊎_elim, List, [], ◌∷◌, length, drop, get_or, Option, Some, None, Result, Ok, Err, refl, sym, ap, subst, ◌∙◌, arith}
use Rattle.std.specs.Result.{IfErr, IsErrAnd}
use Rattle.std.proofs.lemmas.List.{at_drop_more, at_drop_all}
use Rattle.rational.specs.Rational.{ℚ, ◌/ℚ◌}
use Rattle.rational.specs.Width.{FitsWidth}
use Rattle.rational.proofs.Loops.{step_settles}
use Rattle.rational.proofs.Settling.{settle-work_none}
use Rattle.exact_frac.proofs.Working.{settles-exact}
use Rattle.rational.specs.Worked.{Worked, done, bind, less, quotient, settle}
use Rattle.sparse_cols.specs.Sparse.{insert_pair, value_at}
use Rattle.std.proofs.lemmas.Bool.{cases_eq, eq-eqb, ne_eqb, cond-true, cond-false}
use Rattle.sparse_cols.specs.Work.{value_in}
use Rattle.factor_model.specs.Factoring.{Eliminated, with_entry}
use Rattle.factor_model.specs.Update.{Lacks}
use Rattle.cross_links.specs.Matrix.{Matrix}
use Rattle.markowitz_lu.specs.declared.fault.LuFault.{LuFault}
use Rattle.markowitz_lu.specs.declared.fault.LuFault.TheVariants.{Memory, Unfit, Singular}
use Rattle.markowitz_lu.specs.Inner.Lines.{less_line, less_lines}
use Rattle.markowitz_lu.specs.Inner.Links.{IsAlike, IsLinkAt, IsPut}
use Rattle.markowitz_lu.specs.Inner.Stops.{Stops}

-- a refusal for an unfit value, handed on
pub stopped : {A B : Type 0} (w : ℕ) (c : Worked A) (r : Result B LuFault) → settle w c ≡ None → IsErrAnd r (λ f. f ≡ Unfit) → IfErr r (Stops w c)
stopped w c (Ok b) none is = tt
stopped w c (Err f) none is = subst (Stops w c) (sym is) none

-- a part that stops stops the whole
pub stops_too : {A B : Type 0} (u w : ℕ) (c : Worked A) (d : Worked B) (f : LuFault) → (settle u c ≡ None → settle w d ≡ None) → Stops u c f → Stops w d f
stops_too u w c d Memory too h = tt
stops_too u w c d Unfit too h = too h
stops_too u w c d (Singular y) too h = h

pub handed_on : {A B : Type 0} (w : ℕ) (c : Worked A) (r : Result B LuFault) (e : LuFault) → Stops w c e → IsErrAnd r (λ f. f ≡ e) → IfErr r (Stops w c)
handed_on w c (Ok b) e h is = tt
handed_on w c (Err f) e h is = subst (Stops w c) (sym is) h

pub quotient_settles : (w : ℕ) (a b x : ℚ) → (x ≡ a /ℚ b) × FitsWidth w (a /ℚ b) → settle w (quotient a b) ≡ Some x
unfolding quotient
quotient_settles w a b x exact = settles-exact w (a /ℚ b) (Ok x) exact

pub quotient_stops : (w : ℕ) (a b : ℚ) → ¬ FitsWidth w (a /ℚ b) → settle w (quotient a b) ≡ None
unfolding quotient
quotient_stops w a b unfit = settle-work_none w (a /ℚ b) unfit

pub alike-all : (a b c : Matrix) → IsAlike a b → IsAlike b c → IsAlike a c
alike-all a b c h k = record { size = k.size ∙ h.size; active_rows = k.active_rows ∙ h.active_rows; active_cols = k.active_cols ∙ h.active_cols }

pub drop_next : {A : Type 0} (xs : List A) (j : ℕ) (p : A) → j < length xs → p ≡ get_or xs j p → drop j xs ≡ p ∷ drop (j + 1) xs
drop_next xs j p lt found = at_drop_more (λ ys. ys) xs j p lt ∙ ap (λ q. q ∷ drop (j + 1) xs) (sym found)

-- the places of a row's numbers have the links of row i
abbrev pub AreLinked : Matrix → ℕ → List (Option ℕ) → List (ℕ × ℚ) → Type 0
AreLinked a i index [] = Unit {0}
AreLinked a i index ((p, u) ∷ row) = IsLinkAt a i p (value_in index p) × AreLinked a i index row

pub all_linked : (a : Matrix) (i : ℕ) (index : List (Option ℕ)) (row : List (ℕ × ℚ)) → ((p : ℕ) → IsLinkAt a i p (value_in index p)) → AreLinked a i index row
all_linked a i index [] h = tt
all_linked a i index ((p, u) ∷ row) h = (h p, all_linked a i index row h)

pub still_linked : (a b : Matrix) (i p : ℕ) (x : ℚ) (index : List (Option ℕ)) (row : List (ℕ × ℚ)) → IsPut a i p x b → Lacks p row → AreLinked a i index row → AreLinked b i index row
still_linked a b i p x index [] put lacks h = tt
still_linked a b i p x index ((q, u) ∷ row) put lacks h = (put.links q lacks.0 (value_in index q) h.0, still_linked a b i p x index row put lacks.1 h.1)

module _ (i : ℕ) (k : ℚ) (row : List (ℕ × ℚ)) (j : ℕ) where
  pub line_parts : (pair : ℕ × ℚ) (f : ℕ → ℕ → ℚ) (x : ℚ) → j < length row → pair ≡ get_or row j pair → x ≡ f i pair.0
      → less_line i k f (drop j row) ≡ bind (less x k pair.1) (λ y. less_line i k (with_entry f i pair.0 y) (drop (j + 1) row))
  line_parts pair f x lt found read =
      ap (less_line i k f) (drop_next row j pair lt found)
      ∙ ap (λ z. bind (less z k pair.1) (λ y. less_line i k (with_entry f i pair.0 y) (drop (j + 1) row))) (sym read)

  pub line_ends : (f : ℕ → ℕ → ℚ) → length row ≤ j → less_line i k f (drop j row) ≡ done f
  line_ends f le = at_drop_all (less_line i k f) row j le

module _ (u : ℚ) (row column : List (ℕ × ℚ)) (j : ℕ) where
  pub lines_parts : (pair : ℕ × ℚ) (f : ℕ → ℕ → ℚ) (ks : List (ℕ × ℚ)) → j < length column → pair ≡ get_or column j pair
      → less_lines u row f ks (drop j column) ≡ bind (quotient pair.1 u) (λ k. bind (less_line pair.0 k f row) (λ b. less_lines u row b (insert_pair pair.0 k ks) (drop (j + 1) column)))
  lines_parts pair f ks lt found = ap (less_lines u row f ks) (drop_next column j pair lt found)

  -- what follows the line of a pair, by its multiplier
  abbrev pub lines_left : ℕ × ℚ → List (ℕ × ℚ) → ℚ → (ℕ → ℕ → ℚ) → Worked Eliminated
  lines_left pair ks k b = less_lines u row b (insert_pair pair.0 k ks) (drop (j + 1) column)

  -- once the multiplier of the next pair is worked, its line is
  pub line_next : (pair : ℕ × ℚ) (f : ℕ → ℕ → ℚ) (ks : List (ℕ × ℚ)) → j < length column → pair ≡ get_or column j pair → (v w : ℕ) → v ≡ w → (k : ℚ)
      → (k ≡ pair.1 /ℚ u) × FitsWidth v (pair.1 /ℚ u) → (o : Option Eliminated) → settle w (less_lines u row f ks (drop j column)) ≡ o
      → settle w (bind (less_line pair.0 k f row) (lines_left pair ks k)) ≡ o
  line_next pair f ks lt found v w width k exact o left =
      step_settles v w width (quotient pair.1 u) (λ x. bind (less_line pair.0 x f row) (lines_left pair ks x)) _ (lines_parts pair f ks lt found) o left k
      (quotient_settles v pair.1 u k exact)

  pub lines_end : (f : ℕ → ℕ → ℚ) (ks : List (ℕ × ℚ)) → length column ≤ j → less_lines u row f ks (drop j column) ≡ done (f, ks)
  lines_end f ks le = at_drop_all (less_lines u row f ks) column j le

-- ---- the multipliers so far

-- a pair that is put in, at its row and at others
pub insert-same : {V : Type 0} (i : ℕ) (v : V) (ps : List (ℕ × V)) → value_at ps i ≡ None → value_at (insert_pair i v ps) i ≡ Some v
insert-same i v [] none = cond-true (eqb i i) _ _ (eq-eqb i i refl)
insert-same i v ((k, u) ∷ ps) none = by_test (insert-same i v ps) (ltb i k) refl
  where
    by_test : (value_at ps i ≡ None → value_at (insert_pair i v ps) i ≡ Some v) → (t : Bool) → ltb i k ≡ t
        → value_at (cond t ((i, v) ∷ (k, u) ∷ ps) ((k, u) ∷ insert_pair i v ps)) i ≡ Some v
    by_test later true e = cond-true (eqb i i) _ _ (eq-eqb i i refl)
    by_test later false e =
        ⊎_elim
        (λ (same : k ≡ i). let some : value_at ((k, u) ∷ ps) i ≡ Some u = cond-true (eqb k i) _ _ (eq-eqb k i same) in absurd cc)
        (λ (ne : k ≢ i). cond-false (eqb k i) _ _ (ne_eqb k i ne) ∙ later (sym (cond-false (eqb k i) _ _ (ne_eqb k i ne)) ∙ none))
        (cases_eq k i)

pub insert-other : {V : Type 0} (i j : ℕ) (v : V) (ps : List (ℕ × V)) → i ≢ j → value_at (insert_pair i v ps) j ≡ value_at ps j
insert-other i j v [] ne = cond-false (eqb i j) _ _ (ne_eqb i j ne)
insert-other i j v ((k, u) ∷ ps) ne = by_test (insert-other i j v ps ne) (ltb i k) refl
  where
    by_test : value_at (insert_pair i v ps) j ≡ value_at ps j → (t : Bool) → ltb i k ≡ t
        → value_at (cond t ((i, v) ∷ (k, u) ∷ ps) ((k, u) ∷ insert_pair i v ps)) j ≡ value_at ((k, u) ∷ ps) j
    by_test later true e = cond-false (eqb i j) _ _ (ne_eqb i j ne)
    by_test later false e = ap (λ o. cond (eqb k j) (Some u) o) later

-- the rows of these pairs have no multiplier yet
abbrev pub AreAbsent : List (ℕ × ℚ) → List (ℕ × ℚ) → Type 0
AreAbsent ks [] = Unit {0}
AreAbsent ks ((i, e) ∷ column) = (value_at ks i ≡ None) × AreAbsent ks column

pub none_yet : (column : List (ℕ × ℚ)) → AreAbsent [] column
none_yet [] = tt
none_yet ((i, e) ∷ column) = (refl, none_yet column)

pub still_absent : (i : ℕ) (k : ℚ) (ks column : List (ℕ × ℚ)) → Lacks i column → AreAbsent ks column → AreAbsent (insert_pair i k ks) column
still_absent i k ks [] lacks h = tt
still_absent i k ks ((j, e) ∷ column) lacks h = (insert-other i j k ks (λ e. lacks.0 (sym e)) ∙ h.0, still_absent i k ks column lacks.1 h.1)

-- ---- work, by so many each

pub one_more : (b x y : ℕ) → x ≡ 1 + y → b * x ≡ b + b * y
one_more b x y e = ap (λ z. b * z) e ∙ mul_suc b y
  where
    mul_suc : (b y : ℕ) → b * (1 + y) ≡ b + b * y
    mul_suc b y = omega arith
