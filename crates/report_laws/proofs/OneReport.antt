-- The lines of a report are those of no other.
use Rattle.std.proofs.Common.{◌≡◌, ℕ, ◌^◌, ◌<◌, List, [], ◌∷◌, ◌++◌, length, map, drop, Option, None, Some, IfSome, refl, sym, ◌∙◌, ap, ap₂, arith, append_assoc}
use Rattle.std.specs.Prelude.{codes}
use Rattle.std.specs.List.{All}
use Rattle.std.proofs.lemmas.List.{append_cancel_left, append_cancel_right}
use Rattle.std.proofs.lemmas.List.Elements.{All-head, All-tail}
use Rattle.rational.specs.Rational.{ℚ}
use Rattle.rational.specs.Width.{FitsWidth}
use Rattle.lp_model.specs.Basis.{Basis}
use Rattle.lp_model.specs.Deck.{Deck}
use Rattle.lp_model.specs.Outcome.{Outcome, infeasible, optimal, unbounded}
use Rattle.lp_model.specs.declared.Entry.{Entry}
use Rattle.lp_model.specs.declared.Entry.TheVariants.{Flip, Swap, Turn}
use Rattle.lp_model.specs.declared.Side.{Side}
use Rattle.lp_model.specs.declared.Side.TheVariants as side
use Rattle.deck_model.specs.Outcome.{HasLengthsOf}
use Rattle.lp_text.specs.Fraction.{fraction_text}
use Rattle.lp_text.specs.Report.{Report, basis_lines, column_names, entry_line, log_lines, number_line, outcome_lines, report_lines, row_names, side_word, value_line, value_lines, version_line}
use Rattle.report_lines.specs.Judged.{IsWithin}
use Rattle.report_lines.specs.FirstFlaw.{column_total}
use Rattle.report_reader.specs.Reading.{AreNarrow, IsBasisOf, IsReportOf}
use Rattle.report_reader.proofs.ListLines.{so_far, so_far_all}
use Rattle.report_reader.proofs.PartLines.{names_length, row_names_length}
use Rattle.report_laws.proofs.Parts.{IsUnbroken}
use Rattle.report_laws.proofs.Numbers.{one_fraction}
use Rattle.report_laws.proofs.LineParts.{column_value, number_value, position_value, swap_side}
use Rattle.report_laws.proofs.OneFlaw.{apart}
use Rattle.report_laws.proofs.Reported.{HasFew, behind_version, few_upper, report_lines-parts}

first_line : {ls ms : List (List ℕ)} {l m : List ℕ} → l ∷ ls ≡ m ∷ ms → l ≡ m
first_line same = cc

other_lines : {ls ms : List (List ℕ)} {l m : List ℕ} → l ∷ ls ≡ m ∷ ms → ls ≡ ms
other_lines same = cc

-- ── values ──

one_value : (word name : List ℕ) (v w : ℚ) → FitsWidth 127 v → FitsWidth 127 w → value_line word v name ≡ value_line word w name → v ≡ w
one_value word name v w v_fits w_fits same =
    let front : word ++ 32 ∷ fraction_text v ≡ word ++ 32 ∷ fraction_text w =
    append_cancel_right (word ++ 32 ∷ fraction_text v) (word ++ 32 ∷ fraction_text w) (32 ∷ name) same in
    one_fraction v w v_fits w_fits (ap (drop 1) (append_cancel_left word (32 ∷ fraction_text v) (32 ∷ fraction_text w) front))

listed_one : (word : List ℕ) (names : List (List ℕ)) (vs ws : List ℚ) (S T : List (List ℕ)) → length vs ≡ length names → length ws ≡ length names
    → All (FitsWidth 127) vs → All (FitsWidth 127) ws → so_far word vs names ++ S ≡ so_far word ws names ++ T → (vs ≡ ws) × (S ≡ T)
listed_one word [] [] [] S T m n v_fits w_fits same = (refl, same)
listed_one word [] (v ∷ vs) ws S T m n v_fits w_fits same = absurd (omega arith)
listed_one word [] [] (w ∷ ws) S T m n v_fits w_fits same = absurd (omega arith)
listed_one word (name ∷ names) [] ws S T m n v_fits w_fits same = absurd (omega arith)
listed_one word (name ∷ names) (v ∷ vs) [] S T m n v_fits w_fits same = absurd (omega arith)
listed_one word (name ∷ names) (v ∷ vs) (w ∷ ws) S T m n v_fits w_fits same =
    let first = one_value word name v w (All-head (FitsWidth 127) v vs v_fits) (All-head (FitsWidth 127) w ws w_fits) (first_line same) in
    let rest = listed_one word names vs ws S T (omega arith) (omega arith) (All-tail (FitsWidth 127) v vs v_fits) (All-tail (FitsWidth 127) w ws w_fits)
    (other_lines same) in
    (ap₂ (λ (a : ℚ) (bs : List ℚ). a ∷ bs) first rest.0, rest.1)

one_list : (word : List ℕ) (names : List (List ℕ)) (vs ws : List ℚ) (S T : List (List ℕ)) → length vs ≡ length names → length ws ≡ length names
    → All (FitsWidth 127) vs → All (FitsWidth 127) ws → value_lines word vs names ++ S ≡ value_lines word ws names ++ T → (vs ≡ ws) × (S ≡ T)
one_list word names vs ws S T m n v_fits w_fits same =
    listed_one word names vs ws S T m n v_fits w_fits
    (ap (λ ls. ls ++ S) (so_far_all word vs names m) ∙ same ∙ ap (λ ls. ls ++ T) (sym (so_far_all word ws names n)))

-- ── numbers ──

one_number : (word : List ℕ) (m n : ℕ) → IsUnbroken word → m < 2 ^ 64 → n < 2 ^ 64 → number_line word m ≡ number_line word n → m ≡ n
one_number word m n unbroken m_below n_below same =
    sym (number_value word (number_line word m) m unbroken m_below refl) ∙ number_value word (number_line word m) n unbroken n_below same

module _ (n : ℕ) (below : n < 2 ^ 64) where
  one_numbers : (word : List ℕ) (xs ys : List ℕ) (S T : List (List ℕ)) → IsUnbroken word → length xs ≡ length ys → All (λ q. q < n) xs → All (λ q. q < n) ys
      → map (number_line word) xs ++ S ≡ map (number_line word) ys ++ T → (xs ≡ ys) × (S ≡ T)
  one_numbers word [] [] S T unbroken many x_below y_below same = (refl, same)
  one_numbers word [] (y ∷ ys) S T unbroken many x_below y_below same = absurd (omega arith)
  one_numbers word (x ∷ xs) [] S T unbroken many x_below y_below same = absurd (omega arith)
  one_numbers word (x ∷ xs) (y ∷ ys) S T unbroken many x_below y_below same =
      let x_small = All-head (λ q. q < n) x xs x_below in
      let y_small = All-head (λ q. q < n) y ys y_below in
      let first = one_number word x y unbroken (omega (arith, x_small)) (omega (arith, y_small)) (first_line same) in
      let rest = one_numbers word xs ys S T unbroken (omega arith) (All-tail (λ q. q < n) x xs x_below) (All-tail (λ q. q < n) y ys y_below) (other_lines same) in
      (ap₂ (λ (a : ℕ) (bs : List ℕ). a ∷ bs) first rest.0, rest.1)

-- ── entries ──

one_side : (a b : Side) → side_word a ≡ side_word b → a ≡ b
one_side side.Lower side.Lower same = refl
one_side side.Lower side.Upper same = absurd (apart (codes "LOWER") (codes "UPPER") 0 same (λ e. omega arith))
one_side side.Upper side.Lower same = absurd (apart (codes "UPPER") (codes "LOWER") 0 same (λ e. omega arith))
one_side side.Upper side.Upper same = refl

module _ (d : Deck) (numbered : column_total d < 2 ^ 64) where
  one_entry : (e f : Entry) → IsWithin (column_total d) (length d.rows) e → IsWithin (column_total d) (length d.rows) f → entry_line e ≡ entry_line f → e ≡ f
  one_entry (Flip q) (Flip r) h k same = ap Flip (one_number (codes "FLIP") q r refl (omega arith) (omega arith) same)
  one_entry (Flip q) (Swap r p to) h k same = absurd (apart _ _ 0 same (λ e. omega arith))
  one_entry (Flip q) Turn h k same = absurd (apart _ _ 0 same (λ e. omega arith))
  one_entry (Swap q p to) (Flip r) h k same = absurd (apart _ _ 0 same (λ e. omega arith))
  one_entry (Swap q p to) (Swap r s on) h k same =
      let line = entry_line (Swap q p to) in
      let column : q ≡ r =
      sym (column_value line q p to (omega (arith, h)) (omega (arith, h)) refl) ∙ column_value line r s on (omega (arith, k)) (omega (arith, k)) same in
      let position : p ≡ s =
      sym (position_value line q p to (omega (arith, h)) (omega (arith, h)) refl) ∙ position_value line r s on (omega (arith, k)) (omega (arith, k)) same in
      let end : to ≡ on =
      one_side to on (sym (swap_side line q p to (omega (arith, h)) (omega (arith, h)) refl) ∙ swap_side line r s on (omega (arith, k)) (omega (arith, k)) same) in
      ap (λ a. Swap a p to) column ∙ ap (λ a. Swap r a to) position ∙ ap (Swap r s) end
  one_entry (Swap q p to) Turn h k same = absurd (apart _ _ 0 same (λ e. omega arith))
  one_entry Turn (Flip r) h k same = absurd (apart _ _ 0 same (λ e. omega arith))
  one_entry Turn (Swap r p to) h k same = absurd (apart _ _ 0 same (λ e. omega arith))
  one_entry Turn Turn h k same = refl

  abbrev AreWithin : List Entry → Type 0
  AreWithin log = All (IsWithin (column_total d) (length d.rows)) log

  one_entries : (xs ys : List Entry) (S T : List (List ℕ)) → length xs ≡ length ys → AreWithin xs → AreWithin ys
      → map entry_line xs ++ S ≡ map entry_line ys ++ T → xs ≡ ys
  one_entries [] [] S T many h k same = refl
  one_entries [] (y ∷ ys) S T many h k same = absurd (omega arith)
  one_entries (x ∷ xs) [] S T many h k same = absurd (omega arith)
  one_entries (x ∷ xs) (y ∷ ys) S T many h k same =
      ap₂ (λ (a : Entry) (bs : List Entry). a ∷ bs)
      (one_entry x y (All-head (IsWithin (column_total d) (length d.rows)) x xs h) (All-head (IsWithin (column_total d) (length d.rows)) y ys k) (first_line same))
      (one_entries xs ys S T (omega arith) (All-tail (IsWithin (column_total d) (length d.rows)) x xs h)
      (All-tail (IsWithin (column_total d) (length d.rows)) y ys k) (other_lines same))

  -- ── parts ──

  one_log : (a b : Option (List Entry)) → IfSome a AreWithin → IfSome b AreWithin → HasFew d numbered a → HasFew d numbered b
      → log_lines a ++ codes "END" ∷ [] ≡ log_lines b ++ codes "END" ∷ [] → a ≡ b
  one_log None None h k few many same = refl
  one_log None (Some b) h k few many same = absurd (apart _ _ 0 (first_line same) (λ e. omega arith))
  one_log (Some a) None h k few many same = absurd (apart _ _ 0 (first_line same) (λ e. omega arith))
  one_log (Some a) (Some b) h k few many same =
      ap Some (one_entries a b (codes "END" ∷ []) (codes "END" ∷ []) (one_number (codes "LOG") (length a) (length b) refl few many (first_line same)) h k (other_lines same))

  one_basis : (a b : Option Basis) (S T : List (List ℕ)) → IfSome a (IsBasisOf d) → IfSome b (IsBasisOf d) → version_line a ≡ version_line b
      → basis_lines a ++ S ≡ basis_lines b ++ T → (a ≡ b) × (S ≡ T)
  one_basis None None S T h k version same = (refl, same)
  one_basis None (Some b) S T h k version same = absurd (apart (codes "LPCERT 1") (codes "LPCERT 2") 7 version (λ e. omega arith))
  one_basis (Some a) None S T h k version same = absurd (apart (codes "LPCERT 2") (codes "LPCERT 1") 7 version (λ e. omega arith))
  one_basis (Some a) (Some b) S T h k version same =
      let a_few = few_upper d a h in
      let b_few = few_upper d b k in
      let upper_a = number_line (codes "UPPER") (length a.upper) ∷ map (number_line (codes "AT")) a.upper in
      let upper_b = number_line (codes "UPPER") (length b.upper) ∷ map (number_line (codes "AT")) b.upper in
      let basic = one_numbers (column_total d) numbered (codes "BASIC") a.basic b.basic (upper_a ++ S) (upper_b ++ T) refl (h.one_each ∙ sym k.one_each)
      h.basic k.basic (sym (append_assoc (map (number_line (codes "BASIC")) a.basic) upper_a S) ∙ other_lines same
      ∙ append_assoc (map (number_line (codes "BASIC")) b.basic) upper_b T) in
      let count = one_number (codes "UPPER") (length a.upper) (length b.upper) refl (omega (arith, a_few)) (omega (arith, b_few)) (first_line basic.1) in
      let upper = one_numbers (column_total d) numbered (codes "AT") a.upper b.upper S T refl count h.upper k.upper (other_lines basic.1) in
      (ap Some (ap₂ (λ (p q : List ℕ). record { basic = p; upper = q }) basic.0 upper.0), upper.1)

  one_outcome : (a b : Outcome) (S T : List (List ℕ)) → HasLengthsOf d a → HasLengthsOf d b → AreNarrow a → AreNarrow b
      → outcome_lines d a ++ S ≡ outcome_lines d b ++ T → (a ≡ b) × (S ≡ T)
  one_outcome (optimal x y v) (optimal x' y' v') S T h k fits fits' same =
      let values_x = value_lines (codes "VALUE") x (column_names d) in
      let values_x' = value_lines (codes "VALUE") x' (column_names d) in
      let values_y = value_lines (codes "PRICE") y (row_names d) in
      let values_y' = value_lines (codes "PRICE") y' (row_names d) in
      let line : codes "OBJECTIVE " ++ fraction_text v ≡ codes "OBJECTIVE " ++ fraction_text v' = first_line (other_lines same) in
      let stated = one_fraction v v' fits.2 fits'.2 (append_cancel_left (codes "OBJECTIVE ") (fraction_text v) (fraction_text v') line) in
      let point = one_list (codes "VALUE") (column_names d) x x' (values_y ++ S) (values_y' ++ T) (h.0 ∙ sym (names_length d)) (k.0 ∙ sym (names_length d)) fits.0 fits'.0
      (sym (append_assoc values_x values_y S) ∙ other_lines (other_lines same) ∙ append_assoc values_x' values_y' T) in
      let prices = one_list (codes "PRICE") (row_names d) y y' S T (h.1 ∙ sym (row_names_length d)) (k.1 ∙ sym (row_names_length d)) fits.1 fits'.1 point.1 in
      (ap (λ a. optimal a y v) point.0 ∙ ap (λ a. optimal x' a v) prices.0 ∙ ap (optimal x' y') stated, prices.1)
  one_outcome (optimal x y v) (infeasible y') S T h k fits fits' same = absurd (apart _ _ 0 (first_line same) (λ e. omega arith))
  one_outcome (optimal x y v) (unbounded x' ray') S T h k fits fits' same = absurd (apart _ _ 0 (first_line same) (λ e. omega arith))
  one_outcome (infeasible y) (optimal x' y' v') S T h k fits fits' same = absurd (apart _ _ 0 (first_line same) (λ e. omega arith))
  one_outcome (infeasible y) (infeasible y') S T h k fits fits' same =
      let row = one_list (codes "FARKAS") (row_names d) y y' S T (h ∙ sym (row_names_length d)) (k ∙ sym (row_names_length d)) fits fits' (other_lines same) in
      (ap infeasible row.0, row.1)
  one_outcome (infeasible y) (unbounded x' ray') S T h k fits fits' same = absurd (apart _ _ 0 (first_line same) (λ e. omega arith))
  one_outcome (unbounded x ray) (optimal x' y' v') S T h k fits fits' same = absurd (apart _ _ 0 (first_line same) (λ e. omega arith))
  one_outcome (unbounded x ray) (infeasible y') S T h k fits fits' same = absurd (apart _ _ 0 (first_line same) (λ e. omega arith))
  one_outcome (unbounded x ray) (unbounded x' ray') S T h k fits fits' same =
      let values_x = value_lines (codes "VALUE") x (column_names d) in
      let values_x' = value_lines (codes "VALUE") x' (column_names d) in
      let values_r = value_lines (codes "RAY") ray (column_names d) in
      let values_r' = value_lines (codes "RAY") ray' (column_names d) in
      let point = one_list (codes "VALUE") (column_names d) x x' (values_r ++ S) (values_r' ++ T) (h.0 ∙ sym (names_length d)) (k.0 ∙ sym (names_length d)) fits.0 fits'.0
      (sym (append_assoc values_x values_r S) ∙ other_lines same ∙ append_assoc values_x' values_r' T) in
      let along = one_list (codes "RAY") (column_names d) ray ray' S T (h.1 ∙ sym (names_length d)) (k.1 ∙ sym (names_length d)) fits.1 fits'.1 point.1 in
      (ap₂ unbounded point.0 along.0, along.1)

  -- ── the whole ──

  pub one_report : (r s : Report) → IsReportOf d r → IsReportOf d s → HasFew d numbered r.log → HasFew d numbered s.log
      → report_lines d r ≡ report_lines d s → r ≡ s
  one_report r s h k few few' same =
      let lines : version_line r.basis ∷ behind_version d numbered r ≡ version_line s.basis ∷ behind_version d numbered s =
      sym (report_lines-parts d numbered r) ∙ same ∙ report_lines-parts d numbered s in
      let outcomes = one_outcome r.outcome s.outcome (basis_lines r.basis ++ (log_lines r.log ++ codes "END" ∷ [])) (basis_lines s.basis ++ (log_lines s.log ++ codes "END" ∷ []))
      h.lengths k.lengths h.narrow k.narrow (other_lines (other_lines lines)) in
      let bases = one_basis r.basis s.basis (log_lines r.log ++ codes "END" ∷ []) (log_lines s.log ++ codes "END" ∷ []) h.basis k.basis (first_line lines) outcomes.1 in
      let logs = one_log r.log s.log h.log k.log few few' bases.1 in
      ap (λ o. record { outcome = o; basis = r.basis; log = r.log }) outcomes.0
      ∙ ap (λ b. record { outcome = s.outcome; basis = b; log = r.log }) bases.0
      ∙ ap (λ l. record { outcome = s.outcome; basis = s.basis; log = l }) logs
