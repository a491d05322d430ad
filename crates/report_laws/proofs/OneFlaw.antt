-- A line in its place is as expected, or it has one flaw.
use Rattle.std.proofs.Common.{◌≡◌, ◌≢◌, ◌⊎◌, inl, inr, ℕ, ◌+◌, ◌^◌, ◌<◌, List, [], ◌∷◌, ◌++◌, length, get_or, refl, sym, ◌∙◌, ap, subst, arith}
use Rattle.std.specs.Prelude.{codes}
use Rattle.rational.specs.Rational.{ℚ}
use Rattle.lp_model.specs.Deck.{Deck}
use Rattle.lp_model.specs.declared.Entry.{Entry}
use Rattle.lp_model.specs.declared.Entry.TheVariants.{Flip, Swap, Turn}
use Rattle.lp_text.specs.Fraction.{fraction_text}
use Rattle.lp_text.specs.Report.{column_names, entry_line, row_names}
use Rattle.report_lines.specs.Judged.{IsCountFlaw, IsEntryFlaw, IsIndexFlaw, IsSwapFlaw, IsWithin, after_part, part}
use Rattle.report_lines.specs.declared.flaw.Flaw.{Flaw}
use Rattle.report_lines.specs.declared.flaw.Flaw.TheVariants as flaw
use Rattle.report_lines.specs.FirstFlaw as expected
use Rattle.report_lines.specs.FirstFlaw.{Expected, Follows, HasFlaw, Meets, at, basic, basis, column_total, end, entry, kind, log_or_end, objective, repeated, title, upper, value, values, version}
use Rattle.report_laws.proofs.Parts.{IsUnbroken, after_joined, part_joined, part_whole}
use Rattle.report_laws.proofs.LineParts.{column_plain, column_value, count_plain, count_word, number_plain, number_value, number_word, one_count, position_plain, position_value, swap_side, swap_word, value_number, value_word}

-- the word of an expected value has no blank
abbrev pub IsWorded : Expected → Type 0
IsWorded (value word name) = IsUnbroken word
IsWorded other = Unit {0}

-- ── two flaws ──

word_number : (d : Deck) (e : Expected) (line : List ℕ) → HasFlaw d e line flaw.Word → HasFlaw d e line flaw.Number → ⊥
word_number d version line h k = cc
word_number d title line h k = k
word_number d kind line h k = cc
word_number d objective line h k = h k.0
word_number d (value word name) line h k = h k.0
word_number d basis line (inl h) (inl k) = h k.0
word_number d basis line (inl h) (inr k) = h (count_word (codes "BASIS") line k.1 refl k.2)
word_number d basis line (inr h) k = cc
word_number d (basic more) line h k = h k.0
word_number d upper line (inl h) (inl k) = h k.0
word_number d upper line (inl h) (inr k) = h (count_word (codes "UPPER") line k.1 refl k.2)
word_number d upper line (inr h) k = cc
word_number d (at least more) line h k = h k.0
word_number d log_or_end line (inl h) (inl k) = cc
word_number d log_or_end line (inl h) (inr k) = h.2 k.0
word_number d log_or_end line (inr h) k = h.1 h.0
word_number d (entry more) line (n, inl h) k = h.1 h.0
word_number d (entry more) line (n, inr h) (m, inl k) = h.0 k.0
word_number d (entry more) line (n, inr (f, inl h)) (m, inr k) = h k.1.0
word_number d (entry more) line (n, inr (f, inr h)) (m, inr k) = h k.1.1.0 k.1.1.1
word_number d end line h k = k

word_name : (d : Deck) (e : Expected) (line : List ℕ) → HasFlaw d e line flaw.Word → HasFlaw d e line flaw.Name → ⊥
word_name d version line h k = cc
word_name d title line h k = h k.0
word_name d kind line h k = cc
word_name d objective line h k = k
word_name d (value word name) line h k = h k.1
word_name d basis line h (inl k) = k
word_name d basis line h (inr k) = cc
word_name d (basic more) line h k = h k.0
word_name d upper line h (inl k) = k
word_name d upper line h (inr k) = cc
word_name d (at least more) line h k = h k.0
word_name d log_or_end line h (inl k) = cc
word_name d log_or_end line h (inr k) = k.1
word_name d (entry more) line (n, inl h) k = h.1 h.0
word_name d (entry more) line (n, inr h) (m, inl k) = h.0 k.0
word_name d (entry more) line (n, inr (f, inl h)) (m, inr k) = h k.1.0
word_name d (entry more) line (n, inr (f, inr h)) (m, inr k) = h k.1.1.0 k.1.1.1
word_name d end line h k = k

number_name : (d : Deck) (e : Expected) (line : List ℕ) → HasFlaw d e line flaw.Number → HasFlaw d e line flaw.Name → ⊥
number_name d version line h k = cc
number_name d title line h k = h
number_name d kind line h k = cc
number_name d objective line h k = k
number_name d (value word name) line h k = h.1 k.0 k.2.fits k.2.text_is
number_name d basis line h (inl k) = k
number_name d basis line h (inr k) = cc
number_name d (basic more) line h k = cc
number_name d upper line h (inl k) = k
number_name d upper line h (inr k) = cc
number_name d (at least more) line h k = cc
number_name d log_or_end line h (inl k) = cc
number_name d log_or_end line h (inr k) = k.1
number_name d (entry more) line (n, inl h) (m, inl k) = cc
number_name d (entry more) line (n, inl h) (m, inr k) = k.0 h.0
number_name d (entry more) line (n, inr h) (m, inl k) = h.0 k.0
number_name d (entry more) line (n, inr (f, (w, s, inl h))) (m, inr k) = cc
number_name d (entry more) line (n, inr (f, (w, s, inr h))) (m, inr k) = cc
number_name d end line h k = k

-- ── the flaws that a line has by itself ──

abbrev IsOwn : Flaw → Type 0
IsOwn found = (found ≡ flaw.Word) ⊎ (found ≡ flaw.Number) ⊎ (found ≡ flaw.Name)

own_of : (P : Flaw → Type 0) → (P flaw.Bytes → ⊥) → (P flaw.Long → ⊥) → (P flaw.Missing → ⊥) → (P flaw.Rest → ⊥) → (found : Flaw) → P found → IsOwn found
own_of P bytes long missing rest flaw.Bytes h = absurd (bytes h)
own_of P bytes long missing rest flaw.Long h = absurd (long h)
own_of P bytes long missing rest flaw.Word h = inl refl
own_of P bytes long missing rest flaw.Number h = inr (inl refl)
own_of P bytes long missing rest flaw.Name h = inr (inr refl)
own_of P bytes long missing rest flaw.Missing h = absurd (missing h)
own_of P bytes long missing rest flaw.Rest h = absurd (rest h)

entry_own : (columns positions : ℕ) (line : List ℕ) (found : Flaw) → IsEntryFlaw columns positions line found → IsOwn found
entry_own columns positions line found (n, inl h) = own_of (λ f. IsIndexFlaw (codes "FLIP") 0 columns line f) (λ k. k) (λ k. k) (λ k. k) (λ k. k) found h.1
entry_own columns positions line found (n, inr h) = own_of (λ f. IsSwapFlaw columns positions line f) (λ k. k) (λ k. k) (λ k. k) (λ k. k) found h.1

is_own : (d : Deck) (e : Expected) (line : List ℕ) (found : Flaw) → HasFlaw d e line found → IsOwn found
is_own d version line found h = inl h.0
is_own d title line found h = own_of (λ f. HasFlaw d title line f) (λ k. k) (λ k. k) (λ k. k) (λ k. k) found h
is_own d kind line found h = inl h.0
is_own d objective line found h = own_of (λ f. HasFlaw d objective line f) (λ k. k) (λ k. k) (λ k. k) (λ k. k) found h
is_own d (value word name) line found h = own_of (λ f. HasFlaw d (value word name) line f) (λ k. k) (λ k. k) (λ k. k) (λ k. k) found h
is_own d basis line found (inl h) = own_of (λ f. IsCountFlaw (codes "BASIS") line f) (λ k. k) (λ k. k) (λ k. k) (λ k. k) found h
is_own d basis line found (inr h) = inr (inl h.0)
is_own d (basic more) line found h = own_of (λ f. HasFlaw d (basic more) line f) (λ k. k) (λ k. k) (λ k. k) (λ k. k) found h
is_own d upper line found (inl h) = own_of (λ f. IsCountFlaw (codes "UPPER") line f) (λ k. k) (λ k. k) (λ k. k) (λ k. k) found h
is_own d upper line found (inr h) = inr (inl h.0)
is_own d (at least more) line found h = own_of (λ f. HasFlaw d (at least more) line f) (λ k. k) (λ k. k) (λ k. k) (λ k. k) found h
is_own d log_or_end line found (inl h) = inl h.0
is_own d log_or_end line found (inr h) = own_of (λ f. IsCountFlaw (codes "LOG") line f) (λ k. k) (λ k. k) (λ k. k) (λ k. k) found h.1
is_own d (entry more) line found h = entry_own (column_total d) (length d.rows) line found h
is_own d end line found h = own_of (λ f. HasFlaw d end line f) (λ k. k) (λ k. k) (λ k. k) (λ k. k) found h

-- a line has one flaw
pub one_flaw : (d : Deck) (e : Expected) (line : List ℕ) (f g : Flaw) → HasFlaw d e line f → HasFlaw d e line g → f ≡ g
one_flaw d e line f g h k = each (is_own d e line f h) (is_own d e line g k)
  where
    has : (x y : Flaw) → HasFlaw d e line x → x ≡ y → HasFlaw d e line y
    has x y h same = subst (HasFlaw d e line) same h

    each : IsOwn f → IsOwn g → f ≡ g
    each (inl a) (inl b) = a ∙ sym b
    each (inl a) (inr (inl b)) = absurd (word_number d e line (has f flaw.Word h a) (has g flaw.Number k b))
    each (inl a) (inr (inr b)) = absurd (word_name d e line (has f flaw.Word h a) (has g flaw.Name k b))
    each (inr (inl a)) (inl b) = absurd (word_number d e line (has g flaw.Word k b) (has f flaw.Number h a))
    each (inr (inl a)) (inr (inl b)) = a ∙ sym b
    each (inr (inl a)) (inr (inr b)) = absurd (number_name d e line (has f flaw.Number h a) (has g flaw.Name k b))
    each (inr (inr a)) (inl b) = absurd (word_name d e line (has g flaw.Word k b) (has f flaw.Name h a))
    each (inr (inr a)) (inr (inl b)) = absurd (number_name d e line (has g flaw.Number k b) (has f flaw.Name h a))
    each (inr (inr a)) (inr (inr b)) = a ∙ sym b

-- ── as expected, or not ──

-- two texts that begin differently
pub apart : (a b : List ℕ) (k : ℕ) → a ≡ b → get_or a k 0 ≢ get_or b k 0 → ⊥
apart a b k same other = other (ap (λ t. get_or t k 0) same)

objective_number : (line : List ℕ) (v : ℚ) → line ≡ codes "OBJECTIVE " ++ fraction_text v → after_part line ≡ fraction_text v
objective_number line v is = ap after_part is ∙ after_joined (codes "OBJECTIVE") (fraction_text v) refl

-- no line is the end and a log's count
end_no_log : (line : List ℕ) → line ≡ codes "END" → part line ≡ codes "LOG" → ⊥
end_no_log line is word = apart (codes "END") (codes "LOG") 0 (sym (part_whole (codes "END") refl) ∙ sym (ap part is) ∙ word) (λ e. omega arith)

module _ (d : Deck) (numbered : column_total d < 2 ^ 64) where
  small : (q : ℕ) → q < column_total d → q < 2 ^ 64
  small q below = omega arith

  few_rows : (p : ℕ) → p < length d.rows → p < 2 ^ 64
  few_rows p below = omega arith

  flip_word : (line : List ℕ) (q : ℕ) → q < column_total d → line ≡ entry_line (Flip q) → part line ≡ codes "FLIP"
  flip_word line q below is = number_word (codes "FLIP") line q refl (small q below) is

  flip_no_swap : (line : List ℕ) → part line ≡ codes "FLIP" → part line ≡ codes "SWAP" → ⊥
  flip_no_swap line is other = apart (codes "FLIP") (codes "SWAP") 0 (sym is ∙ other) (λ e. omega arith)

  -- ── an entry as expected has no flaw ──

  entry_word : (line : List ℕ) (e : Entry) → IsWithin (column_total d) (length d.rows) e → line ≡ entry_line e
      → IsEntryFlaw (column_total d) (length d.rows) line flaw.Word → ⊥
  entry_word line e within is (n, inl h) = h.1 h.0
  entry_word line (Flip q) within is (n, inr h) = h.0 (flip_word line q within is)
  entry_word line (Swap q p to) within is (n, inr (f, inl h)) = h (swap_word line q p to (small q within.0) (few_rows p within.1) is)
  entry_word line (Swap q p to) within is (n, inr (f, inr h)) = h to (swap_side line q p to (small q within.0) (few_rows p within.1) is)
  entry_word line Turn within is (n, inr h) = n is

  entry_number : (line : List ℕ) (e : Entry) → IsWithin (column_total d) (length d.rows) e → line ≡ entry_line e
      → IsEntryFlaw (column_total d) (length d.rows) line flaw.Number → ⊥
  entry_number line (Flip q) within is (n, inl h) = let plain = number_plain (codes "FLIP") line q refl (small q within) is in cc
  entry_number line (Flip q) within is (n, inr h) = h.0 (flip_word line q within is)
  entry_number line (Swap q p to) within is (n, inl h) = flip_no_swap line h.0 (swap_word line q p to (small q within.0) (few_rows p within.1) is)
  entry_number line (Swap q p to) within is (n, inr (f, (w, s, inl h))) =
      let plain = column_plain line q p to (small q within.0) (few_rows p within.1) is in cc
  entry_number line (Swap q p to) within is (n, inr (f, (w, s, inr h))) =
      let plain = position_plain line q p to (small q within.0) (few_rows p within.1) is in cc
  entry_number line Turn within is (n, h) = n is

  entry_name : (line : List ℕ) (e : Entry) → IsWithin (column_total d) (length d.rows) e → line ≡ entry_line e
      → IsEntryFlaw (column_total d) (length d.rows) line flaw.Name → ⊥
  entry_name line (Flip q) within is (n, inl (w, (v, p, inl h))) = omega (arith, h)
  entry_name line (Flip q) within is (n, inl (w, (v, p, inr h))) =
      let value_is = number_value (codes "FLIP") line q refl (small q within) is in omega (arith, h, value_is, within)
  entry_name line (Flip q) within is (n, inr h) = h.0 (flip_word line q within is)
  entry_name line (Swap q p to) within is (n, inl h) = flip_no_swap line h.0 (swap_word line q p to (small q within.0) (few_rows p within.1) is)
  entry_name line (Swap q p to) within is (n, inr (f, (w, s, a, b, inl h))) =
      let value_is = column_value line q p to (small q within.0) (few_rows p within.1) is in omega (arith, h, value_is, within)
  entry_name line (Swap q p to) within is (n, inr (f, (w, s, a, b, inr h))) =
      let value_is = position_value line q p to (small q within.0) (few_rows p within.1) is in omega (arith, h, value_is, within)
  entry_name line Turn within is (n, h) = n is

  -- ── a line as expected has no flaw ──

  met_word : (e : Expected) (line : List ℕ) (next : List Expected) → IsWorded e → Meets d e line next → HasFlaw d e line flaw.Word → ⊥
  met_word version line next w (inl m) h = h.1 m.0
  met_word version line next w (inr m) h = h.2 m.0
  met_word title line next w m h = h (ap part m.0 ∙ part_joined (codes "DECK") d.name refl)
  met_word kind line next w m h = h.1 next m
  met_word objective line next w m h = h (ap part m.2 ∙ part_joined (codes "OBJECTIVE") (fraction_text m.0) refl)
  met_word (value word name) line next w m h = h (value_word word name line m.0 w m.2)
  met_word basis line next w m (inl h) = h (count_word (codes "BASIS") line _ refl m.0)
  met_word basis line next w m (inr h) = cc
  met_word (basic more) line next w m h = h (number_word (codes "BASIC") line m.0 refl (small m.0 m.1) m.2)
  met_word upper line next w m (inl h) = h (count_word (codes "UPPER") line m.0 refl m.2)
  met_word upper line next w m (inr h) = cc
  met_word (at least more) line next w m h = h (number_word (codes "AT") line m.0 refl (small m.0 m.2) m.3)
  met_word log_or_end line next w (inl m) (inl h) = h.1 m.0
  met_word log_or_end line next w (inr m) (inl h) = h.2 (count_word (codes "LOG") line m.0 refl m.1)
  met_word log_or_end line next w m (inr h) = h.1 h.0
  met_word (entry more) line next w m h = entry_word line m.0 m.1 m.2 h
  met_word end line next w m h = h m.0

  met_number : (e : Expected) (line : List ℕ) (next : List Expected) → IsWorded e → Meets d e line next → HasFlaw d e line flaw.Number → ⊥
  met_number version line next w m h = cc
  met_number title line next w m h = h
  met_number kind line next w m h = cc
  met_number objective line next w m h = h.1 m.0 m.1 (sym (objective_number line m.0 m.2))
  met_number (value word name) line next w m h = h.1 m.0 m.1 (sym (value_number word name line m.0 w m.2 m.1))
  met_number basis line next w m (inl h) = let plain = count_plain (codes "BASIS") line _ refl m.0 in cc
  met_number basis line next w m (inr h) = h.3 (one_count (codes "BASIS") line h.1 (length d.rows) refl h.2 m.0)
  met_number (basic more) line next w m h = let plain = number_plain (codes "BASIC") line m.0 refl (small m.0 m.1) m.2 in cc
  met_number upper line next w m (inl h) = let plain = count_plain (codes "UPPER") line m.0 refl m.2 in cc
  met_number upper line next w m (inr h) =
      let same = one_count (codes "UPPER") line h.1 m.0 refl h.2 m.2 in
      h.3 (omega (arith, same, m.1))
  met_number (at least more) line next w m h = let plain = number_plain (codes "AT") line m.0 refl (small m.0 m.2) m.3 in cc
  met_number log_or_end line next w m (inl h) = cc
  met_number log_or_end line next w (inl m) (inr h) = end_no_log line m.0 h.0
  met_number log_or_end line next w (inr m) (inr h) = let plain = count_plain (codes "LOG") line m.0 refl m.1 in cc
  met_number (entry more) line next w m h = entry_number line m.0 m.1 m.2 h
  met_number end line next w m h = h

  met_name : (e : Expected) (line : List ℕ) (next : List Expected) → IsWorded e → Meets d e line next → HasFlaw d e line flaw.Name → ⊥
  met_name version line next w m h = cc
  met_name title line next w m h = h.1 m.0
  met_name kind line next w m h = cc
  met_name objective line next w m h = h
  met_name (value word name) line next w m h =
      h.3 (m.2 ∙ ap (λ t. (word ++ 32 ∷ t) ++ 32 ∷ name) (sym (value_number word name line m.0 w m.2 m.1) ∙ sym h.2.text_is))
  met_name basis line next w m (inl h) = h
  met_name basis line next w m (inr h) = cc
  met_name (basic more) line next w m (p, q, inl h) = omega (arith, h)
  met_name (basic more) line next w m (p, q, inr h) =
      let value_is = number_value (codes "BASIC") line m.0 refl (small m.0 m.1) m.2 in omega (arith, h, value_is, m.1)
  met_name upper line next w m (inl h) = h
  met_name upper line next w m (inr h) = cc
  met_name (at least more) line next w m (p, q, inl h) =
      let value_is = number_value (codes "AT") line m.0 refl (small m.0 m.2) m.3 in omega (arith, h, value_is, m.1)
  met_name (at least more) line next w m (p, q, inr h) =
      let value_is = number_value (codes "AT") line m.0 refl (small m.0 m.2) m.3 in omega (arith, h, value_is, m.2)
  met_name log_or_end line next w m (inl h) = cc
  met_name log_or_end line next w m (inr h) = h.1
  met_name (entry more) line next w m h = entry_name line m.0 m.1 m.2 h
  met_name end line next w m h = h

  pub no_flaw : (e : Expected) (line : List ℕ) (next : List Expected) (found : Flaw) → IsWorded e → Meets d e line next → HasFlaw d e line found → ⊥
  no_flaw e line next found w m h = each (is_own d e line found h)
    where
      each : IsOwn found → ⊥
      each (inl is) = met_word e line next w m (subst (HasFlaw d e line) is h)
      each (inr (inl is)) = met_number e line next w m (subst (HasFlaw d e line) is h)
      each (inr (inr is)) = met_name e line next w m (subst (HasFlaw d e line) is h)

  -- ── what is expected next ──

  abbrev IsKind : List ℕ → List Expected → Type 0
  IsKind line next =
      ((line ≡ codes "OPTIMAL") × (next ≡ objective ∷ values (codes "VALUE") (column_names d) ++ values (codes "PRICE") (row_names d)))
      ⊎ ((line ≡ codes "INFEASIBLE") × (next ≡ values (codes "FARKAS") (row_names d)))
      ⊎ ((line ≡ codes "UNBOUNDED") × (next ≡ values (codes "VALUE") (column_names d) ++ values (codes "RAY") (column_names d)))

  pub is_kind : (line : List ℕ) (next : List Expected) → Follows d line next → IsKind line next
  is_kind line next expected.optimal = inl (refl, refl)
  is_kind line next expected.infeasible = inr (inl (refl, refl))
  is_kind line next expected.unbounded = inr (inr (refl, refl))

  first_apart : (line a b : List ℕ) → line ≡ a → line ≡ b → get_or a 0 0 ≢ get_or b 0 0 → ⊥
  first_apart line a b h k other = apart a b 0 (sym h ∙ k) other

  one_kind : (line : List ℕ) (E F : List Expected) → IsKind line E → IsKind line F → E ≡ F
  one_kind line E F (inl a) (inl b) = a.1 ∙ sym b.1
  one_kind line E F (inl a) (inr (inl b)) = absurd (first_apart line _ _ a.0 b.0 (λ e. omega arith))
  one_kind line E F (inl a) (inr (inr b)) = absurd (first_apart line _ _ a.0 b.0 (λ e. omega arith))
  one_kind line E F (inr (inl a)) (inl b) = absurd (first_apart line _ _ a.0 b.0 (λ e. omega arith))
  one_kind line E F (inr (inl a)) (inr (inl b)) = a.1 ∙ sym b.1
  one_kind line E F (inr (inl a)) (inr (inr b)) = absurd (first_apart line _ _ a.0 b.0 (λ e. omega arith))
  one_kind line E F (inr (inr a)) (inl b) = absurd (first_apart line _ _ a.0 b.0 (λ e. omega arith))
  one_kind line E F (inr (inr a)) (inr (inl b)) = absurd (first_apart line _ _ a.0 b.0 (λ e. omega arith))
  one_kind line E F (inr (inr a)) (inr (inr b)) = a.1 ∙ sym b.1

  pub one_next : (e : Expected) (line : List ℕ) (E F : List Expected) → Meets d e line E → Meets d e line F → E ≡ F
  one_next version line E F (inl m) (inl n) = m.1 ∙ sym n.1
  one_next version line E F (inl m) (inr n) = absurd (apart (codes "LPCERT 1") (codes "LPCERT 2") 7 (sym m.0 ∙ n.0) (λ e. omega arith))
  one_next version line E F (inr m) (inl n) = absurd (apart (codes "LPCERT 2") (codes "LPCERT 1") 7 (sym m.0 ∙ n.0) (λ e. omega arith))
  one_next version line E F (inr m) (inr n) = m.1 ∙ sym n.1
  one_next title line E F m n = m.1 ∙ sym n.1
  one_next kind line E F m n = one_kind line E F (is_kind line E m) (is_kind line F n)
  one_next objective line E F m n = m.3 ∙ sym n.3
  one_next (value word name) line E F m n = m.3 ∙ sym n.3
  one_next basis line E F m n = m.1 ∙ sym n.1
  one_next (basic more) line E F m n = m.3 ∙ sym n.3
  one_next upper line E F m n =
      m.3 ∙ ap (repeated (at 0)) (one_count (codes "UPPER") line m.0 n.0 refl m.2 n.2) ∙ sym n.3
  one_next (at least more) line E F m n =
      let here = number_value (codes "AT") line m.0 refl (small m.0 m.2) m.3 in
      let there = number_value (codes "AT") line n.0 refl (small n.0 n.2) n.3 in
      m.4 ∙ ap (λ q. repeated (at (q + 1)) more) (sym here ∙ there) ∙ sym n.4
  one_next log_or_end line E F (inl m) (inl n) = m.1 ∙ sym n.1
  one_next log_or_end line E F (inl m) (inr n) = absurd (end_no_log line m.0 (count_word (codes "LOG") line n.0 refl n.1))
  one_next log_or_end line E F (inr m) (inl n) = absurd (end_no_log line n.0 (count_word (codes "LOG") line m.0 refl m.1))
  one_next log_or_end line E F (inr m) (inr n) =
      m.2 ∙ ap (λ count. repeated entry count ++ end ∷ []) (one_count (codes "LOG") line m.0 n.0 refl m.1 n.1) ∙ sym n.2
  one_next (entry more) line E F m n = m.3 ∙ sym n.3
  one_next end line E F m n = m.1 ∙ sym n.1
