-- Lines that are read as a report end in one way: as a whole report, or at one flaw of one line.
use Rattle.std.proofs.Common.{◌≡◌, inl, inr, ℕ, ◌+◌, ◌^◌, ◌<◌, ◌≤◌, List, [], ◌∷◌, ◌++◌, length, Option, None, Some, refl, sym, ◌∙◌, ap, subst, arith, append-nil}
use Rattle.std.specs.List.{All}
use Rattle.std.proofs.lemmas.List.Elements.{All-head, All-tail}
use Rattle.lp_model.specs.Deck.{Deck}
use Rattle.lp_text.specs.Limits.{report_limit, report_line_limit}
use Rattle.lp_text.specs.Lines.{Line, size_of}
use Rattle.report_lines.specs.declared.flaw.Flaw.{Flaw}
use Rattle.report_lines.specs.FirstFlaw.{Expected, HasFirstFlaw, HasNextFlaw, IsWithinLimits, Meets, Reaches, bytes_of, column_total, sizes, version}
use Rattle.report_reader.proofs.Moving.{sizes-append}
use Rattle.report_laws.proofs.OneFlaw.{IsWorded, no_flaw, one_flaw, one_next}
use Rattle.report_laws.proofs.Worded.{AreWorded, worded_on}

-- the lines are short, and their bytes with those before them are within the limit
abbrev AreShort : ℕ → List Line → Type 0
AreShort used lines = (used + sizes lines ≤ report_limit) × All (λ line. length line.bytes ≤ report_line_limit) lines

pub sizes-cons : (line : Line) (lines : List Line) → sizes (line ∷ lines) ≡ size_of line + sizes lines
sizes-cons line lines = let sum = sizes-append (line ∷ []) lines in omega (arith, sum)

first_short : (used : ℕ) (line : Line) (lines : List Line) → AreShort used (line ∷ lines)
    → (used + size_of line ≤ report_limit) × (length line.bytes ≤ report_line_limit) × AreShort (used + size_of line) lines
first_short used line lines h = (
  omega (arith, h.0, sizes-cons line lines),
  All-head (λ l. length l.bytes ≤ report_line_limit) line lines h.1,
  (omega (arith, h.0, sizes-cons line lines), All-tail (λ l. length l.bytes ≤ report_line_limit) line lines h.1),
)

-- how the lines end where these are expected: with none, or with the flaw of the next
abbrev Ends : Deck → List Expected → ℕ → List Line → Option Flaw → Type 0
Ends d E used rest None = (E ≡ []) × (rest ≡ [])
Ends d E used rest (Some found) = HasNextFlaw d E used rest found

-- ── where the next line has a flaw, it has no other ──

line_flaws : (d : Deck) (E : List Expected) (used : ℕ) (line : Line) (rest : List Line) (f g : Flaw)
    → HasNextFlaw d E used (line ∷ rest) f → HasNextFlaw d E used (line ∷ rest) g → f ≡ g
line_flaws d [] used line rest f g (inl h) (inl k) = h.1 ∙ sym k.1
line_flaws d [] used line rest f g (inl h) (inr (inl k)) = absurd (omega (arith, h.0, k.0))
line_flaws d [] used line rest f g (inl h) (inr (inr k)) = absurd (omega (arith, h.0, k.0))
line_flaws d [] used line rest f g (inr (inl h)) (inl k) = absurd (omega (arith, h.0, k.0))
line_flaws d [] used line rest f g (inr (inl h)) (inr (inl k)) = h.2 ∙ sym k.2
line_flaws d [] used line rest f g (inr (inl h)) (inr (inr k)) = absurd (omega (arith, h.1, k.1))
line_flaws d [] used line rest f g (inr (inr h)) (inl k) = absurd (omega (arith, h.0, k.0))
line_flaws d [] used line rest f g (inr (inr h)) (inr (inl k)) = absurd (omega (arith, h.1, k.1))
line_flaws d [] used line rest f g (inr (inr h)) (inr (inr k)) = h.2 ∙ sym k.2
line_flaws d (e ∷ others) used line rest f g (inl h) (inl k) = h.1 ∙ sym k.1
line_flaws d (e ∷ others) used line rest f g (inl h) (inr (inl k)) = absurd (omega (arith, h.0, k.0))
line_flaws d (e ∷ others) used line rest f g (inl h) (inr (inr k)) = absurd (omega (arith, h.0, k.0))
line_flaws d (e ∷ others) used line rest f g (inr (inl h)) (inl k) = absurd (omega (arith, h.0, k.0))
line_flaws d (e ∷ others) used line rest f g (inr (inl h)) (inr (inl k)) = h.2 ∙ sym k.2
line_flaws d (e ∷ others) used line rest f g (inr (inl h)) (inr (inr k)) = absurd (omega (arith, h.1, k.1))
line_flaws d (e ∷ others) used line rest f g (inr (inr h)) (inl k) = absurd (omega (arith, h.0, k.0))
line_flaws d (e ∷ others) used line rest f g (inr (inr h)) (inr (inl k)) = absurd (omega (arith, h.1, k.1))
line_flaws d (e ∷ others) used line rest f g (inr (inr h)) (inr (inr k)) = one_flaw d e line.bytes f g h.2 k.2

next_flaws : (d : Deck) (E : List Expected) (used : ℕ) (rest : List Line) (f g : Flaw) → HasNextFlaw d E used rest f → HasNextFlaw d E used rest g → f ≡ g
next_flaws d [] used [] f g h k = absurd h
next_flaws d (e ∷ others) used [] f g h k = h ∙ sym k
next_flaws d E used (line ∷ rest) f g h k = line_flaws d E used line rest f g h k

ended_flawless : (d : Deck) (E : List Expected) (used : ℕ) (rest : List Line) (f : Flaw) → E ≡ [] → rest ≡ [] → HasNextFlaw d E used rest f → ⊥
ended_flawless d [] used [] f none all h = h
ended_flawless d [] used (line ∷ rest) f none all h = cc
ended_flawless d (e ∷ others) used rest f none all h = cc

one_ending : (d : Deck) (E : List Expected) (used : ℕ) (rest : List Line) (f g : Option Flaw) → Ends d E used rest f → Ends d E used rest g → f ≡ g
one_ending d E used rest None None h k = refl
one_ending d E used rest None (Some g) h k = absurd (ended_flawless d E used rest g h.0 h.1 k)
one_ending d E used rest (Some f) None h k = absurd (ended_flawless d E used rest f k.0 k.1 h)
one_ending d E used rest (Some f) (Some g) h k = ap Some (next_flaws d E used rest f g h k)

-- ── and a line as expected is no end ──

met_flawless : (d : Deck) → column_total d < 2 ^ 64 → (e : Expected) (others next : List Expected) (used : ℕ) (line : Line) (rest : List Line) (f : Flaw)
    → IsWorded e → Meets d e line.bytes next → used + size_of line ≤ report_limit → length line.bytes ≤ report_line_limit
    → HasNextFlaw d (e ∷ others) used (line ∷ rest) f → ⊥
met_flawless d numbered e others next used line rest f worded m few short (inl h) = omega (arith, h.0, few)
met_flawless d numbered e others next used line rest f worded m few short (inr (inl h)) = omega (arith, h.1, short)
met_flawless d numbered e others next used line rest f worded m few short (inr (inr h)) = no_flaw d numbered e line.bytes next f worded m h.2

no_end : (d : Deck) → column_total d < 2 ^ 64 → (E F : List Expected) (used : ℕ) (line : Line) (lines rest : List Line) (f : Option Flaw) → AreWorded E
    → Ends d E used rest f → rest ≡ line ∷ lines → (behind : List (List ℕ)) → Reaches d E (line.bytes ∷ behind) F
    → used + size_of line ≤ report_limit → length line.bytes ≤ report_line_limit → ⊥
no_end d numbered [] F used line lines rest f worded ends is behind reaches few short = reaches
no_end d numbered (e ∷ others) F used line lines rest None worded ends is behind reaches few short = let none = ends.0 in cc
no_end d numbered (e ∷ others) F used line lines rest (Some f) worded ends is behind reaches few short =
    met_flawless d numbered e others reaches.0 used line lines f worded.0 reaches.1 few short (subst (λ r. HasNextFlaw d (e ∷ others) used r f) is ends)

-- ── one end ──

module _ (d : Deck) (numbered : column_total d < 2 ^ 64) (f g : Option Flaw) where
  one_end : (before before' rest rest' : List Line) (E F F' : List Expected) (used : ℕ) → before ++ rest ≡ before' ++ rest' → AreWorded E
      → Reaches d E (bytes_of before) F → AreShort used before → Ends d F (used + sizes before) rest f
      → Reaches d E (bytes_of before') F' → AreShort used before' → Ends d F' (used + sizes before') rest' g
      → (length before ≡ length before') × (f ≡ g)
  one_end [] [] rest rest' E F F' used same worded met short ends met' short' ends' = (
    refl,
    one_ending d E (used + 0) rest f g (subst (λ E. Ends d E (used + 0) rest f) (sym met) ends)
        (subst (λ E. Ends d E (used + 0) rest g) (sym met') (subst (λ r. Ends d F' (used + 0) r g) (sym same) ends')),
  )
  one_end [] (line ∷ before') rest rest' E F F' used same worded met short ends met' short' ends' =
      let one = first_short used line before' short' in
      let none : used + 0 ≡ used = omega arith in
      absurd (no_end d numbered E F' used line (before' ++ rest') rest f worded
      (subst (λ n. Ends d E n rest f) none (subst (λ E. Ends d E (used + 0) rest f) (sym met) ends)) same (bytes_of before') met' one.0 one.1)
  one_end (line ∷ before) [] rest rest' E F F' used same worded met short ends met' short' ends' =
      let one = first_short used line before short in
      let none : used + 0 ≡ used = omega arith in
      absurd (no_end d numbered E F used line (before ++ rest) rest' g worded
      (subst (λ n. Ends d E n rest' g) none (subst (λ E. Ends d E (used + 0) rest' g) (sym met') ends')) (sym same) (bytes_of before) met one.0 one.1)
  one_end (line ∷ before) (line' ∷ before') rest rest' [] F F' used same worded met short ends met' short' ends' = absurd met
  one_end (line ∷ before) (line' ∷ before') rest rest' (e ∷ others) F F' used same worded met short ends met' short' ends' =
      let first : line ≡ line' = cc in
      let behind : before ++ rest ≡ before' ++ rest' = cc in
      let size : size_of line' ≡ size_of line = ap size_of (sym first) in
      let next : met'.0 ≡ met.0 = one_next d numbered e line.bytes met'.0 met.0 (subst (λ (l : Line). Meets d e l.bytes met'.0) (sym first) met'.1) met.1 in
      let sum : used + sizes (line ∷ before) ≡ used + size_of line + sizes before = omega (arith, sizes-cons line before) in
      let sum' : used + sizes (line' ∷ before') ≡ used + size_of line + sizes before' = omega (arith, size, sizes-cons line' before') in
      let one = first_short used line before short in
      let one' = first_short used line' before' short' in
      let rest_of = one_end before before' rest rest' (met.0 ++ others) F F' (used + size_of line) behind (worded_on d e others line.bytes met.0 worded met.1)
      met.2 one.2 (subst (λ n. Ends d F n rest f) sum ends)
      (subst (λ E. Reaches d (E ++ others) (bytes_of before') F') next met'.2)
      (subst (λ n. AreShort (used + n) before') size one'.2) (subst (λ n. Ends d F' n rest' g) sum' ends') in
      (omega (arith, rest_of.0), rest_of.1)

module _ (d : Deck) (numbered : column_total d < 2 ^ 64) (lines : List Line) where
  none_used : (before : List Line) → IsWithinLimits before → AreShort 0 before
  none_used before h = (omega (arith, h.few), h.short)

  no_sizes : (before : List Line) → 0 + sizes before ≡ sizes before
  no_sizes before = omega arith

  -- the first flaw is one
  pub one_first_flaw : (m n : ℕ) (f g : Flaw) → HasFirstFlaw d lines m f → HasFirstFlaw d lines n g → (m ≡ n) × (f ≡ g)
  one_first_flaw m n f g h k =
      let same = one_end d numbered (Some f) (Some g) h.before k.before h.rest k.rest (version ∷ []) h.expected k.expected 0 (sym h.split ∙ k.split) (tt, tt)
      h.met (none_used h.before h.within) (subst (λ n. HasNextFlaw d h.expected n h.rest f) (sym (no_sizes h.before)) h.flaw)
      k.met (none_used k.before k.within) (subst (λ n. HasNextFlaw d k.expected n k.rest g) (sym (no_sizes k.before)) k.flaw) in
      let flaws : f ≡ g = let both = same.1 in cc in
      (h.number_is ∙ ap (λ n. n + 1) same.0 ∙ sym k.number_is, flaws)

  -- a whole report has none
  pub whole_flawless : (n : ℕ) (f : Flaw) → Reaches d (version ∷ []) (bytes_of lines) [] → IsWithinLimits lines → HasFirstFlaw d lines n f → ⊥
  whole_flawless n f met within h =
      let same = one_end d numbered (Some f) None h.before lines h.rest [] (version ∷ []) h.expected [] 0 (sym h.split ∙ sym (append-nil lines)) (tt, tt)
      h.met (none_used h.before h.within) (subst (λ n. HasNextFlaw d h.expected n h.rest f) (sym (no_sizes h.before)) h.flaw)
      met (none_used lines within) (refl, refl) in
      let both = same.1 in
      cc
