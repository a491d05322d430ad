-- Laws of the lines of a text, for whoever reads a text line by line.
use Rattle.std.proofs.Common.{◌≡◌, ◌≢◌, ℕ, ◌≤◌, true, false, List, [], ◌∷◌, ◌++◌, filter, eqb, refl, sym, ap, subst, ◌∙◌, append_assoc, arith, inl, inr}
use Rattle.std.proofs.lemmas.List.Elements.{All-head, All-tail, All-nil, All-cons}
use Rattle.std.proofs.lemmas.Bool.{ne_eqb}
use Rattle.std.proofs.lemmas.Bool.Decides.{eqb_tells}
use Rattle.std.specs.List.{flat_map}
use Rattle.lp_text.specs.Lines.{Line, lines_of, onto_first, size_of, whole_lines}
use Rattle.lp_text.specs.Inner.LineText.{line_text, IsFreeOfFeeds}

-- a line of bytes that end in a line feed
abbrev pub ended : List ℕ → Line
ended bytes = record { bytes = bytes; is_ended = true }

-- a last line, which lacks its line feed
abbrev pub unended : List ℕ → Line
unended bytes = record { bytes = bytes; is_ended = false }

-- ── a text whose first line is known ──

not_feed : (c : ℕ) (text : List ℕ) → IsFreeOfFeeds (c ∷ text) → eqb c 10 ≡ false
not_feed c text free = ne_eqb c 10 (All-head (λ x. x ≢ 10) c text free)

pub lines_of-ended : (bytes rest : List ℕ) → IsFreeOfFeeds bytes → lines_of (bytes ++ 10 ∷ rest) ≡ ended bytes ∷ lines_of rest
lines_of-ended [] rest free = refl
lines_of-ended (c ∷ bytes) rest free =
    rw (not_feed c bytes free, lines_of-ended bytes rest (All-tail (λ x. x ≢ 10) c bytes free)) refl

pub lines_of-unended : (c : ℕ) (bytes : List ℕ) → IsFreeOfFeeds (c ∷ bytes) → lines_of (c ∷ bytes) ≡ unended (c ∷ bytes) ∷ []
lines_of-unended c [] free = rw (not_feed c [] free) refl
lines_of-unended c (d ∷ bytes) free =
    rw (not_feed c (d ∷ bytes) free, lines_of-unended d bytes (All-tail (λ x. x ≢ 10) c (d ∷ bytes) free)) refl

-- no line stands whole in a text without line feeds
pub whole_lines-free : (text : List ℕ) → IsFreeOfFeeds text → whole_lines text ≡ []
whole_lines-free [] free = refl
whole_lines-free (c ∷ text) free = rw (lines_of-unended c text free) refl

-- ── a text is its lines ──

onto_first-text : (c : ℕ) (lines : List Line) → flat_map line_text (onto_first c lines) ≡ c ∷ flat_map line_text lines
onto_first-text c [] = refl
onto_first-text c (line ∷ lines) = refl

pub flat_map-lines_of : (text : List ℕ) → flat_map line_text (lines_of text) ≡ text
flat_map-lines_of [] = refl
flat_map-lines_of (c ∷ text) = elim (eqb_tells c 10) [
  | inl feed ↦ rw (feed.0, feed.1, flat_map-lines_of text) refl
  | inr other ↦ rw (other.0, onto_first-text c (lines_of text), flat_map-lines_of text) refl
]

-- a text is its first line and the text of the others
pub text_from_first : (text rest : List ℕ) (line : Line) → lines_of text ≡ line ∷ lines_of rest → text ≡ line_text line ++ rest
text_from_first text rest line first =
    sym (flat_map-lines_of text) ∙ ap (flat_map line_text) first ∙ ap (λ others. line_text line ++ others) (flat_map-lines_of rest)

-- ── what holds of the first line ──

FirstIsFree : List Line → Type 0
FirstIsFree [] = Unit {0}
FirstIsFree (line ∷ lines) = IsFreeOfFeeds line.bytes

onto_first-free : (c : ℕ) (lines : List Line) → c ≢ 10 → FirstIsFree lines → FirstIsFree (onto_first c lines)
unfolding FirstIsFree
onto_first-free c [] other free = All-cons (λ x. x ≢ 10) c [] other (All-nil (λ x. x ≢ 10))
onto_first-free c (line ∷ lines) other free = All-cons (λ x. x ≢ 10) c line.bytes other free

lines_of-free : (text : List ℕ) → FirstIsFree (lines_of text)
unfolding FirstIsFree
lines_of-free [] = tt
lines_of-free (c ∷ text) = elim (eqb_tells c 10) [
  | inl feed ↦ rw (feed.0) (All-nil (λ x. x ≢ 10))
  | inr other ↦ rw (other.0) (onto_first-free c (lines_of text) other.1 (lines_of-free text))
]

-- no line feed stands in a line
pub first-free : (text : List ℕ) (line : Line) (lines : List Line) → lines_of text ≡ line ∷ lines → IsFreeOfFeeds line.bytes
unfolding FirstIsFree
first-free text line lines first = subst FirstIsFree first (lines_of-free text)

ended_text : (text rest more : List ℕ) (line : Line) → lines_of text ≡ line ∷ lines_of rest → line.is_ended ≡ true
    → text ++ more ≡ line.bytes ++ 10 ∷ (rest ++ more)
ended_text text rest more line first is_ended =
    let feed : line_text line ≡ line.bytes ++ 10 ∷ [] = rw is_ended refl in
    ap (λ t. t ++ more) (text_from_first text rest line first ∙ ap (λ t. t ++ rest) feed) ∙ simp append_assoc

-- a first line that ends in a line feed stays the first line, whatever follows the text
pub lines_of-longer : (text rest more : List ℕ) (line : Line) → lines_of text ≡ line ∷ lines_of rest → line.is_ended ≡ true
    → lines_of (text ++ more) ≡ line ∷ lines_of (rest ++ more)
lines_of-longer text rest more line first is_ended =
    let same : line ≡ ended line.bytes = ap (λ b. record { bytes = line.bytes; is_ended = b }) is_ended in
    ap lines_of (ended_text text rest more line first is_ended)
    ∙ lines_of-ended line.bytes (rest ++ more) (first-free text line (lines_of rest) first)
    ∙ ap (λ l. l ∷ lines_of (rest ++ more)) (sym same)

pub whole_lines-longer : (text rest more : List ℕ) (line : Line) → lines_of text ≡ line ∷ lines_of rest → line.is_ended ≡ true
    → whole_lines (text ++ more) ≡ line ∷ whole_lines (rest ++ more)
whole_lines-longer text rest more line first is_ended =
    ap (filter (λ l. l.is_ended)) (lines_of-longer text rest more line first is_ended) ∙ rw is_ended refl

-- a line has a byte: its line feed, or else one before
FirstHasByte : List Line → Type 0
FirstHasByte [] = Unit {0}
FirstHasByte (line ∷ lines) = 1 ≤ size_of line

onto_first-byte : (c : ℕ) (lines : List Line) → FirstHasByte lines → FirstHasByte (onto_first c lines)
unfolding FirstHasByte
onto_first-byte c [] least = omega arith
onto_first-byte c (line ∷ lines) least = omega arith

lines_of-byte : (text : List ℕ) → FirstHasByte (lines_of text)
unfolding FirstHasByte
lines_of-byte [] = tt
lines_of-byte (c ∷ text) = elim (eqb_tells c 10) [
  | inl feed ↦ rw (feed.0) (omega arith)
  | inr other ↦ rw (other.0) (onto_first-byte c (lines_of text) (lines_of-byte text))
]

pub size_of-first : (text : List ℕ) (line : Line) (lines : List Line) → lines_of text ≡ line ∷ lines → 1 ≤ size_of line
unfolding FirstHasByte
size_of-first text line lines first = subst FirstHasByte first (lines_of-byte text)
