-- The words of a text, one after the other.
use Rattle.std.proofs.Common.{◌≡◌, ◌≢◌, ℕ, zero, suc, ◌<◌, ◌≤◌, ◌-◌, Bool, true, false, cond, List, [], ◌∷◌, take, drop, length, slice_index, refl, sym, ap, ◌∙◌, arith}
use Rattle.std.proofs.lemmas.List.{length-drop, take_all}
use Rattle.std.proofs.lemmas.List.Elements.{All-head, All-tail}
use Rattle.std.proofs.lemmas.Bool.{ne_eqb, eq-eqb}
use Rattle.std.specs.List.{All}
use Rattle.lp_text.specs.Cards.{is_blank, onto_first_piece, pieces_of, without_leading, words_of}
use Rattle.lp_text.proofs.Pieces.{full, full-first}

-- ── blanks before a text ──

words-blank : (c : ℕ) (text : List ℕ) → is_blank c ≡ true → words_of (c ∷ text) ≡ words_of text
words-blank c text blank = ap (λ b. full (cond b ([] ∷ pieces_of text) (onto_first_piece c (pieces_of text)))) blank

words-without_leading : (text : List ℕ) → words_of (without_leading text) ≡ words_of text
words-without_leading [] = refl
words-without_leading (c ∷ text) = by (is_blank c) refl (words-without_leading text)
  where
    by : (b : Bool) → is_blank c ≡ b → words_of (without_leading text) ≡ words_of text → words_of (cond b (without_leading text) (c ∷ text)) ≡ words_of (c ∷ text)
    by true blank same = same ∙ sym (words-blank c text blank)
    by false other same = refl

pub length-without_leading : (text : List ℕ) → length (without_leading text) ≤ length text
length-without_leading [] = omega arith
length-without_leading (c ∷ text) = by (is_blank c) (length-without_leading text)
  where
    by : (b : Bool) → length (without_leading text) ≤ length text → length (cond b (without_leading text) (c ∷ text)) ≤ suc (length text)
    by true shorter = omega (arith, shorter)
    by false shorter = omega arith

-- ── a word at the front ──

behind : List ℕ → List (List ℕ)
behind [] = []
behind (c ∷ text) = pieces_of text

pieces-front : (c : ℕ) (text : List ℕ) → c ≢ 32 → pieces_of (c ∷ text) ≡ onto_first_piece c (pieces_of text)
pieces-front c text other = ap (λ b. cond b ([] ∷ pieces_of text) (onto_first_piece c (pieces_of text))) (ne_eqb c 32 other)

pieces-first : (c : ℕ) (text : List ℕ) (end : ℕ) → end ≤ length text → All (λ x. x ≢ 32) (c ∷ take end text)
    → (end < length text → slice_index text end ≡ 32) → pieces_of (c ∷ text) ≡ (c ∷ take end text) ∷ behind (drop end text)
unfolding behind
pieces-first c [] zero within word blank = pieces-front c [] (All-head (λ x. x ≢ 32) c [] word)
pieces-first c [] (suc end) within word blank = absurd (omega arith)
pieces-first c (d ∷ text) zero within word blank =
    pieces-front c (d ∷ text) (All-head (λ x. x ≢ 32) c [] word)
    ∙ ap (λ b. onto_first_piece c (cond b ([] ∷ pieces_of text) (onto_first_piece d (pieces_of text)))) (eq-eqb d 32 (blank (omega arith)))
pieces-first c (d ∷ text) (suc end) within word blank =
    let rest = All-tail (λ x. x ≢ 32) c (d ∷ take end text) word in
    pieces-front c (d ∷ text) (All-head (λ x. x ≢ 32) c (d ∷ take end text) word)
    ∙ ap (onto_first_piece c) (pieces-first d text end (omega arith) rest (λ l. blank (omega arith)))

words-behind : (text : List ℕ) → (0 < length text → slice_index text 0 ≡ 32) → full (behind text) ≡ words_of text
unfolding behind
words-behind [] blank = refl
words-behind (c ∷ text) blank = sym (words-blank c text (eq-eqb c 32 (blank (omega arith))))

index-drop : (text : List ℕ) (end : ℕ) → (end < length text → slice_index text end ≡ 32) → 0 < length (drop end text) → slice_index (drop end text) 0 ≡ 32
index-drop text zero blank some = blank some
index-drop [] (suc end) blank some = absurd (omega arith)
index-drop (c ∷ text) (suc end) blank some = index-drop text end (λ l. blank (omega arith)) some

-- the bytes before a blank are the first word
words-first : (text : List ℕ) (end : ℕ) → end ≤ length text → All (λ x. x ≢ 32) (take end text)
    → (end < length text → slice_index text end ≡ 32) → 0 < end → words_of text ≡ take end text ∷ words_of (drop end text)
words-first text zero within word blank some = absurd (omega arith)
words-first [] (suc end) within word blank some = absurd (omega arith)
words-first (c ∷ text) (suc end) within word blank some =
    ap full (pieces-first c text end (omega arith) word (λ l. blank (omega arith)))
    ∙ full-first c (take end text) (behind (drop end text))
    ∙ ap (λ ws. (c ∷ take end text) ∷ ws) (words-behind (drop end text) (index-drop text end (λ l. blank (omega arith))))

-- ── the first word behind blanks ──

pub words-split : (text front rest : List ℕ) (end : ℕ) → rest ≡ take (length front - end) (drop end front) → front ≡ without_leading text → end ≤ length front → All (λ x. x ≢ 32) (take end front)
    → (end < length front → slice_index front end ≡ 32) → end ≢ 0 → words_of text ≡ take end front ∷ words_of rest
words-split text front rest end rest_is is within word blank some =
    sym (words-without_leading text) ∙ ap words_of (sym is) ∙ words-first front end within word blank (omega arith)
    ∙ ap (λ r. take end front ∷ words_of r) (sym (take_all (length front - end) (drop end front) (omega (arith, length-drop end front))) ∙ sym rest_is)

blank_first : (text : List ℕ) → (0 < length (without_leading text) → slice_index (without_leading text) 0 ≡ 32) → words_of text ≡ []
blank_first [] blank = refl
blank_first (c ∷ text) blank = by (is_blank c) refl (blank_first text) blank
  where
    by : (b : Bool) → is_blank c ≡ b → ((0 < length (without_leading text) → slice_index (without_leading text) 0 ≡ 32) → words_of text ≡ []) → (0 < length (cond b (without_leading text) (c ∷ text)) → slice_index (cond b (without_leading text) (c ∷ text)) 0 ≡ 32) → words_of (c ∷ text) ≡ []
    by true is rest blank = words-blank c text is ∙ rest blank
    by false other rest blank = absurd (cc (eq-eqb c 32 (blank (omega arith)), other))

pub words-none : (text front : List ℕ) (end : ℕ) → front ≡ without_leading text → (end < length front → slice_index front end ≡ 32) → end ≡ 0 → words_of text ≡ []
words-none text front end is blank none = blank_first text (λ some. ap (λ f. slice_index f 0) (sym is) ∙ ap (slice_index front) (sym none) ∙ blank (omega (arith, ap length is, none, some)))
