-- The lines of a report's text are the report's lines.
use Rattle.std.proofs.Common.{◌≡◌, ◌≢◌, inl, inr, ℕ, ◌+◌, ◌^◌, ◌<◌, ◌≤◌, List, [], ◌∷◌, ◌++◌, length, map, Bool, true, false, refl, sym, ◌∙◌, ap, arith, append_assoc, length-append}
use Rattle.std.specs.Prelude.{codes, ◌==◌, not, if◌then◌else◌}
use Rattle.std.specs.Fmt.{decimal}
use Rattle.std.specs.List.{All, flat_map, list_all}
use Rattle.std.proofs.lemmas.Bool.Decides.{nat_tests}
use Rattle.std.proofs.lemmas.List.{append_cancel_right}
use Rattle.std.proofs.lemmas.List.Elements.{All-head, All-tail}
use Rattle.std.proofs.lemmas.List.Folds.{list_all-append}
use Rattle.std.proofs.lemmas.List.Sums.{AllPass-from_list_all, list_all-from_AllPass}
use Rattle.rational.specs.Rational.{ℚ}
use Rattle.rational.specs.Width.{FitsWidth}
use Rattle.lp_text.specs.Fraction.{fraction_text}
use Rattle.lp_text.specs.Inner.LineText.{IsFreeOfFeeds, line_text}
use Rattle.lp_text.specs.Lines.{Line, lines_of, size_of, text_of}
use Rattle.lp_text.specs.Report.{value_line}
use Rattle.lp_text.proofs.LinesLemmas.{ended, flat_map-lines_of, lines_of-ended}
use Rattle.report_lines.specs.FirstFlaw.{bytes_of, sizes}
use Rattle.report_reader.specs.Reading.{IsUpToFeed}
use Rattle.report_laws.proofs.Numbers.{both, decimal_passes, fraction_passes}
use Rattle.report_laws.proofs.OneEnd.{sizes-cons}

-- ── lines without line feeds ──

abbrev pub is_no_feed : ℕ → Bool
is_no_feed c = not (c == 10)

abbrev pub IsFeedless : List ℕ → Type 0
IsFeedless text = list_all is_no_feed text ≡ true

no_feed : (c : ℕ) → is_no_feed c ≡ true → c ≢ 10
no_feed c passes is = grind (arith, nat_tests)

passes_feed : (c : ℕ) → c ≢ 10 → is_no_feed c ≡ true
passes_feed c other = grind (arith, nat_tests)

pub feedless : (text : List ℕ) → IsFreeOfFeeds text → IsFeedless text
feedless text free = list_all-from_AllPass is_no_feed text (λ k d within. passes_feed _ (free k d within))

free_of : (text : List ℕ) → IsFeedless text → IsFreeOfFeeds text
free_of text passes = λ k d within. no_feed _ (AllPass-from_list_all is_no_feed text passes k d within)

pub feedless-append : (a b : List ℕ) → IsFeedless a → IsFeedless b → IsFeedless (a ++ b)
feedless-append a b h k = list_all-append is_no_feed a b ∙ both (list_all is_no_feed a) (list_all is_no_feed b) h k

digit_no_feed : (c : ℕ) → 48 ≤ c → is_no_feed c ≡ true
digit_no_feed c low = grind (arith, nat_tests)

pub decimal_feedless : (n : ℕ) → n < 10 ^ 64 → IsFeedless (decimal n)
decimal_feedless n below = decimal_passes is_no_feed digit_no_feed n below

pub fraction_feedless : (v : ℚ) → FitsWidth 127 v → IsFeedless (fraction_text v)
fraction_feedless v fits = fraction_passes is_no_feed digit_no_feed refl refl v fits

pub value_feedless : (word : List ℕ) (v : ℚ) (name : List ℕ) → IsFeedless word → FitsWidth 127 v → IsFeedless name → IsFeedless (value_line word v name)
value_feedless word v name h fits k =
    feedless-append (word ++ 32 ∷ fraction_text v) (32 ∷ name) (feedless-append word (32 ∷ fraction_text v) h (fraction_feedless v fits)) k

-- ── the lines of a text ──

lines_of-text : (ls : List (List ℕ)) (tail : List ℕ) → All IsFeedless ls → lines_of (text_of ls ++ tail) ≡ map ended ls ++ lines_of tail
lines_of-text [] tail free = refl
lines_of-text (l ∷ ls) tail free =
    let text : text_of (l ∷ ls) ++ tail ≡ l ++ 10 ∷ (text_of ls ++ tail) =
    append_assoc (l ++ 10 ∷ []) (text_of ls) tail ∙ append_assoc l (10 ∷ []) (text_of ls ++ tail) in
    ap lines_of text
    ∙ lines_of-ended l (text_of ls ++ tail) (free_of l (All-head IsFeedless l ls free))
    ∙ ap (λ rest. ended l ∷ rest) (lines_of-text ls tail (All-tail IsFeedless l ls free))

text_of-append : (ls ms : List (List ℕ)) → text_of (ls ++ ms) ≡ text_of ls ++ text_of ms
text_of-append [] ms = refl
text_of-append (l ∷ ls) ms = ap (λ t. (l ++ 10 ∷ []) ++ t) (text_of-append ls ms) ∙ sym (append_assoc (l ++ 10 ∷ []) (text_of ls) (text_of ms))

bytes_of-ended : (ls : List (List ℕ)) (rest : List Line) → bytes_of (map ended ls ++ rest) ≡ ls ++ bytes_of rest
bytes_of-ended [] rest = refl
bytes_of-ended (l ∷ ls) rest = ap (λ t. l ∷ t) (bytes_of-ended ls rest)

-- ── how many lines a text has ──

length_lines : (lines : List Line) → length (flat_map line_text lines) ≡ sizes lines
length_lines [] = refl
length_lines (line ∷ lines) =
    let one = length-append (line_text line) (flat_map line_text lines) in
    let more = length_lines lines in
    let sum = sizes-cons line lines in
    let first : length (line_text line) ≡ size_of line = size line.is_ended in
    omega (arith, one, more, sum, first)
  where
    size : (b : Bool) → length (line.bytes ++ (if b then 10 ∷ [] else [])) ≡ length line.bytes + (if b then 1 else 0)
    size true = length-append line.bytes (10 ∷ [])
    size false = length-append line.bytes []

length_text : (ls : List (List ℕ)) → length ls ≤ length (text_of ls)
length_text [] = omega arith
length_text (l ∷ ls) =
    let more = length_text ls in
    let all = length-append (l ++ 10 ∷ []) (text_of ls) in
    let one = length-append l (10 ∷ []) in
    omega (arith, more, all, one)

-- a text has no fewer bytes than it has lines, but for the last line feed
pub few_lines : (ls : List (List ℕ)) (text : List ℕ) → IsUpToFeed text (text_of ls) → length ls ≤ sizes (lines_of text) + 1
few_lines ls text is =
    let bytes = length_lines (lines_of text) in
    let whole = ap length (flat_map-lines_of text) in
    let lines = length_text ls in
    let added = length-append text (10 ∷ []) in
    each is (omega (arith, bytes, whole)) lines added
  where
    each : IsUpToFeed text (text_of ls) → length text ≡ sizes (lines_of text) → length ls ≤ length (text_of ls) → length (text ++ 10 ∷ []) ≡ length text + 1
        → length ls ≤ sizes (lines_of text) + 1
    each (inl same) bytes lines added = let e = ap length same in omega (arith, e, bytes, lines)
    each (inr same) bytes lines added = let e = ap length same in omega (arith, e, bytes, lines, added)

-- lines of which the last is the end, whether or not a line feed follows it
module _ (ls : List (List ℕ)) (free : All IsFeedless ls) where
  with_feed : (text : List ℕ) → text ≡ text_of (ls ++ codes "END" ∷ []) → lines_of text ≡ map ended ls ++ lines_of (text_of (codes "END" ∷ []))
  with_feed text is = ap lines_of (is ∙ text_of-append ls (codes "END" ∷ [])) ∙ lines_of-text ls (text_of (codes "END" ∷ [])) free

  without_feed : (text : List ℕ) → text ++ 10 ∷ [] ≡ text_of (ls ++ codes "END" ∷ []) → lines_of text ≡ map ended ls ++ lines_of (codes "END")
  without_feed text is =
      let cut : text ≡ text_of ls ++ codes "END" =
      append_cancel_right text (text_of ls ++ codes "END") (10 ∷ [])
      (is ∙ text_of-append ls (codes "END" ∷ []) ∙ sym (append_assoc (text_of ls) (codes "END") (10 ∷ []))) in
      ap lines_of cut ∙ lines_of-text ls (codes "END") free

  pub lines_are : (text : List ℕ) → IsUpToFeed text (text_of (ls ++ codes "END" ∷ [])) → bytes_of (lines_of text) ≡ ls ++ codes "END" ∷ []
  lines_are text (inl is) = ap bytes_of (with_feed text is) ∙ bytes_of-ended ls (lines_of (text_of (codes "END" ∷ [])))
  lines_are text (inr is) = ap bytes_of (without_feed text is) ∙ bytes_of-ended ls (lines_of (codes "END"))
