-- The card of a line that was laid out in free form has the tokens that it was laid out from.
use Rattle.std.proofs.Common.{◌≡◌, ℕ, ◌+◌, ◌≤◌, Bool, true, false, ◌&&◌, cond, List, [], ◌∷◌, ◌++◌, length, get_or, take, Some, Ok, refl, sym, ap, ◌∙◌, arith, append_assoc}
use Rattle.std.proofs.Common.{append-nil, length-append, nat_lt}
use Rattle.std.specs.List.{list_all, list_any}
use Rattle.std.proofs.lemmas.Bool.{and_from, and_parts, le-ltb, or_from}
use Rattle.std.proofs.lemmas.Bool.Decides.{nat_tests}
use Rattle.std.proofs.lemmas.List.{take_all}
use Rattle.std.proofs.lemmas.List.Folds.{list_all-append, list_any-append}
use Rattle.deck_tools.specs.Layout.{with_field}
use Rattle.lp_text.specs.Cards.{is_blank, is_printable, onto_first_piece, pieces_of, without_return, words_of}
use Rattle.lp_text.specs.FreeCards.{free_card_in}
use Rattle.lp_text.specs.declared.Form.TheVariants.{Free}
use Rattle.lp_text.proofs.Pieces.{full, full-first}
use Rattle.deck_laws.specs.Spellable.{is_mark}
use Rattle.deck_laws.proofs.FixedCards.{no_return_dropped}

-- ── words ──

-- a byte before a first piece that is not empty
full-onto : (c d : ℕ) (pieces : List (List ℕ)) → full (onto_first_piece c (onto_first_piece d pieces)) ≡ onto_first_piece c (full (onto_first_piece d pieces))
full-onto c d [] = full-first c (d ∷ []) [] ∙ sym (ap (onto_first_piece c) (full-first d [] []))
full-onto c d (piece ∷ pieces) = full-first c (d ∷ piece) pieces ∙ sym (ap (onto_first_piece c) (full-first d piece pieces))

onto-more : (c d : ℕ) (pieces more : List (List ℕ)) → onto_first_piece c (full (onto_first_piece d pieces) ++ more) ≡ onto_first_piece c (full (onto_first_piece d pieces)) ++ more
onto-more c d [] more = ap (λ ps. onto_first_piece c (ps ++ more)) (full-first d [] []) ∙ sym (ap (λ ps. onto_first_piece c ps ++ more) (full-first d [] []))
onto-more c d (piece ∷ pieces) more = ap (λ ps. onto_first_piece c (ps ++ more)) (full-first d piece pieces) ∙ sym (ap (λ ps. onto_first_piece c ps ++ more) (full-first d piece pieces))

module _ (text : List ℕ) where
  -- what stands before a blank and what stands behind it
  words-cut : (line : List ℕ) → words_of (line ++ 32 ∷ text) ≡ words_of line ++ words_of text
  words-cut [] = refl
  words-cut (c ∷ line) = by (is_blank c) line (words-cut line)
    where
      by : (b : Bool) (line : List ℕ) → words_of (line ++ 32 ∷ text) ≡ words_of line ++ words_of text
          → full (cond b ([] ∷ pieces_of (line ++ 32 ∷ text)) (onto_first_piece c (pieces_of (line ++ 32 ∷ text))))
          ≡ full (cond b ([] ∷ pieces_of line) (onto_first_piece c (pieces_of line))) ++ words_of text
      by true line rest = rest
      by false [] rest = full-first c [] (pieces_of text) ∙ sym (ap (λ ps. ps ++ words_of text) (full-first c [] []))
      by false (d ∷ line) rest = next (is_blank d) rest
        where
          next : (b : Bool) → full (cond b ([] ∷ pieces_of (line ++ 32 ∷ text)) (onto_first_piece d (pieces_of (line ++ 32 ∷ text))))
              ≡ full (cond b ([] ∷ pieces_of line) (onto_first_piece d (pieces_of line))) ++ words_of text
              → full (onto_first_piece c (cond b ([] ∷ pieces_of (line ++ 32 ∷ text)) (onto_first_piece d (pieces_of (line ++ 32 ∷ text)))))
              ≡ full (onto_first_piece c (cond b ([] ∷ pieces_of line) (onto_first_piece d (pieces_of line)))) ++ words_of text
          next true rest =
              full-first c [] (pieces_of (line ++ 32 ∷ text)) ∙ ap (λ ps. (c ∷ []) ∷ ps) rest ∙ sym (ap (λ ps. ps ++ words_of text) (full-first c [] (pieces_of line)))
          next false rest =
              full-onto c d (pieces_of (line ++ 32 ∷ text)) ∙ ap (onto_first_piece c) rest ∙ onto-more c d (pieces_of line) (words_of text)
              ∙ sym (ap (λ ps. ps ++ words_of text) (full-onto c d (pieces_of line)))

pub mark_no_blank : (c : ℕ) → is_mark c ≡ true → is_blank c ≡ false
mark_no_blank c h = grind (arith, nat_tests)

mark_prints : (c : ℕ) → is_mark c ≡ true → is_printable c ≡ true
mark_prints c h = grind (arith, nat_tests)

pub marks_print : (text : List ℕ) → list_all is_mark text ≡ true → list_all is_printable text ≡ true
marks_print [] h = refl
marks_print (c ∷ text) h = let each = and_parts (is_mark c) (list_all is_mark text) h in
    and_from (is_printable c) (list_all is_printable text) (mark_prints c each.0) (marks_print text each.1)

pieces-token : (c : ℕ) (text : List ℕ) → list_all is_mark (c ∷ text) ≡ true → pieces_of (c ∷ text) ≡ (c ∷ text) ∷ []
pieces-token c [] h = ap (λ b. cond b ([] ∷ []) ((c ∷ []) ∷ [])) (mark_no_blank c (and_parts (is_mark c) true h).0)
pieces-token c (d ∷ text) h =
    let each = and_parts (is_mark c) (list_all is_mark (d ∷ text)) h in
    ap (λ b. cond b ([] ∷ pieces_of (d ∷ text)) (onto_first_piece c (pieces_of (d ∷ text)))) (mark_no_blank c each.0)
    ∙ ap (onto_first_piece c) (pieces-token d text each.1)

-- a field as tokens: an empty one is none
abbrev pub given : List ℕ → List (List ℕ)
given [] = []
given (c ∷ text) = (c ∷ text) ∷ []

pub given_one : (text : List ℕ) → 1 ≤ length text → given text ≡ text ∷ []
given_one [] h = absurd (omega arith)
given_one (c ∷ text) h = refl

words-given : (text : List ℕ) → list_all is_mark text ≡ true → words_of text ≡ given text
words-given [] h = refl
words-given (c ∷ text) h = ap full (pieces-token c text h) ∙ full-first c text []

-- ── a line with one more field ──

-- a field: its bytes are marks
abbrev pub IsMarked : List ℕ → Type 0
IsMarked text = list_all is_mark text ≡ true

module _ (line : List ℕ) (place : ℕ) where
  joined : (c : ℕ) (text : List ℕ) → with_field Free line place (c ∷ text) ≡ line ++ 32 ∷ c ∷ text
  joined c text = append_assoc line (32 ∷ []) (c ∷ text)

  pub words-field : (text : List ℕ) → IsMarked text → words_of (with_field Free line place text) ≡ words_of line ++ given text
  words-field [] h = sym (append-nil (words_of line))
  words-field (c ∷ text) h = ap words_of (joined c text) ∙ words-cut (c ∷ text) line ∙ ap (λ ws. words_of line ++ ws) (words-given (c ∷ text) h)

  pub length-free : (text : List ℕ) → length (with_field Free line place text) ≤ length line + 1 + length text
  length-free [] = omega arith
  length-free (c ∷ text) = omega (arith, ap length (joined c text) ∙ length-append line (32 ∷ c ∷ text))

  pub all-free : (p : ℕ → Bool) → p 32 ≡ true → (text : List ℕ) → list_all p (with_field Free line place text) ≡ (list_all p line && list_all p text)
  all-free p blank [] = sym (both (list_all p line))
    where
      both : (b : Bool) → (b && true) ≡ b
      both true = refl
      both false = refl
  all-free p blank (c ∷ text) =
      ap (list_all p) (joined c text) ∙ list_all-append p line (32 ∷ c ∷ text) ∙ ap (λ b. list_all p line && (b && list_all p (c ∷ text))) blank

  first-free : (text : List ℕ) → get_or line 0 32 ≡ 32 → get_or (with_field Free line place text) 0 32 ≡ 32
  first-free [] h = h
  first-free (c ∷ text) h = by line h
    where
      by : (line : List ℕ) → get_or line 0 32 ≡ 32 → get_or ((line ++ 32 ∷ []) ++ c ∷ text) 0 32 ≡ 32
      by [] h = refl
      by (x ∷ xs) h = h

-- ── a card ──

abbrev pub is_long : List ℕ → Bool
is_long token = nat_lt 64 (length token)

pub not_long_given : (text : List ℕ) → length text ≤ 64 → list_any is_long (given text) ≡ false
not_long_given [] few = refl
not_long_given (c ∷ text) few = or_from (nat_lt 64 (length (c ∷ text))) false (le-ltb 64 (length (c ∷ text)) few) refl

module _ (kind first second number : List ℕ) (m_kind : IsMarked kind) (m_first : IsMarked first) (m_second : IsMarked second) (m_number : IsMarked number)
    (few_kind : length kind ≤ 2) (few_first : length first ≤ 64) (few_second : length second ≤ 64) (few_number : length number ≤ 12) where
  abbrev one : List ℕ
  one = with_field Free [] 1 kind

  abbrev two : List ℕ
  two = with_field Free one 4 first

  abbrev three : List ℕ
  three = with_field Free two 14 second

  abbrev all : List ℕ
  all = with_field Free three 24 number

  abbrev pub tokens : List (List ℕ)
  tokens = ((given kind ++ given first) ++ given second) ++ given number

  words : words_of all ≡ tokens
  words =
      words-field three 24 number m_number ∙ ap (λ ws. ws ++ given number) (words-field two 14 second m_second
      ∙ ap (λ ws. ws ++ given second) (words-field one 4 first m_first ∙ ap (λ ws. ws ++ given first) (words-field [] 1 kind m_kind)))

  short : length all ≤ 255
  short = omega (arith, length-free three 24 number, length-free two 14 second, length-free one 4 first, length-free [] 1 kind, few_kind, few_first, few_second, few_number)

  pub free_printable : list_all is_printable all ≡ true
  free_printable =
      all-free three 24 is_printable refl number
      ∙ and_from (list_all is_printable three) (list_all is_printable number)
      (all-free two 14 is_printable refl second ∙ and_from (list_all is_printable two) (list_all is_printable second)
      (all-free one 4 is_printable refl first ∙ and_from (list_all is_printable one) (list_all is_printable first)
      (all-free [] 1 is_printable refl kind ∙ marks_print kind m_kind) (marks_print first m_first)) (marks_print second m_second)) (marks_print number m_number)

  abbrev pub are_blank : Bool
  are_blank = list_all is_blank kind && list_all is_blank first && list_all is_blank second && list_all is_blank number

  blank_is : list_all is_blank all ≡ are_blank
  blank_is =
      all-free three 24 is_blank refl number
      ∙ ap (λ b. b && list_all is_blank number) (all-free two 14 is_blank refl second
      ∙ ap (λ b. b && list_all is_blank second) (all-free one 4 is_blank refl first ∙ ap (λ b. b && list_all is_blank first) (all-free [] 1 is_blank refl kind)))

  first_blank : get_or all 0 32 ≡ 32
  first_blank = first-free three 24 number (first-free two 14 second (first-free one 4 first (first-free [] 1 kind refl)))

  none_long : list_any is_long (words_of all) ≡ false
  none_long =
      ap (list_any is_long) words ∙ list_any-append is_long ((given kind ++ given first) ++ given second) (given number)
      ∙ or_from (list_any is_long ((given kind ++ given first) ++ given second)) (list_any is_long (given number))
      (list_any-append is_long (given kind ++ given first) (given second) ∙ or_from (list_any is_long (given kind ++ given first)) (list_any is_long (given second))
      (list_any-append is_long (given kind) (given first) ∙ or_from (list_any is_long (given kind)) (list_any is_long (given first))
      (not_long_given kind (omega arith)) (not_long_given first few_first)) (not_long_given second few_second)) (not_long_given number (omega arith))

  all_printable : list_all is_printable (take 255 all) ≡ true
  all_printable = ap (list_all is_printable) (take_all 255 all short) ∙ free_printable

  not_long : nat_lt 255 (length all) ≡ false
  not_long = le-ltb 255 (length all) short

  pub free_card : are_blank ≡ false → free_card_in (without_return all) ≡ Ok (Some (record { is_section = false; tokens = tokens }))
  free_card filled =
      ap free_card_in (no_return_dropped all free_printable) ∙ rw (first_blank, all_printable, not_long, none_long, blank_is, filled, words) refl
