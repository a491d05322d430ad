-- The names on a card are spelled in its form.
use Rattle.std.proofs.Common.{◌≡◌, ℕ, ◌≤◌, Bool, true, false, not, cond, List, [], ◌∷◌, ◌++◌, length, take, drop, reverse, filter, Option, Some, None, Ok, Err, refl, sym, ap}
use Rattle.std.proofs.Common.{subst, ◌∙◌, arith, nat_lt, inl, inr, ◌⊎◌, length-append}
use Rattle.std.specs.Prelude.{◌==◌, if◌then◌else◌}
use Rattle.std.specs.List.{AllByRecursion, list_all, list_any}
use Rattle.std.proofs.lemmas.Bool.{and_from, and_parts, or_parts}
use Rattle.std.proofs.lemmas.Bool.Decides.{nat_tests}
use Rattle.std.proofs.lemmas.List.{length-reverse, length-take, reverse-append, reverse-reverse, take-append-drop, take_all}
use Rattle.std.proofs.lemmas.List.Folds.{list_all-append}
use Rattle.lp_text.specs.Cards.{Card, byte_in, card_in, data_card, data_fields, field_of, filled_gap, is_blank, is_ignored, is_printable, onto_first_piece, pieces_of}
use Rattle.lp_text.specs.Cards.{section_fields, trimmed, without_leading, words_of}
use Rattle.lp_text.specs.FreeCards.{FreeCard, free_card_in, is_too_long}
use Rattle.lp_text.specs.declared.LineFault.TheVariants as fault
use Rattle.deck_laws.proofs.Blanks.{all_reversed}
use Rattle.deck_laws.specs.Spellable.{IsFitted, IsToken, is_mark}

-- ── texts without outer blanks ──

-- no blank begins the text
abbrev begins_bare : List ℕ → Bool
begins_bare [] = true
begins_bare (c ∷ text) = not (is_blank c)

leading-bare : (text : List ℕ) → begins_bare (without_leading text) ≡ true
leading-bare [] = refl
leading-bare (c ∷ text) = by (is_blank c) refl (leading-bare text)
  where
    by : (b : Bool) → is_blank c ≡ b → begins_bare (without_leading text) ≡ true → begins_bare (cond b (without_leading text) (c ∷ text)) ≡ true
    by true is rest = rest
    by false is rest = ap not is

bare-leading : (text : List ℕ) → begins_bare text ≡ true → without_leading text ≡ text
bare-leading [] h = refl
bare-leading (c ∷ text) h = by (is_blank c) h
  where
    by : (b : Bool) → not b ≡ true → cond b (without_leading text) (c ∷ text) ≡ c ∷ text
    by true h = absurd (cc h)
    by false h = refl

-- what is left is the end of the text
leading-end : (text : List ℕ) → (front : List ℕ) × (text ≡ front ++ without_leading text)
leading-end [] = ([], refl)
leading-end (c ∷ text) = by (is_blank c) (leading-end text)
  where
    by : (b : Bool) → (front : List ℕ) × (text ≡ front ++ without_leading text) → (front : List ℕ) × (c ∷ text ≡ front ++ cond b (without_leading text) (c ∷ text))
    by true rest = (c ∷ rest.0, ap (λ t. c ∷ t) rest.1)
    by false rest = ([], refl)

bare-front : (front rest : List ℕ) → begins_bare (front ++ rest) ≡ true → begins_bare front ≡ true
bare-front [] rest h = refl
bare-front (c ∷ front) rest h = h

pub trimmed-bare : (text : List ℕ) → trimmed (trimmed text) ≡ trimmed text
trimmed-bare text =
    let u = without_leading text in
    let w = without_leading (reverse u) in
    let end = leading-end (reverse u) in
    let split : u ≡ reverse w ++ reverse end.0 = sym (reverse-reverse u) ∙ ap reverse end.1 ∙ reverse-append end.0 w in
    let bare : begins_bare (reverse w) ≡ true = bare-front (reverse w) (reverse end.0) (subst (λ t. begins_bare t ≡ true) split (leading-bare text)) in
    ap (λ t. reverse (without_leading (reverse t))) (bare-leading (reverse w) bare)
    ∙ ap (λ t. reverse (without_leading t)) (reverse-reverse w) ∙ ap reverse (bare-leading w (leading-bare (reverse u)))

-- ── what holds of each byte ──

module _ (p : ℕ → Bool) where
  all_left : (text : List ℕ) → list_all p text ≡ true → list_all p (without_leading text) ≡ true
  all_left text h =
      let end = leading-end text in
      (and_parts (list_all p end.0) (list_all p (without_leading text)) (sym (list_all-append p end.0 (without_leading text)) ∙ ap (list_all p) (sym end.1) ∙ h)).1

  all_trimmed : (text : List ℕ) → list_all p text ≡ true → list_all p (trimmed text) ≡ true
  all_trimmed text h =
      all_reversed p (without_leading (reverse (without_leading text))) (all_left (reverse (without_leading text)) (all_reversed p (without_leading text) (all_left text h)))

  all_part : (text : List ℕ) (a n : ℕ) → list_all p text ≡ true → list_all p (take n (drop a text)) ≡ true
  all_part text a n h = front (drop a text) n (behind text a h)
    where
      behind : (t : List ℕ) (k : ℕ) → list_all p t ≡ true → list_all p (drop k t) ≡ true
      behind t k h = (and_parts (list_all p (take k t)) (list_all p (drop k t)) (sym (list_all-append p (take k t) (drop k t)) ∙ ap (list_all p) (take-append-drop k t) ∙ h)).1

      front : (t : List ℕ) (k : ℕ) → list_all p t ≡ true → list_all p (take k t) ≡ true
      front t k h = (and_parts (list_all p (take k t)) (list_all p (drop k t)) (sym (list_all-append p (take k t) (drop k t)) ∙ ap (list_all p) (take-append-drop k t) ∙ h)).0

left-length : (text : List ℕ) → length (without_leading text) ≤ length text
left-length text = let end = leading-end text in omega (arith, ap length end.1, length-append end.0 (without_leading text))

-- ── fixed columns ──

fitted_part : (text : List ℕ) (a n : ℕ) → list_all is_printable text ≡ true → IsFitted n (trimmed (take n (drop a text)))
fitted_part text a n h =
    let t = take n (drop a text) in
    let u = without_leading t in
    let w = without_leading (reverse u) in
    record {
      few = omega (arith, length-reverse w, left-length (reverse u), length-reverse u, left-length t, length-take n (drop a text));
      printable = all_trimmed is_printable t (all_part is_printable text a n h);
      bare = trimmed-bare t;
    }

-- a card of a section with the deck's name, or one of data with a name
abbrev pub IsFixedCard : Card → Type 0
IsFixedCard card = ((card.is_section ≡ true) × IsFitted 8 (field_of card.fields 3)) ⊎ ((card.is_section ≡ false) × IsFitted 8 (field_of card.fields 2))

pub fixed_names : (text : List ℕ) (card : Card) → card_in text ≡ Ok (Some card) → IsFixedCard card
fixed_names text card e = by (is_ignored text) (list_all is_printable text) (is_blank (byte_in text 1)) (filled_gap text) refl e
  where
    by : (ignored prints blank : Bool) (gap : Option ℕ) → list_all is_printable text ≡ prints
        → (if ignored then Ok None else if not prints then Err fault.NotAscii else if blank then data_card text gap else Ok (Some (record { is_section = true; fields = section_fields text })))
        ≡ Ok (Some card) → IsFixedCard card
    by true prints blank gap p e = absurd (cc e)
    by false false blank gap p e = absurd (cc e)
    by false true false gap p e =
        let same : record { is_section = true; fields = section_fields text } ≡ card = cc in
        subst IsFixedCard same (inl (refl, fitted_part text 14 8 p))
    by false true true (Some column) p e = absurd (cc e)
    by false true true None p e =
        let same : record { is_section = false; fields = data_fields text } ≡ card = cc in
        subst IsFixedCard same (inr (refl, fitted_part text 4 8 p))

-- ── free form ──

-- a piece without blanks that prints
abbrev IsPiece : List ℕ → Type 0
IsPiece piece = list_all is_mark piece ≡ true

mark_is : (c : ℕ) → is_printable c ≡ true → is_blank c ≡ false → is_mark c ≡ true
mark_is c h k = grind (arith, nat_tests)

onto_piece : (c : ℕ) (pieces : List (List ℕ)) → is_mark c ≡ true → AllByRecursion IsPiece pieces → AllByRecursion IsPiece (onto_first_piece c pieces)
onto_piece c [] h k = (and_from (is_mark c) true h refl, tt)
onto_piece c (piece ∷ pieces) h k = (and_from (is_mark c) (list_all is_mark piece) h k.0, k.1)

all_pieces : (text : List ℕ) → list_all is_printable text ≡ true → AllByRecursion IsPiece (pieces_of text)
all_pieces [] h = tt
all_pieces (c ∷ text) h =
    let each = and_parts (is_printable c) (list_all is_printable text) h in
    by (is_blank c) refl each.0 (all_pieces text each.1)
  where
    by : (b : Bool) → is_blank c ≡ b → is_printable c ≡ true → AllByRecursion IsPiece (pieces_of text) → AllByRecursion IsPiece (cond b ([] ∷ pieces_of text) (onto_first_piece c (pieces_of text)))
    by true is prints rest = (refl, rest)
    by false is prints rest = onto_piece c (pieces_of text) (mark_is c prints is) rest

all_tokens : (pieces : List (List ℕ)) → AllByRecursion IsPiece pieces → list_any (λ token. nat_lt 64 (length token)) (filter (λ piece. nat_lt 0 (length piece)) pieces) ≡ false
    → AllByRecursion IsToken (filter (λ piece. nat_lt 0 (length piece)) pieces)
all_tokens [] h short = tt
all_tokens (piece ∷ pieces) h short = by (all_tokens pieces h.1) (nat_lt 0 (length piece)) refl short
  where
    by : (list_any (λ token. nat_lt 64 (length token)) (filter (λ piece. nat_lt 0 (length piece)) pieces) ≡ false → AllByRecursion IsToken (filter (λ piece. nat_lt 0 (length piece)) pieces))
        → (b : Bool) → nat_lt 0 (length piece) ≡ b
        → list_any (λ token. nat_lt 64 (length token)) (cond b (piece ∷ filter (λ piece. nat_lt 0 (length piece)) pieces) (filter (λ piece. nat_lt 0 (length piece)) pieces)) ≡ false
        → AllByRecursion IsToken (cond b (piece ∷ filter (λ piece. nat_lt 0 (length piece)) pieces) (filter (λ piece. nat_lt 0 (length piece)) pieces))
    by rest true some short =
        let each = or_parts (nat_lt 64 (length piece)) (list_any (λ token. nat_lt 64 (length token)) (filter (λ piece. nat_lt 0 (length piece)) pieces)) short in
        let low : 1 ≤ length piece = grind (arith, nat_tests) in
        let high : length piece ≤ 64 = few (length piece) each.0 in
        (record { some = low; few = high; marks = h.0 }, rest each.1)
      where
        few : (n : ℕ) → nat_lt 64 n ≡ false → n ≤ 64
        few n e = grind (arith, nat_tests)
    by rest false none short = rest short

pub free_tokens : (text : List ℕ) (card : FreeCard) → free_card_in text ≡ Ok (Some card) → AllByRecursion IsToken card.tokens
free_tokens text card e = by (byte_in text 1 == 42) (list_all is_printable (take 255 text)) (is_too_long text) (list_all is_blank text) refl refl e
  where
    few : (n : ℕ) → nat_lt 255 n ≡ false → n ≤ 255
    few n e = grind (arith, nat_tests)

    by : (comment prints long blank : Bool) → list_all is_printable (take 255 text) ≡ prints → is_too_long text ≡ long
        → (if comment then Ok None else if not prints then Err fault.NotAscii else if long then Err fault.Token
        else if blank then Ok None else Ok (Some (record { is_section = not (is_blank (byte_in text 1)); tokens = words_of text }))) ≡ Ok (Some card) → AllByRecursion IsToken card.tokens
    by true prints long blank p l e = absurd (cc e)
    by false false long blank p l e = absurd (cc e)
    by false true true blank p l e = absurd (cc e)
    by false true false true p l e = absurd (cc e)
    by false true false false p l e =
        let same : words_of text ≡ card.tokens = let whole : record { is_section = not (is_blank (byte_in text 1)); tokens = words_of text } ≡ card = cc in ap (λ (k : FreeCard). k.tokens) whole in
        let each = or_parts (nat_lt 255 (length text)) (list_any (λ token. nat_lt 64 (length token)) (words_of text)) l in
        let all : list_all is_printable text ≡ true = ap (list_all is_printable) (sym (take_all 255 text (few (length text) each.0))) ∙ p in
        subst (λ ts. AllByRecursion IsToken ts) same (all_tokens (pieces_of text) (all_pieces text all) each.1)
