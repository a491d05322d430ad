-- A card of data that was laid out is judged by its fields, alike in both forms.
use Rattle.std.proofs.Common.{◌≡◌, ℕ, ◌≤◌, Bool, true, false, ◌&&◌, not, cond, List, [], ◌∷◌, ◌++◌, length, reverse, Option, None, Ok, Err, refl, sym, ap, subst, ◌∙◌, arith, inl, inr}
use Rattle.std.specs.Prelude.{◌==◌, if◌then◌else◌, codes}
use Rattle.std.specs.List.{list_all}
use Rattle.std.proofs.lemmas.Bool.{and_left, and_parts, and_right, cases_Bool, or_from}
use Rattle.std.proofs.lemmas.List.{reverse-reverse}
use Rattle.rational.specs.Rational.{ℚ}
use Rattle.deck_tools.specs.Layout.{Card, card_line}
use Rattle.lp_model.specs.Deck.{Deck}
use Rattle.lp_text.proofs.SameBytes.{same_bytes-equal}
use Rattle.lp_text.specs.Cards.{is_blank, is_printable, trimmed, without_leading}
use Rattle.lp_text.specs.declared.Form.{Form}
use Rattle.lp_text.specs.declared.Form.TheVariants.{Fixed, Free}
use Rattle.lp_text.specs.declared.LineFault.TheVariants as fault
use Rattle.mps_model.specs.declared.BoundKind.{BoundKind}
use Rattle.mps_model.specs.declared.Section.{Section}
use Rattle.mps_model.specs.declared.Section.TheVariants.{Bounds, Columns, Ranges, RightSides, Rows}
use Rattle.mps_model.specs.BoundCards.{has_number, judge_bound, kind_of}
use Rattle.mps_model.specs.CardFields.{bound_tokens, counted_tokens, is_marker}
use Rattle.mps_model.specs.DeckSoFar.{DeckSoFar, and_then}
use Rattle.mps_model.specs.Judgement.{bytes_counted, judge_card, judge_data, judge_free_card, judge_text, judged_by}
use Rattle.mps_model.specs.NumberField.{field_value}
use Rattle.mps_model.specs.PairCards.{judge_column, judge_in_set, judge_pairs, use_as_range, use_as_right}
use Rattle.mps_model.specs.RowCards.{judge_row}
use Rattle.deck_laws.specs.Spellable.{IsFitted, IsName, IsToken, is_mark}
use Rattle.deck_laws.proofs.Blanks.{all_reversed}
use Rattle.deck_laws.proofs.FixedCards.{fixed_card, fixed_printable, six}
use Rattle.deck_laws.proofs.FreeLines.{free_card, free_printable, given, given_one, mark_no_blank, marks_print}
use Rattle.deck_laws.proofs.Spelled.{IsRead}

-- ── marks ──

no_leading : (text : List ℕ) → list_all is_mark text ≡ true → without_leading text ≡ text
no_leading [] h = refl
no_leading (c ∷ text) h = ap (λ b. cond b (without_leading text) (c ∷ text)) (mark_no_blank c (and_parts (is_mark c) (list_all is_mark text) h).0)

-- a text of marks has no blanks around it
pub marks_bare : (text : List ℕ) → list_all is_mark text ≡ true → trimmed text ≡ text
marks_bare text h =
    ap (λ t. reverse (without_leading (reverse t))) (no_leading text h) ∙ ap reverse (no_leading (reverse text) (all_reversed is_mark text h)) ∙ reverse-reverse text

marks_filled : (text : List ℕ) → list_all is_mark text ≡ true → 1 ≤ length text → list_all is_blank text ≡ false
marks_filled [] h some = absurd (omega arith)
marks_filled (c ∷ text) h some = and_left (is_blank c) (list_all is_blank text) (mark_no_blank c (and_parts (is_mark c) (list_all is_mark text) h).0)

fitted_marks : (n : ℕ) (text : List ℕ) → length text ≤ n → list_all is_mark text ≡ true → IsFitted n text
fitted_marks n text few h = record { few = few; printable = marks_print text h; bare = marks_bare text h }

-- ── the number of a card ──

-- a number's text on a card: at most 12 marks, at least one, and they are no mark of integer columns
pub record IsNumeral (text : List ℕ) : Type 0 where
  pub some : 1 ≤ length text
  pub few : length text ≤ 12
  pub marks : list_all is_mark text ≡ true
  pub unmarked : is_marker text ≡ false

pub numeral_read : (v : ℚ) (text : List ℕ) → IsRead text v → length text ≤ 12 → IsNumeral text
numeral_read v text h few = record { some = some text h.value; few = few; marks = h.marks; unmarked = unmarked }
  where
    some : (t : List ℕ) → field_value t ≡ Ok v → 1 ≤ length t
    some [] e = absurd (cc e)
    some (c ∷ t) e = omega arith

    unmarked : is_marker text ≡ false
    unmarked = elim (cases_Bool (is_marker text)) [
      | inl marked ↦
          let same : text ≡ codes "'MARKER'" = same_bytes-equal text (codes "'MARKER'") marked in
          let none : field_value (codes "'MARKER'") ≡ Ok v = ap field_value (sym same) ∙ h.value in
          absurd (cc none)
      | inr other ↦ other
    ]

-- ── a card by its form ──

-- the deck so far, by its parts, where no sense is awaited
abbrev pub at : List Section → Deck → List (List ℕ) → Option (List ℕ) → List (List ℕ) → List ℕ → DeckSoFar
at begun d free set named lowered = record { begun = begun; deck = d; awaits_sense = false; free_rows = free; set = set; named = named; lowered = lowered }

-- a kind's word
pub record IsWord (word : List ℕ) : Type 0 where
  pub few : length word ≤ 2
  pub marks : list_all is_mark word ≡ true

pub no_word : IsWord []
no_word = record { few = omega arith; marks = refl }

-- a name or a set, which may stand as a field
pub record IsGiven (form : Form) (text : List ℕ) : Type 0 where
  pub fitted : form ≡ Fixed → IsFitted 8 text
  pub token : form ≡ Free → IsToken text

pub name_given : (form : Form) (name : List ℕ) → IsName form name → IsGiven form name
name_given Fixed name h = record { fitted = λ e. h; token = λ e. absurd (cc e) }
name_given Free name h = record { fitted = λ e. absurd (cc e); token = λ e. h }

pub set_given : (form : Form) → IsGiven form (codes "S")
set_given form = record { fitted = λ e. record { few = omega arith; printable = refl; bare = refl }; token = λ e. record { some = omega arith; few = omega arith; marks = refl } }

empty_fitted : (n : ℕ) → IsFitted n []
empty_fitted n = record { few = omega arith; printable = refl; bare = refl }

-- a field is empty, or it is a name
pub data IsPlaced (form : Form) (text : List ℕ) : Type 0 where
  empty_field : text ≡ [] → IsPlaced form text
  given_field : IsGiven form text → IsPlaced form text

placed_fitted : (text : List ℕ) → IsPlaced Fixed text → IsFitted 8 text
placed_fitted text (empty_field e) = subst (IsFitted 8) (sym e) (empty_fitted 8)
placed_fitted text (given_field h) = h.fitted refl

placed_marks : (text : List ℕ) → IsPlaced Free text → (list_all is_mark text ≡ true) × (length text ≤ 64)
placed_marks text (empty_field e) = subst (λ t. (list_all is_mark t ≡ true) × (length t ≤ 64)) (sym e) (refl, omega arith)
placed_marks text (given_field h) = let t = h.token refl in (t.marks, t.few)

-- a field of at most 12 marks, or none
pub record IsShort (text : List ℕ) : Type 0 where
  pub few : length text ≤ 12
  pub marks : list_all is_mark text ≡ true

pub no_number : IsShort []
no_number = record { few = omega arith; marks = refl }

pub numeral_short : (text : List ℕ) → IsNumeral text → IsShort text
numeral_short text h = record { few = h.few; marks = h.marks }

-- a card's fields without their owner
abbrev pub card_with : List ℕ → List ℕ → List ℕ → Option ℚ → List ℕ → Card
card_with kind first second v owner = record { kind = kind; first = first; second = second; number = v; owner = owner }

module _ (kind first second number : List ℕ) (v : Option ℚ) (owner : List ℕ) (word : IsWord kind) (short : IsShort number) where
  abbrev line : Form → List ℕ
  line form = card_line form (card_with kind first second v owner) number

  abbrev are_blank : Bool
  are_blank = list_all is_blank kind && list_all is_blank first && list_all is_blank second && list_all is_blank number

  pub card_prints : (form : Form) → IsPlaced form first → IsPlaced form second → list_all is_printable (line form) ≡ true
  card_prints Fixed h k =
      fixed_printable kind first second number (fitted_marks 2 kind word.few word.marks) (placed_fitted first h) (placed_fitted second k) (fitted_marks 12 number short.few short.marks)
  card_prints Free h k =
      let one = placed_marks first h in
      let two = placed_marks second k in
      free_printable kind first second number word.marks one.0 two.0 short.marks word.few one.1 two.1 short.few

  module _ (filled : are_blank ≡ false) (begun : List Section) (d : Deck) (free : List (List ℕ)) (set : Option (List ℕ)) (named : List (List ℕ)) (lowered : List ℕ) where
    abbrev s : DeckSoFar
    s = at begun d free set named lowered

    fixed_judged : IsPlaced Fixed first → IsPlaced Fixed second
        → judge_text Fixed s (bytes_counted Fixed (line Fixed)) ≡ judge_card s (record { is_section = false; fields = six kind first second number })
    fixed_judged h k =
        ap (judged_by judge_card s)
        (fixed_card kind first second number (fitted_marks 2 kind word.few word.marks) (placed_fitted first h) (placed_fitted second k) (fitted_marks 12 number short.few short.marks) filled)

    free_judged : IsPlaced Free first → IsPlaced Free second → (tokens : List (List ℕ)) → ((given kind ++ given first) ++ given second) ++ given number ≡ tokens
        → judge_text Free s (bytes_counted Free (line Free)) ≡ judge_free_card s (record { is_section = false; tokens = tokens })
    free_judged h k tokens is =
        let one = placed_marks first h in
        let two = placed_marks second k in
        ap (judged_by judge_free_card s) (free_card kind first second number word.marks one.0 two.0 short.marks word.few one.1 two.1 short.few filled)
        ∙ ap (λ ts. judge_free_card s (record { is_section = false; tokens = ts })) is

given_name : (name : List ℕ) → IsGiven Free name → given name ≡ name ∷ []
given_name name h = given_one name (h.token refl).some

given_numeral : (text : List ℕ) → IsNumeral text → given text ≡ text ∷ []
given_numeral text h = given_one text h.some

by_kind : (k f s n : Bool) → k ≡ false → (k && f && s && n) ≡ false
by_kind k f s n e = rw e refl

by_number : (k f s n : Bool) → n ≡ false → (k && f && s && n) ≡ false
by_number k f s n e = and_right (k && f && s) n e

module _ (begun : List Section) (d : Deck) (free : List (List ℕ)) (set : Option (List ℕ)) (named : List (List ℕ)) (lowered : List ℕ) where
  -- ── a row ──

  module _ (kind name : List ℕ) (word : IsWord kind) (some : 1 ≤ length kind) where
    abbrev row_state : DeckSoFar
    row_state = at (Rows ∷ begun) d free set named lowered

    row_filled : (list_all is_blank kind && list_all is_blank name && list_all is_blank [] && list_all is_blank []) ≡ false
    row_filled = by_kind (list_all is_blank kind) (list_all is_blank name) true true (marks_filled kind word.marks some)

    pub row_taken : (form : Form) → IsGiven form name
        → judge_text form row_state (bytes_counted form (card_line form (card_with kind name [] None []) [])) ≡ judge_row row_state (six kind name [] [])
    row_taken Fixed h = fixed_judged kind name [] [] None [] word no_number row_filled (Rows ∷ begun) d free set named lowered (given_field h) (empty_field refl)
    row_taken Free h =
        free_judged kind name [] [] None [] word no_number row_filled (Rows ∷ begun) d free set named lowered (given_field h) (empty_field refl) (kind ∷ name ∷ [])
        (rw (given_one kind some, given_name name h) refl)

  -- ── a column's number ──

  module _ (column name text : List ℕ) (v : Option ℚ) (owner : List ℕ) (numeral : IsNumeral text) where
    text_filled : (first : List ℕ) → (list_all is_blank [] && list_all is_blank first && list_all is_blank name && list_all is_blank text) ≡ false
    text_filled first = by_number true (list_all is_blank first) (list_all is_blank name) (list_all is_blank text) (marks_filled text numeral.marks numeral.some)

    abbrev column_state : DeckSoFar
    column_state = at (Columns ∷ begun) d free set named lowered

    pub pair_taken : (form : Form) → IsGiven form column → IsGiven form name → is_marker name ≡ false
        → judge_text form column_state (bytes_counted form (card_line form (card_with [] column name v owner) text)) ≡ judge_column column_state (six [] column name text)
    pair_taken Fixed h k unmarked =
        fixed_judged [] column name text v owner no_word (numeral_short text numeral) (text_filled column) (Columns ∷ begun) d free set named lowered (given_field h) (given_field k)
        ∙ ap (λ b. and_then (if b then Err fault.Integer else Ok (six [] column name text)) (judge_column column_state)) (or_from (is_marker name) (is_marker text) unmarked numeral.unmarked)
    pair_taken Free h k unmarked =
        free_judged [] column name text v owner no_word (numeral_short text numeral) (text_filled column) (Columns ∷ begun) d free set named lowered (given_field h) (given_field k)
        (column ∷ name ∷ text ∷ []) (rw (given_name column h, given_name name k, given_numeral text numeral) refl)
        ∙ ap (λ b. and_then (if b then Err fault.Integer else Ok ([] ∷ column ∷ name ∷ text ∷ [])) (judge_column column_state)) unmarked

    -- ── a number of a set ──

    abbrev right_state : DeckSoFar
    right_state = at (RightSides ∷ begun) d free set named lowered

    pub right_taken : (form : Form) → IsGiven form name
        → judge_text form right_state (bytes_counted form (card_line form (card_with [] (codes "S") name v owner) text))
        ≡ judge_in_set (judge_pairs use_as_right) right_state (six [] (codes "S") name text)
    right_taken Fixed k =
        fixed_judged [] (codes "S") name text v owner no_word (numeral_short text numeral) (text_filled (codes "S")) (RightSides ∷ begun) d free set named lowered
        (given_field (set_given Fixed)) (given_field k)
    right_taken Free k =
        free_judged [] (codes "S") name text v owner no_word (numeral_short text numeral) (text_filled (codes "S")) (RightSides ∷ begun) d free set named lowered
        (given_field (set_given Free)) (given_field k)
        (codes "S" ∷ name ∷ text ∷ []) (rw (given_name name k, given_numeral text numeral) refl)

    abbrev range_state : DeckSoFar
    range_state = at (Ranges ∷ begun) d free set named lowered

    pub range_taken : (form : Form) → IsGiven form name
        → judge_text form range_state (bytes_counted form (card_line form (card_with [] (codes "S") name v owner) text))
        ≡ judge_in_set (judge_pairs use_as_range) range_state (six [] (codes "S") name text)
    range_taken Fixed k =
        fixed_judged [] (codes "S") name text v owner no_word (numeral_short text numeral) (text_filled (codes "S")) (Ranges ∷ begun) d free set named lowered
        (given_field (set_given Fixed)) (given_field k)
    range_taken Free k =
        free_judged [] (codes "S") name text v owner no_word (numeral_short text numeral) (text_filled (codes "S")) (Ranges ∷ begun) d free set named lowered
        (given_field (set_given Free)) (given_field k)
        (codes "S" ∷ name ∷ text ∷ []) (rw (given_name name k, given_numeral text numeral) refl)

  -- ── a bound ──

  module _ (kind name text : List ℕ) (v : Option ℚ) (owner : List ℕ) (bound : BoundKind) (word : IsWord kind) (some : 1 ≤ length kind) (kind_is : kind_of kind ≡ Ok bound) where
    abbrev bound_state : DeckSoFar
    bound_state = at (Bounds ∷ begun) d free set named lowered

    bound_filled : (t : List ℕ) → (list_all is_blank kind && list_all is_blank (codes "S") && list_all is_blank name && list_all is_blank t) ≡ false
    bound_filled t = by_kind (list_all is_blank kind) false (list_all is_blank name) (list_all is_blank t) (marks_filled kind word.marks some)

    pub bound_taken : (form : Form) → has_number bound ≡ true → IsNumeral text → IsGiven form name
        → judge_text form bound_state (bytes_counted form (card_line form (card_with kind (codes "S") name v owner) text)) ≡ judge_in_set judge_bound bound_state (six kind (codes "S") name text)
    bound_taken Fixed has numeral k =
        fixed_judged kind (codes "S") name text v owner word (numeral_short text numeral) (bound_filled text) (Bounds ∷ begun) d free set named lowered (given_field (set_given Fixed)) (given_field k)
    bound_taken Free has numeral k =
        free_judged kind (codes "S") name text v owner word (numeral_short text numeral) (bound_filled text) (Bounds ∷ begun) d free set named lowered (given_field (set_given Free)) (given_field k)
        (kind ∷ codes "S" ∷ name ∷ text ∷ []) (rw (given_one kind some, given_name name k, given_numeral text numeral) refl)
        ∙ ap (λ r. and_then (and_then r (λ b. bound_tokens b (kind ∷ codes "S" ∷ name ∷ text ∷ []))) (judge_data (Bounds ∷ begun) bound_state)) kind_is
        ∙ ap (λ b. and_then (if (4 == (if b then 3 else 2)) then Ok (kind ∷ [] ∷ codes "S" ∷ name ∷ text ∷ []) else Ok (kind ∷ codes "S" ∷ name ∷ text ∷ []))
        (judge_data (Bounds ∷ begun) bound_state)) has

    pub open_taken : (form : Form) → has_number bound ≡ false → IsGiven form name
        → judge_text form bound_state (bytes_counted form (card_line form (card_with kind (codes "S") name v owner) [])) ≡ judge_in_set judge_bound bound_state (six kind (codes "S") name [])
    open_taken Fixed has k =
        fixed_judged kind (codes "S") name [] v owner word no_number (bound_filled []) (Bounds ∷ begun) d free set named lowered (given_field (set_given Fixed)) (given_field k)
    open_taken Free has k =
        free_judged kind (codes "S") name [] v owner word no_number (bound_filled []) (Bounds ∷ begun) d free set named lowered (given_field (set_given Free)) (given_field k)
        (kind ∷ codes "S" ∷ name ∷ []) (rw (given_one kind some, given_name name k) refl)
        ∙ ap (λ r. and_then (and_then r (λ b. bound_tokens b (kind ∷ codes "S" ∷ name ∷ []))) (judge_data (Bounds ∷ begun) bound_state)) kind_is
        ∙ ap (λ b. and_then (if (3 == (if b then 3 else 2)) then Ok (kind ∷ [] ∷ codes "S" ∷ name ∷ []) else counted_tokens (not b) (kind ∷ codes "S" ∷ name ∷ []))
        (judge_data (Bounds ∷ begun) bound_state)) has
