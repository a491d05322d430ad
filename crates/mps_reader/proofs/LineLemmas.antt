-- What a line makes of a draft: the names that its card may spell, and its fault.
use Rattle.std.proofs.Common.{◌≡◌, ℕ, zero, suc, ◌-◌, ◌≤◌, Bool, true, false, not, ◌||◌, ◌==◌, List, [], ◌∷◌, take, drop, length, reverse, slice_index_or, nat_lt, Option, Some, None, IsTrue, Result, Ok, Err, cond, refl, sym, ap, ap₂, subst, ◌∙◌, arith}
use Rattle.std.specs.List.{All, list_all, list_any}
use Rattle.std.proofs.lemmas.Bool.{ltb-true}
use Rattle.std.proofs.lemmas.List.{length-reverse, length-take, length-take-le}
use Rattle.std.proofs.lemmas.List.Elements.{All-cons, All-filter, All-head, All-tail}
use Rattle.lp_model.specs.Edit.{same_bytes}
use Rattle.lp_text.specs.Cards.{Card as TextCard, byte_in, bytes_in, card_in, data_card, data_fields, field_of, filled_gap, is_blank, is_ignored, is_printable, onto_first_piece, pieces_of, section_fields, trimmed, without_leading, words_of}
use Rattle.lp_text.specs.FreeCards.{FreeCard, free_card_in, is_too_long}
use Rattle.lp_text.specs.Limits.{free_line_limit}
use Rattle.lp_text.specs.Lines.{Line as TextLine}
use Rattle.lp_text.specs.declared.Form.{Form}
use Rattle.lp_text.specs.declared.LineFault.{LineFault}
use Rattle.lp_text.specs.declared.LineFault.TheVariants.{NotAscii, Token}
use Rattle.lp_text.proofs.SameBytes.{same_bytes-equal}
use Rattle.mps_cards.specs.declared.lines.Line.{Line}
use Rattle.mps_cards.proofs.WordLemmas.{length-without_leading}
use Rattle.mps_model.specs.DeckSoFar.{DeckSoFar}
use Rattle.mps_reader.specs.declared.refusal.Refusal.{Refusal}
use Rattle.mps_reader.specs.declared.refusal.Refusal.TheVariants.{Fault, Memory}
use Rattle.mps_reader.specs.Inner.Reached.{HasBytesOf, IsFoundAt, kept_size}
use Rattle.mps_reader.specs.Inner.Refusals.{at_line, line_fault}
use Rattle.mps_reader.specs.Inner.Standing.{IsFound, IsSpelled, no_objective_name}

-- ── names that a card spells ──

length-trimmed : (text : List ℕ) → length (trimmed text) ≤ length text
length-trimmed text =
    let front = without_leading text in
    omega (arith, length-without_leading text, length-reverse front, length-without_leading (reverse front), length-reverse (without_leading (reverse front)))

-- a short name is not the one that no card spells
short_spelled : (name : List ℕ) → length name ≤ 8 → IsSpelled name
short_spelled name short = by (same_bytes no_objective_name name) refl
  where
    by : (b : Bool) → same_bytes no_objective_name name ≡ b → same_bytes no_objective_name name ≡ false
    by false e = e
    by true e =
        let long : 12 ≡ length name = ap length (same_bytes-equal no_objective_name name e) in
        absurd (omega arith)

range_spelled : (text : List ℕ) → IsSpelled (trimmed (bytes_in text 5 12))
range_spelled text = short_spelled (trimmed (bytes_in text 5 12)) (omega (arith, length-trimmed (bytes_in text 5 12), length-take 8 (drop 4 text)))

card_is : (a b : TextCard) (answer : Result (Option TextCard) LineFault) → answer ≡ Ok (Some a) → answer ≡ Ok (Some b) → a ≡ b
card_is a b answer is other = cc

data_spelled : (text : List ℕ) (card : TextCard) (ignored prints blank : Bool) (gap : Option ℕ)
    → cond ignored (Ok None) (cond (not prints) (Err NotAscii) (cond blank (data_card text gap) (Ok (Some (record { is_section = true; fields = section_fields text }))))) ≡ Ok (Some card)
    → card.is_section ≡ false → IsSpelled (field_of card.fields 2)
data_spelled text card true prints blank gap e is_data = absurd (cc)
data_spelled text card false false blank gap e is_data = absurd (cc)
data_spelled text card false true true (Some column) e is_data = absurd (cc)
data_spelled text card false true true None e is_data =
    subst (λ c. IsSpelled (field_of c.fields 2)) (card_is (record { is_section = false; fields = data_fields text }) card _ refl e) (range_spelled text)
data_spelled text card false true false gap e is_data =
    let both : true ≡ false = ap (λ c. c.is_section) (card_is (record { is_section = true; fields = section_fields text }) card _ refl e) ∙ is_data in
    absurd (cc both)

-- a card of data in fixed columns spells its second field
pub second_spelled : (text : List ℕ) (card : TextCard) → card_in text ≡ Ok (Some card) → card.is_section ≡ false → IsSpelled (field_of card.fields 2)
second_spelled text card e is_data = data_spelled text card (is_ignored text) (list_all is_printable text) (is_blank (byte_in text 1)) (filled_gap text) e is_data

-- ── tokens ──

abbrev has_no_blank : List ℕ → Type 0
has_no_blank text = list_any is_blank text ≡ false

onto_first_no_blank : (c : ℕ) (pieces : List (List ℕ)) → is_blank c ≡ false → All has_no_blank pieces → All has_no_blank (onto_first_piece c pieces)
onto_first_no_blank c [] other h = All-cons has_no_blank (c ∷ []) [] (ap (λ b. b || false) other) h
onto_first_no_blank c (piece ∷ pieces) other h =
    All-cons has_no_blank (c ∷ piece) pieces (ap₂ (λ a b. a || b) other (All-head has_no_blank piece pieces h)) (All-tail has_no_blank piece pieces h)

pieces_no_blank : (text : List ℕ) → All has_no_blank (pieces_of text)
pieces_no_blank [] = λ k d below. absurd (omega arith)
pieces_no_blank (c ∷ text) = by (is_blank c) refl (pieces_no_blank text)
  where
    by : (b : Bool) → is_blank c ≡ b → All has_no_blank (pieces_of text) → All has_no_blank (cond b ([] ∷ pieces_of text) (onto_first_piece c (pieces_of text)))
    by true is h = All-cons has_no_blank [] (pieces_of text) refl h
    by false is h = onto_first_no_blank c (pieces_of text) is h

no_blank_spelled : (text : List ℕ) → has_no_blank text → IsSpelled text
no_blank_spelled text none = by (same_bytes no_objective_name text) refl
  where
    by : (b : Bool) → same_bytes no_objective_name text ≡ b → same_bytes no_objective_name text ≡ false
    by false e = e
    by true e =
        let both : true ≡ false = ap (list_any is_blank) (same_bytes-equal no_objective_name text e) ∙ none in
        absurd (cc both)

field_spelled : (tokens : List (List ℕ)) (k : ℕ) → All has_no_blank tokens → IsSpelled (slice_index_or tokens k [])
field_spelled [] k h = refl
field_spelled (token ∷ tokens) zero h = no_blank_spelled token (All-head has_no_blank token tokens h)
field_spelled (token ∷ tokens) (suc k) h = field_spelled tokens k (All-tail has_no_blank token tokens h)

free_card_is : (a b : FreeCard) (answer : Result (Option FreeCard) LineFault) → answer ≡ Ok (Some a) → answer ≡ Ok (Some b) → a ≡ b
free_card_is a b answer is other = cc

words_are : (text : List ℕ) (card : FreeCard) (section comment prints long blank : Bool)
    → cond comment (Ok None) (cond (not prints) (Err NotAscii) (cond long (Err Token) (cond blank (Ok None) (Ok (Some (record { is_section = section; tokens = words_of text })))))) ≡ Ok (Some card)
    → words_of text ≡ card.tokens
words_are text card section true prints long blank e = absurd (cc)
words_are text card section false false long blank e = absurd (cc)
words_are text card section false true true blank e = absurd (cc)
words_are text card section false true false true e = absurd (cc)
words_are text card section false true false false e = ap (λ c. c.tokens) (free_card_is (record { is_section = section; tokens = words_of text }) card _ refl e)

-- a card in free form spells its tokens
pub tokens_spelled : (text : List ℕ) (card : FreeCard) → free_card_in text ≡ Ok (Some card) → (number : ℕ) → IsSpelled (field_of card.tokens number)
tokens_spelled text card e number =
    subst (λ tokens. IsSpelled (field_of tokens number))
    (words_are text card (not (is_blank (byte_in text 1))) (byte_in text 1 == 42) (list_all is_printable (take free_line_limit text)) (is_too_long text) (list_all is_blank text) e)
    (field_spelled (words_of text) (number - 1) (All-filter (λ piece. nat_lt 0 (length piece)) has_no_blank (pieces_of text) (pieces_no_blank text)))

-- ── the line ──

-- a line of which not all is there has the bytes that are kept
pub long_enough : (form : Form) (line : Line) (whole : TextLine) → HasBytesOf form line whole → IsTrue line.longer → kept_size form ≤ length line.bytes
long_enough form line whole is longer =
    let over = ltb-true (kept_size form) (length whole.bytes) (sym (ap (λ l. l.longer) is) ∙ longer) in
    let size : length line.bytes ≡ kept_size form = ap (λ l. length l.bytes) is ∙ length-take-le (kept_size form) whole.bytes (omega (arith, over)) in
    omega (arith, size)

-- ── faults ──

-- the refusal of a card is the fault of its line
pub refused_at : (n : ℕ) (judged : Result DeckSoFar LineFault) (r : Refusal) → IsFound judged (line_fault r) → IsFoundAt n judged (at_line n r)
refused_at n judged Memory h = tt
refused_at n judged (Fault fault) h = (fault, refl, h)
