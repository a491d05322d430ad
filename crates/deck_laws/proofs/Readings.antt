-- A deck that was read is kept, and its form spells its names.
use Rattle.std.proofs.Common.{◌≡◌, ℕ, suc, ◌+◌, ◌-◌, ◌≤◌, Bool, true, false, not, ◌&&◌, ◌||◌, List, [], ◌∷◌, length, map, get_or, find, Option, Some, None, Result, Ok, Err}
use Rattle.std.proofs.Common.{refl, sym, ap, subst, ◌∙◌, arith, inl, inr}
use Rattle.std.specs.Prelude.{◌==◌, if◌then◌else◌, is_some, nat_le}
use Rattle.std.specs.List.{AllByRecursion, IsDistinct}
use Rattle.std.proofs.lemmas.Bool.{and_parts}
use Rattle.std.proofs.lemmas.Bool.Decides.{nat_tests}
use Rattle.std.proofs.lemmas.List.Elements.{All-from_recursion}
use Rattle.rational.specs.Rational.{ℚ}
use Rattle.deck_tools.specs.Layout.{deck_text}
use Rattle.lp_model.specs.Deck.{Column, Deck, Row, no_column}
use Rattle.lp_model.specs.Edit.{has_entry, same_bytes, with_sense}
use Rattle.lp_model.specs.declared.Sense.{Sense}
use Rattle.lp_text.specs.Cards.{Card, card_in, field_of}
use Rattle.lp_text.specs.FreeCards.{FreeCard, free_card_in}
use Rattle.lp_text.specs.Limits.{byte_limit}
use Rattle.lp_text.specs.Lines.{Line, lines_of, size_of}
use Rattle.lp_text.specs.Senses.{sense_of}
use Rattle.lp_text.specs.declared.Counted.TheVariants as limit
use Rattle.lp_text.specs.declared.Form.{Form}
use Rattle.lp_text.specs.declared.Form.TheVariants.{Fixed, Free}
use Rattle.lp_text.specs.declared.LineFault.{LineFault}
use Rattle.lp_text.specs.declared.LineFault.TheVariants as fault
use Rattle.mps_model.specs.declared.Section.{Section}
use Rattle.mps_model.specs.declared.Section.TheVariants.{Bounds, Columns, Finish, ObjectiveSense, Ranges, RightSides, Rows, Title}
use Rattle.mps_model.specs.CardFields.{counted_tokens, fixed_fields, free_fields, is_marker, named_pairs}
use Rattle.mps_model.specs.DeckOf.{IsDeckOf, Reading, crossed_bounds, finished, has_fault, is_crossed, is_deck, no_objective, read_lines}
use Rattle.mps_model.specs.DeckSoFar.{DeckSoFar, and_then, no_cards}
use Rattle.mps_model.specs.Judgement.{begin_section, bytes_counted, has_finished, has_no_sense, judge_by_form, judge_card, judge_data, judge_free_card, judge_line, judge_section}
use Rattle.mps_model.specs.Judgement.{judge_sense, judge_text, judged_by, with_sense_given}
use Rattle.mps_model.specs.PairCards.{judge_pairs, use_as_range, use_as_right}
use Rattle.mps_model.specs.BoundCards.{judge_bound}
use Rattle.mps_model.specs.Sections.{has_begun, may_begin, section_of}
use Rattle.mps_model.proofs.ReadingLemmas.{after_line}
use Rattle.deck_laws.specs.Spellable.{IsKept, IsKeptColumn, IsKeptRow, IsName, IsNumber, IsSpellable, IsTitle, IsToken, IsUnmarked}
use Rattle.deck_laws.proofs.CardNames.{IsFixedCard, fixed_names, free_tokens}
use Rattle.deck_laws.proofs.Kept.{AreNamed, IsColumn, IsHead, Keeps, KeepsDeck, KeepsParts, keeps_none}
use Rattle.deck_laws.proofs.KeptCards.{Has, IsOther, Stays, judged_row_kept, ok_same, pairs_kept, range_kept, right_kept, set_kept}
use Rattle.deck_laws.proofs.KeptColumns.{judged_bound_kept, judged_column_kept}
use Rattle.deck_laws.proofs.Whole.{read_back}

-- ── cards of data ──

-- whether a card of the section has a new name
abbrev has_names : List Section → Bool
has_names (Rows ∷ begun) = true
has_names (Columns ∷ begun) = true
has_names begun = false

data_kept : (form : Form) (begun : List Section) (s s' : DeckSoFar) (fields : List (List ℕ)) → Has form begun s → (has_names begun ≡ true → IsName form (field_of fields 2))
    → judge_data begun s fields ≡ Ok s' → Stays form begun s s'
data_kept form [] s s' fields keeps named e = absurd (cc e)
data_kept form (Rows ∷ begun) s s' fields keeps named e = judged_row_kept form begun s s' fields keeps (named refl) e
data_kept form (Columns ∷ begun) s s' fields keeps named e = judged_column_kept form begun s s' fields keeps (named refl) e
data_kept form (RightSides ∷ begun) s s' fields keeps named e =
    let other : IsOther (RightSides ∷ begun) = λ d n. tt in
    set_kept (judge_pairs use_as_right) (λ q. Stays form (RightSides ∷ begun) s q) s s' fields (refl, keeps) (refl, keeps)
    (λ q q' h judged. pairs_kept use_as_right (λ p. Stays form (RightSides ∷ begun) s p)
    (λ p p' name text k one. let step = right_kept form (RightSides ∷ begun) other p p' name text k.1 one in (step.0 ∙ k.0, step.1)) q q' fields h judged) e
data_kept form (Ranges ∷ begun) s s' fields keeps named e =
    let other : IsOther (Ranges ∷ begun) = λ d n. tt in
    set_kept (judge_pairs use_as_range) (λ q. Stays form (Ranges ∷ begun) s q) s s' fields (refl, keeps) (refl, keeps)
    (λ q q' h judged. pairs_kept use_as_range (λ p. Stays form (Ranges ∷ begun) s p)
    (λ p p' name text k one. let step = range_kept form (Ranges ∷ begun) other p p' name text k.1 one in (step.0 ∙ k.0, step.1)) q q' fields h judged) e
data_kept form (Bounds ∷ begun) s s' fields keeps named e =
    let other : IsOther (Bounds ∷ begun) = λ d n. tt in
    set_kept judge_bound (λ q. Stays form (Bounds ∷ begun) s q) s s' fields (refl, keeps) (refl, keeps)
    (λ q q' h judged. let step = judged_bound_kept form (Bounds ∷ begun) other q q' fields h.1 judged in (step.0 ∙ h.0, step.1)) e
data_kept form (ObjectiveSense ∷ begun) s s' fields keeps named e = absurd (cc e)
data_kept form (Title ∷ begun) s s' fields keeps named e = absurd (cc e)
data_kept form (Finish ∷ begun) s s' fields keeps named e = absurd (cc e)

stays_kept : (form : Form) (s s' : DeckSoFar) → Stays form s.begun s s' → Keeps form s'
stays_kept form s s' h = subst (λ begun. KeepsParts form begun s'.deck s'.free_rows s'.named) (sym h.0) h.1

ok_fields : (x y : List (List ℕ)) → ◌≡◌ {A = Result (List (List ℕ)) LineFault} (Ok x) (Ok y) → x ≡ y
ok_fields x y e = cc

fixed_same : (begun : List Section) (fields fields' : List (List ℕ)) → fixed_fields begun fields ≡ Ok fields' → fields ≡ fields'
fixed_same [] fields fields' e = ok_fields fields fields' e
fixed_same (Rows ∷ begun) fields fields' e = ok_fields fields fields' e
fixed_same (Columns ∷ begun) fields fields' e = by (is_marker (field_of fields 3) || is_marker (field_of fields 4)) e
  where
    by : (t : Bool) → ◌≡◌ {A = Result (List (List ℕ)) LineFault} (if t then Err fault.Integer else Ok fields) (Ok fields') → fields ≡ fields'
    by true e = absurd (cc e)
    by false e = ok_fields fields fields' e
fixed_same (RightSides ∷ begun) fields fields' e = ok_fields fields fields' e
fixed_same (Ranges ∷ begun) fields fields' e = ok_fields fields fields' e
fixed_same (Bounds ∷ begun) fields fields' e = ok_fields fields fields' e
fixed_same (ObjectiveSense ∷ begun) fields fields' e = ok_fields fields fields' e
fixed_same (Title ∷ begun) fields fields' e = ok_fields fields fields' e
fixed_same (Finish ∷ begun) fields fields' e = ok_fields fields fields' e

-- a card that was counted
counted_is : (t : Bool) (fields fields' : List (List ℕ)) → counted_tokens t fields ≡ Ok fields' → (t ≡ true) × (fields ≡ fields')
counted_is true fields fields' e = (refl, ok_fields fields fields' e)
counted_is false fields fields' e = absurd (cc e)

first_token : (tokens : List (List ℕ)) → AllByRecursion IsToken tokens → 1 ≤ length tokens → IsToken (get_or tokens 0 [])
first_token [] h some = absurd (omega arith)
first_token (t ∷ tokens) h some = h.0

second_token : (tokens : List (List ℕ)) → AllByRecursion IsToken tokens → 2 ≤ length tokens → IsToken (get_or tokens 1 [])
second_token [] h some = absurd (omega arith)
second_token (t ∷ tokens) h some = first_token tokens h.1 (omega arith)

second_title : (tokens : List (List ℕ)) → AllByRecursion IsToken tokens → IsTitle Free (field_of tokens 2)
second_title [] h = inl refl
second_title (t ∷ []) h = inl refl
second_title (t ∷ u ∷ tokens) h = inr h.1.0

free_named : (begun : List Section) (tokens fields : List (List ℕ)) → AllByRecursion IsToken tokens → free_fields begun tokens ≡ Ok fields → has_names begun ≡ true → IsToken (field_of fields 2)
free_named [] tokens fields h e named = absurd (cc named)
free_named (Rows ∷ begun) tokens fields h e named =
    let parts = counted_is (length tokens == 2) tokens fields e in
    let two : 2 ≤ length tokens = low (length tokens) parts.0 in
    subst (λ ts. IsToken (get_or ts 1 [])) parts.1 (second_token tokens h two)
  where
    low : (n : ℕ) → (n == 2) ≡ true → 2 ≤ n
    low n e = grind (arith, nat_tests)
free_named (Columns ∷ begun) tokens fields h e named = by (is_marker (field_of tokens 2)) e
  where
    low : (n : ℕ) → (n == 3 || n == 5) ≡ true → 1 ≤ n
    low n e = grind (arith, nat_tests)

    by : (t : Bool) → (if t then Err fault.Integer else named_pairs tokens) ≡ Ok fields → IsToken (field_of fields 2)
    by true e = absurd (cc e)
    by false e =
        let parts = counted_is (length tokens == 3 || length tokens == 5) ([] ∷ tokens) fields e in
        subst (λ ts. IsToken (get_or ts 1 [])) parts.1 (first_token tokens h (low (length tokens) parts.0))
free_named (RightSides ∷ begun) tokens fields h e named = absurd (cc named)
free_named (Ranges ∷ begun) tokens fields h e named = absurd (cc named)
free_named (Bounds ∷ begun) tokens fields h e named = absurd (cc named)
free_named (ObjectiveSense ∷ begun) tokens fields h e named = absurd (cc named)
free_named (Title ∷ begun) tokens fields h e named = absurd (cc named)
free_named (Finish ∷ begun) tokens fields h e named = absurd (cc named)

-- ── cards of sections ──

head_named : (d : Deck) (name : List ℕ) (free : List (List ℕ)) → IsHead d free → IsHead (record d { name = name }) free
head_named d name [] h = tt
head_named d name (first ∷ others) h = h

head_sensed : (d : Deck) (sense : Sense) (free : List (List ℕ)) → IsHead d free → IsHead (with_sense d sense) free
head_sensed d sense [] h = tt
head_sensed d sense (first ∷ others) h = h

named_sensed : (begun : List Section) (d : Deck) (sense : Sense) (named : List (List ℕ)) → AreNamed begun d named → AreNamed begun (with_sense d sense) named
named_sensed [] d sense named h = tt
named_sensed (Rows ∷ begun) d sense named h = tt
named_sensed (Columns ∷ begun) d sense named h = h
named_sensed (RightSides ∷ begun) d sense named h = tt
named_sensed (Ranges ∷ begun) d sense named h = tt
named_sensed (Bounds ∷ begun) d sense named h = tt
named_sensed (ObjectiveSense ∷ begun) d sense named h = tt
named_sensed (Title ∷ begun) d sense named h = tt
named_sensed (Finish ∷ begun) d sense named h = tt

with_title : (form : Form) (old new : List ℕ) (rows : List Row) (columns : List Column) (constant : ℚ) → KeepsDeck form old rows columns constant → IsTitle form new
    → KeepsDeck form new rows columns constant
with_title form old new rows columns constant h title = record {
  title = title;
  row_names = h.row_names;
  column_names = h.column_names;
  rows_once = h.rows_once;
  columns_once = h.columns_once;
  kept_rows = h.kept_rows;
  kept_columns = h.kept_columns;
  number = h.number;
  few_rows = h.few_rows;
  few_columns = h.few_columns;
  few_entries = h.few_entries;
}

-- the sense changes nothing that is kept
sense_kept : (form : Form) (s : DeckSoFar) (sense : Option Sense) → Keeps form s → Keeps form (with_sense_given s sense)
sense_kept form s None keeps = keeps
sense_kept form s (Some v) keeps = record {
  deck = keeps.deck;
  names = keeps.names;
  head = head_sensed s.deck v s.free_rows keeps.head;
  entered = named_sensed s.begun s.deck v s.named keeps.entered;
  none_yet = keeps.none_yet;
}

begun_kept : (form : Form) (s : DeckSoFar) (kind : Section) (second name : List ℕ) → Keeps form s → IsTitle form name → may_begin kind s.begun ≡ true → Keeps form (begin_section s kind second name)
begun_kept form s Title second name keeps title may =
    record {
      deck = with_title form s.deck.name name s.deck.rows s.deck.columns s.deck.constant keeps.deck title;
      names = keeps.names;
      head = head_named s.deck name s.free_rows keeps.head;
      entered = tt;
      none_yet = keeps.none_yet;
    }
begun_kept form s ObjectiveSense second name keeps title may = by (sense_of second)
  where
    by : (o : Option Sense) → Keeps form (record (with_sense_given s o) { begun = ObjectiveSense ∷ s.begun })
    by None = record { deck = keeps.deck; names = keeps.names; head = keeps.head; entered = tt; none_yet = keeps.none_yet }
    by (Some v) = record { deck = keeps.deck; names = keeps.names; head = head_sensed s.deck v s.free_rows keeps.head; entered = tt; none_yet = keeps.none_yet }
begun_kept form s Rows second name keeps title may = record { deck = keeps.deck; names = keeps.names; head = keeps.head; entered = tt; none_yet = keeps.none_yet }
begun_kept form s Columns second name keeps title may = record {
  deck = keeps.deck;
  names = keeps.names;
  head = keeps.head;
  entered = λ k h. let none : s.deck.columns ≡ [] = keeps.none_yet (not_yet (has_begun Columns s.begun) (and_parts (has_begun Rows s.begun) (not (has_begun Columns s.begun)) may).1) in
      let no : has_entry no_column.entries k ≡ true = subst (λ cs. has_entry (get_or cs (length cs - 1) no_column).entries k ≡ true) none h in absurd (cc no);
  none_yet = λ h. absurd (cc h);
}
  where
    not_yet : (t : Bool) → not t ≡ true → t ≡ false
    not_yet true e = absurd (cc e)
    not_yet false e = refl
begun_kept form s RightSides second name keeps title may = record { deck = keeps.deck; names = keeps.names; head = keeps.head; entered = tt; none_yet = keeps.none_yet }
begun_kept form s Ranges second name keeps title may = record { deck = keeps.deck; names = keeps.names; head = keeps.head; entered = tt; none_yet = keeps.none_yet }
begun_kept form s Bounds second name keeps title may = record { deck = keeps.deck; names = keeps.names; head = keeps.head; entered = tt; none_yet = keeps.none_yet }
begun_kept form s Finish second name keeps title may = record { deck = keeps.deck; names = keeps.names; head = keeps.head; entered = tt; none_yet = keeps.none_yet }

abbrev section_by : DeckSoFar → List ℕ → List ℕ → Option Section → Result DeckSoFar LineFault
section_by s second name o =
    elim o [
      | None ↦ Err fault.Section
      | Some kind ↦ if has_no_sense kind second then Err fault.Sense else if may_begin kind s.begun then Ok (begin_section s kind second name) else Err fault.Section
    ]

section_kept : (form : Form) (s s' : DeckSoFar) (word second name : List ℕ) → Keeps form s → IsTitle form name → judge_section s word second name ≡ Ok s' → Keeps form s'
section_kept form s s' word second name keeps title e = by (section_of word) e
  where
    begins : (kind : Section) (t u : Bool) → may_begin kind s.begun ≡ u → (if t then Err fault.Sense else if u then Ok (begin_section s kind second name) else Err fault.Section) ≡ Ok s'
        → Keeps form s'
    begins kind true u may e = absurd (cc e)
    begins kind false false may e = absurd (cc e)
    begins kind false true may e = subst (λ q. Keeps form q) (ok_same (begin_section s kind second name) s' e) (begun_kept form s kind second name keeps title may)

    by : (o : Option Section) → section_by s second name o ≡ Ok s' → Keeps form s'
    by None e = absurd (cc e)
    by (Some kind) e = begins kind (has_no_sense kind second) (may_begin kind s.begun) refl e

-- ── cards ──

fixed_card_kept : (s s' : DeckSoFar) (card : Card) → Keeps Fixed s → IsFixedCard card → judge_card s card ≡ Ok s' → Keeps Fixed s'
fixed_card_kept s s' card keeps (inl title) e =
    section_kept Fixed s s' (field_of card.fields 1) (field_of card.fields 2) (field_of card.fields 3) keeps title.1
    (ap (λ t. if t then judge_section s (field_of card.fields 1) (field_of card.fields 2) (field_of card.fields 3) else and_then (fixed_fields s.begun card.fields) (judge_data s.begun s))
    (sym title.0) ∙ e)
fixed_card_kept s s' card keeps (inr given) e =
    by (fixed_fields s.begun card.fields) refl
    (ap (λ t. if t then judge_section s (field_of card.fields 1) (field_of card.fields 2) (field_of card.fields 3) else and_then (fixed_fields s.begun card.fields) (judge_data s.begun s))
    (sym given.0) ∙ e)
  where
    by : (r : Result (List (List ℕ)) LineFault) → fixed_fields s.begun card.fields ≡ r → and_then r (judge_data s.begun s) ≡ Ok s' → Keeps Fixed s'
    by (Ok fields) h e =
        stays_kept Fixed s s' (data_kept Fixed s.begun s s' fields keeps (λ named. subst (λ fs. IsName Fixed (field_of fs 2)) (fixed_same s.begun card.fields fields h) given.1) e)
    by (Err why) h e = absurd (cc e)

free_card_kept : (s s' : DeckSoFar) (card : FreeCard) → Keeps Free s → AllByRecursion IsToken card.tokens → judge_free_card s card ≡ Ok s' → Keeps Free s'
free_card_kept s s' card keeps tokens e = by card.is_section e
  where
    fields_kept : (r : Result (List (List ℕ)) LineFault) → free_fields s.begun card.tokens ≡ r → and_then r (judge_data s.begun s) ≡ Ok s' → Keeps Free s'
    fields_kept (Ok fields) h e = stays_kept Free s s' (data_kept Free s.begun s s' fields keeps (free_named s.begun card.tokens fields tokens h) e)
    fields_kept (Err why) h e = absurd (cc e)

    by : (t : Bool) → (if t then judge_section s (field_of card.tokens 1) (field_of card.tokens 2) (field_of card.tokens 2)
        else and_then (free_fields s.begun card.tokens) (judge_data s.begun s)) ≡ Ok s' → Keeps Free s'
    by true e = section_kept Free s s' (field_of card.tokens 1) (field_of card.tokens 2) (field_of card.tokens 2) keeps (second_title card.tokens tokens) e
    by false e = fields_kept (free_fields s.begun card.tokens) refl e

sense_card_kept : (form : Form) (s s' : DeckSoFar) (card : FreeCard) → Keeps form s → judge_sense s card ≡ Ok s' → Keeps form s'
sense_card_kept form s s' card keeps e = by (not card.is_section && is_some (sense_of (field_of card.tokens 1))) e
  where
    by : (t : Bool) → (if t then Ok (with_sense_given s (sense_of (field_of card.tokens 1))) else Err fault.Sense) ≡ Ok s' → Keeps form s'
    by true e = subst (λ q. Keeps form q) (ok_same (with_sense_given s (sense_of (field_of card.tokens 1))) s' e) (sense_kept form s (sense_of (field_of card.tokens 1)) keeps)
    by false e = absurd (cc e)

-- what a card is judged to be, or the deck so far as it was
judged_kept : {C : Type 0} (form : Form) (judge : DeckSoFar → C → Result DeckSoFar LineFault) (s s' : DeckSoFar) (r : Result (Option C) LineFault) → Keeps form s
    → ((card : C) → r ≡ Ok (Some card) → judge s card ≡ Ok s' → Keeps form s') → judged_by judge s r ≡ Ok s' → Keeps form s'
judged_kept form judge s s' (Err why) keeps step e = absurd (cc e)
judged_kept form judge s s' (Ok None) keeps step e = subst (λ q. Keeps form q) (ok_same s s' e) keeps
judged_kept form judge s s' (Ok (Some card)) keeps step e = step card refl e

text_kept : (form : Form) (s s' : DeckSoFar) (text : List ℕ) → Keeps form s → judge_text form s text ≡ Ok s' → Keeps form s'
text_kept form s s' text keeps e = by s.awaits_sense form keeps e
  where
    by : (t : Bool) (form : Form) → Keeps form s → (if t then judged_by judge_sense s (free_card_in text) else judge_by_form form s text) ≡ Ok s' → Keeps form s'
    by true form keeps e = judged_kept form judge_sense s s' (free_card_in text) keeps (λ card is judged. sense_card_kept form s s' card keeps judged) e
    by false Fixed keeps e = judged_kept Fixed judge_card s s' (card_in text) keeps (λ card is judged. fixed_card_kept s s' card keeps (fixed_names text card is) judged) e
    by false Free keeps e = judged_kept Free judge_free_card s s' (free_card_in text) keeps (λ card is judged. free_card_kept s s' card keeps (free_tokens text card is) judged) e

line_kept : (form : Form) (used : ℕ) (s s' : DeckSoFar) (line : Line) → Keeps form s → judge_line form used s line ≡ Ok s' → Keeps form s'
line_kept form used s s' line keeps e = by (nat_le (used + size_of line) byte_limit) e
  where
    by : (t : Bool) → (if t then judge_text form s (bytes_counted form line.bytes) else Err (fault.Limit limit.Bytes)) ≡ Ok s' → Keeps form s'
    by true e = text_kept form s s' (bytes_counted form line.bytes) keeps e
    by false e = absurd (cc e)

-- ── the end of the deck ──

abbrev IsRead : Form → Deck → Type 0
IsRead form d = IsKept d × IsSpellable form d

uncrossed : (cs : List Column) → find (λ (c : Column). is_crossed c.bounds) cs ≡ None → AllByRecursion (λ (c : Column). is_crossed c.bounds ≡ false) cs
uncrossed [] h = tt
uncrossed (c ∷ cs) h = by (is_crossed c.bounds) refl (uncrossed cs) h
  where
    by : (t : Bool) → is_crossed c.bounds ≡ t → (find (λ (q : Column). is_crossed q.bounds) cs ≡ None → AllByRecursion (λ (q : Column). is_crossed q.bounds ≡ false) cs)
        → (if t then Some c else find (λ (q : Column). is_crossed q.bounds) cs) ≡ None → (is_crossed c.bounds ≡ false) × AllByRecursion (λ (q : Column). is_crossed q.bounds ≡ false) cs
    by true is rest h = absurd (cc h)
    by false is rest h = (is, rest h)

kept_columns : (rows : ℕ) (cs : List Column) → AllByRecursion (IsColumn rows) cs → AllByRecursion (λ (c : Column). is_crossed c.bounds ≡ false) cs → AllByRecursion (IsKeptColumn rows) cs
kept_columns rows [] h k = tt
kept_columns rows (c ∷ cs) h k = (
  record { cost = h.0.cost; sparse = h.0.sparse; entries = All-from_recursion (λ (e : ℕ × ℚ). IsNumber e.1) c.entries h.0.entries; lower = h.0.lower; upper = h.0.upper; uncrossed = k.0 },
  kept_columns rows cs h.1 k.1,
)

read_deck : (form : Form) (s : DeckSoFar) (name : List ℕ) (others : List (List ℕ)) → Keeps form s → s.free_rows ≡ name ∷ others
    → AllByRecursion (λ (c : Column). is_crossed c.bounds ≡ false) s.deck.columns → IsRead form s.deck
unfolding IsDistinct
read_deck form s name others keeps free straight =
    let head = subst (λ names. IsHead s.deck names) free keeps.head in
    let names = subst (λ names. AllByRecursion (IsName form) names) free keeps.names in (
      record {
        row_names = (subst (λ n. AllByRecursion (λ y. same_bytes n y ≡ false) (map (λ (r : Row). r.name) s.deck.rows)) head.0 head.1, keeps.deck.rows_once);
        column_names = keeps.deck.columns_once;
        rows = All-from_recursion IsKeptRow s.deck.rows keeps.deck.kept_rows;
        columns = All-from_recursion (IsKeptColumn (length s.deck.rows)) s.deck.columns (kept_columns (length s.deck.rows) s.deck.columns keeps.deck.kept_columns straight);
        constant = keeps.deck.number;
        few_rows = keeps.deck.few_rows;
        few_columns = keeps.deck.few_columns;
        few_entries = keeps.deck.few_entries;
      },
      record {
        title = keeps.deck.title;
        objective = subst (IsName form) head.0 names.0;
        rows = All-from_recursion (λ (r : Row). IsName form r.name) s.deck.rows keeps.deck.row_names;
        columns = All-from_recursion (λ (c : Column). IsName form c.name) s.deck.columns keeps.deck.column_names;
      },
    )

abbrev ended_by : DeckSoFar → ℕ → List (List ℕ) → Reading
ended_by s n free =
    elim free [
      | [] ↦ has_fault no_objective
      | name ∷ others ↦ elim (find (λ (c : Column). is_crossed c.bounds) s.deck.columns) [ None ↦ is_deck s.deck n | Some c ↦ has_fault (crossed_bounds c.name) ]
    ]

same_deck : (d d' : Deck) (n n' : ℕ) → is_deck d n ≡ is_deck d' n' → d ≡ d'
same_deck d d' n n' e = cc

finished_kept : (form : Form) (s : DeckSoFar) (n line : ℕ) (d : Deck) → Keeps form s → finished s n ≡ is_deck d line → IsRead form d
finished_kept form s n line d keeps e = by s.free_rows refl e
  where
    crossed : (o : Option Column) → find (λ (c : Column). is_crossed c.bounds) s.deck.columns ≡ o → (name : List ℕ) (others : List (List ℕ)) → s.free_rows ≡ name ∷ others
        → elim o [ None ↦ is_deck s.deck n | Some c ↦ has_fault (crossed_bounds c.name) ] ≡ is_deck d line → IsRead form d
    crossed None none name others free e = subst (IsRead form) (same_deck s.deck d n line e) (read_deck form s name others keeps free (uncrossed s.deck.columns none))
    crossed (Some c) found name others free e = absurd (cc e)

    by : (free : List (List ℕ)) → s.free_rows ≡ free → ended_by s n free ≡ is_deck d line → IsRead form d
    by [] free e = absurd (cc e)
    by (name ∷ others) free e = crossed (find (λ (c : Column). is_crossed c.bounds) s.deck.columns) refl name others free e

lines_kept : (form : Form) (n used : ℕ) (s : DeckSoFar) (lines : List Line) (d : Deck) (line : ℕ) → Keeps form s → read_lines form n used s lines ≡ is_deck d line → IsRead form d
lines_kept form n used s [] d line keeps e = absurd (cc e)
lines_kept form n used s (first ∷ lines) d line keeps e =
    by (judge_line form used s first) refl (λ after h k. lines_kept form (suc n) (used + size_of first) after lines d line h k) e
  where
    ends : (after : DeckSoFar) (t : Bool) → Keeps form after → ((after : DeckSoFar) → Keeps form after → read_lines form (suc n) (used + size_of first) after lines ≡ is_deck d line → IsRead form d)
        → (if t then finished after (suc n) else read_lines form (suc n) (used + size_of first) after lines) ≡ is_deck d line → IsRead form d
    ends after true h rest e = finished_kept form after (suc n) line d h e
    ends after false h rest e = rest after h e

    by : (r : Result DeckSoFar LineFault) → judge_line form used s first ≡ r
        → ((after : DeckSoFar) → Keeps form after → read_lines form (suc n) (used + size_of first) after lines ≡ is_deck d line → IsRead form d)
        → after_line form n used first lines r ≡ is_deck d line → IsRead form d
    by (Err why) h rest e = absurd (cc e)
    by (Ok after) h rest e = ends after (has_finished after.begun) (line_kept form used s after first keeps h) rest e

-- a deck that was read in a form is kept, and the form spells its names
pub reading_kept : (form : Form) (text : List ℕ) (d : Deck) (line : ℕ) → IsDeckOf form text d line → IsKept d × IsSpellable form d
reading_kept form text d line e = lines_kept form 0 0 no_cards (lines_of text) d line (keeps_none form) e

-- so it reads back where it is written
pub reading_back : (form : Form) (text : List ℕ) (d : Deck) (line : ℕ) (written : List ℕ) → IsDeckOf form text d line → IsUnmarked d → deck_text form d ≡ Ok written → length written ≤ byte_limit
    → (last : ℕ) × IsDeckOf form written d last
reading_back form text d line written e unmarked is within =
    let kept = reading_kept form text d line e in
    read_back form d written kept.0 kept.1 unmarked is within
