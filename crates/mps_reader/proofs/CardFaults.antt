-- A fault of a card is never the limit of bytes.
use Rattle.std.specs.Prelude.{ℕ, ◌+◌, List, [], ◌∷◌, length, Option, Some, None, IfErr, Result, Ok, Err, Bool, true, false, cond, ◌&&◌, ◌||◌, ◌==◌, ◌%◌, take, is_some, nat_lt, not, codes}
use Rattle.std.specs.Option.{unwrap_or}
use Rattle.rational.specs.Rational.{ℚ}
use Rattle.lp_model.specs.Edit.{find_column, same_bytes}
use Rattle.lp_text.specs.Cards.{byte_in, card_in, data_card, field_of, filled_gap, is_blank, is_ignored, is_printable}
use Rattle.lp_text.specs.FreeCards.{free_card_in, is_too_long}
use Rattle.lp_text.specs.Senses.{sense_of}
use Rattle.lp_text.specs.declared.Form.{Form}
use Rattle.lp_text.specs.declared.Form.TheVariants as form_of
use Rattle.std.specs.List.{list_all}
use Rattle.lp_text.specs.Limits.{column_limit, free_line_limit, row_limit}
use Rattle.mps_model.specs.declared.BoundKind.{BoundKind}
use Rattle.mps_model.specs.BoundCards.{bound_number, has_number, integer_kinds, is_wrong_infinity, judge_bound, judge_bound_of, kind_of, with_bound}
use Rattle.lp_text.specs.declared.LineFault.{LineFault}
use Rattle.lp_text.specs.declared.LineFault.TheVariants as fault
use Rattle.lp_text.specs.declared.Counted.TheVariants as counted
use Rattle.mps_model.specs.DeckSoFar.{DeckSoFar, RowPlace, and_then, dropped, is_among, objective, place_of, row}
use Rattle.mps_model.specs.CardFields.{bound_tokens, counted_tokens, fixed_fields, free_fields, is_marker, named_pairs}
use Rattle.mps_model.specs.Judgement.{begin_section, has_no_sense, judge_by_form, judge_card, judge_data, judge_free_card, judge_section, judge_sense, judge_text, judged_by}
use Rattle.mps_model.specs.declared.FieldFault.{FieldFault}
use Rattle.mps_model.specs.NumberField.{field_value}
use Rattle.mps_model.specs.PairCards.{UseOfNumber, at_column, begin_column, has_room, has_second_pair, judge_column, judge_in_set, judge_pair, judge_pairs, number_in, use_as_range, use_as_right, use_in_column, with_named, with_set}
use Rattle.mps_model.specs.declared.RowType.{RowType}
use Rattle.mps_model.specs.declared.RowType.TheVariants.{Free, Kept}
use Rattle.mps_model.specs.RowCards.{judge_row, row_type_of, with_row_of}
use Rattle.mps_model.specs.declared.Section.{Section}
use Rattle.mps_model.specs.declared.Section.TheVariants.{Bounds, Columns, Finish, ObjectiveSense, Ranges, RightSides, Rows, Title}
use Rattle.mps_model.specs.Sections.{may_begin, section_of}

-- a fault that a card may have: any but the limit of bytes
abbrev pub IsOfCard : LineFault → Type 0
IsOfCard (fault.Limit counted.Bytes) = ⊥
IsOfCard other = Unit {0}

-- a judgement whose fault, if it is one, is a card's
abbrev pub JudgesCard : {T : Type 0} → Result T LineFault → Type 0
JudgesCard judged = IfErr judged IsOfCard

either : {T : Type 0} (b : Bool) (here other : Result T LineFault) → JudgesCard here → JudgesCard other → JudgesCard (cond b here other)
either true here other h k = h
either false here other h k = k

then : {T U : Type 0} (first : Result T LineFault) (step : T → Result U LineFault) → JudgesCard first → ((x : T) → JudgesCard (step x)) → JudgesCard (and_then first step)
then (Ok x) step h k = k x
then (Err fault) step h k = h

-- ── rows ──

row_added : (s : DeckSoFar) (name : List ℕ) (kind : RowType) → JudgesCard (with_row_of s name kind)
row_added s name Free = tt
row_added s name (Kept kind) = either (nat_lt (length s.deck.rows) row_limit) _ _ tt tt

row_judged : (s : DeckSoFar) (fields : List (List ℕ)) → JudgesCard (judge_row s fields)
row_judged s fields = by (row_type_of (field_of fields 1))
  where
    by : (o : Option RowType) → JudgesCard (elim o [
      | None ↦ Err fault.RowType
      | Some kind ↦ cond (is_some (place_of s (field_of fields 2))) (Err fault.Repeated)
          (with_row_of s (field_of fields 2) kind)
    ])
    by None = tt
    by (Some kind) = either (is_some (place_of s (field_of fields 2))) _ _ tt (row_added s (field_of fields 2) kind)

-- ── pairs ──

number_read : (text : List ℕ) → JudgesCard (number_in text)
number_read text = by (field_value text)
  where
    by : (value : Result ℚ FieldFault) → JudgesCard {T = ℚ} (elim value [ Err why ↦ Err fault.Number | Ok v ↦ Ok v ])
    by (Ok v) = tt
    by (Err fault) = tt

module _ (use_number : UseOfNumber) (used : (s : DeckSoFar) (place : RowPlace) (v : ℚ) → JudgesCard (use_number s place v)) where
  pair_judged : (s : DeckSoFar) (name text : List ℕ) → JudgesCard (judge_pair use_number s name text)
  pair_judged s name text = by (place_of s name)
    where
      by : (o : Option RowPlace) → JudgesCard (elim o [
        | None ↦ Err fault.UnknownRow
        | Some place ↦ cond (is_among name s.named) (Err fault.Repeated)
            (and_then (number_in text) (λ v. use_number (with_named s name) place v))
      ])
      by None = tt
      by (Some place) = either (is_among name s.named) _ _ tt (then (number_in text) _ (number_read text) (λ v. used (with_named s name) place v))

  pairs_judged : (s : DeckSoFar) (fields : List (List ℕ)) → JudgesCard (judge_pairs use_number s fields)
  pairs_judged s fields = then (judge_pair use_number s (field_of fields 3) (field_of fields 4)) _ (pair_judged s (field_of fields 3) (field_of fields 4))
      (λ after. either (has_second_pair fields) _ _ (pair_judged after (field_of fields 5) (field_of fields 6)) tt)

column_used : (s : DeckSoFar) (place : RowPlace) (v : ℚ) → JudgesCard (use_in_column s place v)
column_used s objective v = either (has_room s v) _ _ tt tt
column_used s (row i) v = either (has_room s v) _ _ tt tt
column_used s dropped v = tt

right_used : (s : DeckSoFar) (place : RowPlace) (v : ℚ) → JudgesCard (use_as_right s place v)
right_used s objective v = tt
right_used s (row i) v = tt
right_used s dropped v = tt

range_used : (s : DeckSoFar) (place : RowPlace) (v : ℚ) → JudgesCard (use_as_range s place v)
range_used s objective v = tt
range_used s (row i) v = tt
range_used s dropped v = tt

column_found : (s : DeckSoFar) (name : List ℕ) → JudgesCard (at_column s name)
column_found s name = by (find_column s.deck name)
  where
    by : (o : Option ℕ) → JudgesCard (elim o [ None ↦ begin_column s name | Some j ↦ cond (j + 1 == length s.deck.columns) (Ok s) (Err fault.Scattered) ])
    by None = either (nat_lt (length s.deck.columns) column_limit) _ _ tt tt
    by (Some j) = either (j + 1 == length s.deck.columns) _ _ tt tt

column_judged : (s : DeckSoFar) (fields : List (List ℕ)) → JudgesCard (judge_column s fields)
column_judged s fields = then (at_column s (field_of fields 2)) _ (column_found s (field_of fields 2)) (λ after. pairs_judged use_in_column column_used after fields)

-- ── bounds ──

kind_read : (word : List ℕ) → JudgesCard (kind_of word)
kind_read word =
    either (same_bytes word (codes "UP")) _ _ tt
    (either (same_bytes word (codes "LO")) _ _ tt
    (either (same_bytes word (codes "FX")) _ _ tt
    (either (same_bytes word (codes "FR")) _ _ tt
    (either (same_bytes word (codes "MI")) _ _ tt
    (either (same_bytes word (codes "PL")) _ _ tt
    (either (is_among word integer_kinds) _ _ tt tt))))))

bound_number_read : (kind : BoundKind) (text : List ℕ) → JudgesCard (bound_number kind text)
bound_number_read kind text = either (has_number kind) _ _ (then (number_in text) _ (number_read text) (λ v. either (is_wrong_infinity kind v) _ _ tt tt)) tt

bound_of_judged : (s : DeckSoFar) (kind : BoundKind) (fields : List (List ℕ)) → JudgesCard (judge_bound_of s kind fields)
bound_of_judged s kind fields = by (find_column s.deck (field_of fields 3))
  where
    by : (o : Option ℕ) → JudgesCard (elim o [ None ↦ Err fault.UnknownColumn | Some j ↦ and_then (bound_number kind (field_of fields 4)) (λ v. Ok (with_bound s kind j v)) ])
    by None = tt
    by (Some j) = then (bound_number kind (field_of fields 4)) _ (bound_number_read kind (field_of fields 4)) (λ v. tt)

bound_judged : (s : DeckSoFar) (fields : List (List ℕ)) → JudgesCard (judge_bound s fields)
bound_judged s fields = then (kind_of (field_of fields 1)) _ (kind_read (field_of fields 1)) (λ kind. bound_of_judged s kind fields)

-- ── cards ──

in_set_judged : (judge : DeckSoFar → List (List ℕ) → Result DeckSoFar LineFault) → ((s : DeckSoFar) (fields : List (List ℕ)) → JudgesCard (judge s fields))
    → (s : DeckSoFar) (fields : List (List ℕ)) → JudgesCard (judge_in_set judge s fields)
in_set_judged judge h s fields = either (same_bytes (unwrap_or s.set (field_of fields 2)) (field_of fields 2)) _ _ (h (with_set s (field_of fields 2)) fields) tt

data_judged : (begun : List Section) (s : DeckSoFar) (fields : List (List ℕ)) → JudgesCard (judge_data begun s fields)
data_judged (Rows ∷ begun) s fields = row_judged s fields
data_judged (Columns ∷ begun) s fields = column_judged s fields
data_judged (RightSides ∷ begun) s fields = in_set_judged _ (pairs_judged use_as_right right_used) s fields
data_judged (Ranges ∷ begun) s fields = in_set_judged _ (pairs_judged use_as_range range_used) s fields
data_judged (Bounds ∷ begun) s fields = in_set_judged _ bound_judged s fields
data_judged (ObjectiveSense ∷ begun) s fields = tt
data_judged (Title ∷ begun) s fields = tt
data_judged (Finish ∷ begun) s fields = tt
data_judged [] s fields = tt

section_judged : (s : DeckSoFar) (word second name : List ℕ) → JudgesCard (judge_section s word second name)
section_judged s word second name = by (section_of word)
  where
    by : (o : Option Section) → JudgesCard (elim o [
      | None ↦ Err fault.Section
      | Some kind ↦ cond (has_no_sense kind second) (Err fault.Sense)
          (cond (may_begin kind s.begun) (Ok (begin_section s kind second name)) (Err fault.Section))
    ])
    by None = tt
    by (Some kind) = either (has_no_sense kind second) _ _ tt (either (may_begin kind s.begun) _ _ tt tt)

-- ── the fields of a card ──

fixed_cut : (begun : List Section) (fields : List (List ℕ)) → JudgesCard (fixed_fields begun fields)
fixed_cut (Columns ∷ begun) fields = either (is_marker (field_of fields 3) || is_marker (field_of fields 4)) _ _ tt tt
fixed_cut (Rows ∷ begun) fields = tt
fixed_cut (RightSides ∷ begun) fields = tt
fixed_cut (Ranges ∷ begun) fields = tt
fixed_cut (Bounds ∷ begun) fields = tt
fixed_cut (ObjectiveSense ∷ begun) fields = tt
fixed_cut (Title ∷ begun) fields = tt
fixed_cut (Finish ∷ begun) fields = tt
fixed_cut [] fields = tt

tokens_counted : (right : Bool) (fields : List (List ℕ)) → JudgesCard (counted_tokens right fields)
tokens_counted true fields = tt
tokens_counted false fields = tt

bound_cut : (kind : BoundKind) (tokens : List (List ℕ)) → JudgesCard (bound_tokens kind tokens)
bound_cut kind tokens = either (length tokens == cond (has_number kind) 3 2) _ _ tt
    (tokens_counted (length tokens == 4 || (length tokens == 3 && not (has_number kind))) tokens)

pairs_cut : (tokens : List (List ℕ)) → JudgesCard (named_pairs tokens)
pairs_cut tokens = tokens_counted (length tokens == 3 || length tokens == 5) ([] ∷ tokens)

free_cut : (begun : List Section) (tokens : List (List ℕ)) → JudgesCard (free_fields begun tokens)
free_cut (Rows ∷ begun) tokens = tokens_counted (length tokens == 2) tokens
free_cut (Columns ∷ begun) tokens = either (is_marker (field_of tokens 2)) _ _ tt (pairs_cut tokens)
free_cut (RightSides ∷ begun) tokens = pairs_cut (cond (length tokens % 2 == 0) ([] ∷ tokens) tokens)
free_cut (Ranges ∷ begun) tokens = pairs_cut (cond (length tokens % 2 == 0) ([] ∷ tokens) tokens)
free_cut (Bounds ∷ begun) tokens = then (kind_of (field_of tokens 1)) _ (kind_read (field_of tokens 1)) (λ kind. bound_cut kind tokens)
free_cut (ObjectiveSense ∷ begun) tokens = tt
free_cut (Title ∷ begun) tokens = tt
free_cut (Finish ∷ begun) tokens = tt
free_cut [] tokens = tt

-- ── lines ──

-- what a line in fixed columns is by itself
card_judged : (text : List ℕ) → JudgesCard (card_in text)
card_judged text = either (is_ignored text) _ _ tt (either (not (list_all is_printable text)) _ _ tt (either (is_blank (byte_in text 1)) _ _ (by (filled_gap text)) tt))
  where
    by : (gap : Option ℕ) → JudgesCard (data_card text gap)
    by None = tt
    by (Some column) = tt

-- what a line in free form is by itself
free_card_judged : (text : List ℕ) → JudgesCard (free_card_in text)
free_card_judged text =
    either (byte_in text 1 == 42) _ _ tt
    (either (not (list_all is_printable (take free_line_limit text))) _ _ tt
    (either (is_too_long text) _ _ tt
    (either (list_all is_blank text) _ _ tt tt)))

card_or_none : {C : Type 0} (judge : DeckSoFar → C → Result DeckSoFar LineFault) → ((s : DeckSoFar) (card : C) → JudgesCard (judge s card))
    → (s : DeckSoFar) (o : Result (Option C) LineFault) → JudgesCard o → JudgesCard (judged_by judge s o)
card_or_none judge of_card s (Err why) h = h
card_or_none judge of_card s (Ok None) h = tt
card_or_none judge of_card s (Ok (Some card)) h = of_card s card

by_form_judged : (form : Form) (s : DeckSoFar) (text : List ℕ) → JudgesCard (judge_by_form form s text)
by_form_judged form_of.Fixed s text = card_or_none judge_card (λ s card. either card.is_section _ _
    (section_judged s (field_of card.fields 1) (field_of card.fields 2) (field_of card.fields 3))
    (then (fixed_fields s.begun card.fields) _ (fixed_cut s.begun card.fields) (data_judged s.begun s))) s (card_in text) (card_judged text)
by_form_judged form_of.Free s text = card_or_none judge_free_card (λ s card. either card.is_section _ _
    (section_judged s (field_of card.tokens 1) (field_of card.tokens 2) (field_of card.tokens 2))
    (then (free_fields s.begun card.tokens) _ (free_cut s.begun card.tokens) (data_judged s.begun s))) s (free_card_in text) (free_card_judged text)

-- what the bytes of a line that count are judged to be
pub text_judged : (form : Form) (s : DeckSoFar) (text : List ℕ) → JudgesCard (judge_text form s text)
text_judged form s text = either s.awaits_sense _ _
    (card_or_none judge_sense (λ s card. either (not card.is_section && is_some (sense_of (field_of card.tokens 1))) _ _ tt tt) s (free_card_in text) (free_card_judged text))
    (by_form_judged form s text)
