-- The lines that begin sections, and those of the title and of the sense.
use Rattle.std.proofs.Common.{◌≡◌, ℕ, ◌≤◌, Bool, true, false, List, [], ◌∷◌, ◌++◌, length, take, Option, Some, None, Result, Ok, Err, refl, ap, subst, ◌∙◌, arith, inl, inr}
use Rattle.std.specs.Prelude.{codes, if◌then◌else◌}
use Rattle.std.specs.List.{list_all, list_any}
use Rattle.std.proofs.lemmas.Bool.{le-ltb}
use Rattle.std.proofs.lemmas.List.{length-append, take_all}
use Rattle.deck_tools.specs.Layout.{sense_lines, title, with_field, word}
use Rattle.lp_model.specs.Deck.{Deck}
use Rattle.lp_model.specs.Edit.{new_deck}
use Rattle.lp_model.specs.declared.Sense.{Sense}
use Rattle.lp_model.specs.declared.Sense.TheVariants.{Max, Min}
use Rattle.lp_text.specs.Cards.{is_printable, card_in, counted, trimmed, words_of}
use Rattle.lp_text.specs.FreeCards.{free_card_in}
use Rattle.lp_text.specs.declared.Form.{Form}
use Rattle.lp_text.specs.declared.Form.TheVariants.{Fixed, Free}
use Rattle.lp_text.specs.declared.LineFault.{LineFault}
use Rattle.lp_text.specs.declared.LineFault.TheVariants as fault
use Rattle.mps_model.specs.declared.Section.{Section}
use Rattle.mps_model.specs.declared.Section.TheVariants.{Bounds, Columns, Finish, ObjectiveSense, Ranges, RightSides, Rows, Title}
use Rattle.mps_model.specs.DeckSoFar.{DeckSoFar, no_cards}
use Rattle.mps_model.specs.Judgement.{bytes_counted, judge_card, judge_free_card, judge_text, judged_by}
use Rattle.mps_model.specs.Sections.{may_begin, word_of}
use Rattle.deck_laws.specs.Spellable.{IsFitted, IsTitle}
use Rattle.deck_laws.proofs.FixedCards.{no_return_dropped}
use Rattle.deck_laws.proofs.FreeLines.{all-free, is_long, length-free, marks_print, not_long_given, words-field}
use Rattle.deck_laws.proofs.Runs.{Runs, Takes}
use Rattle.deck_laws.proofs.Taken.{at}

word_taken : (form : Form) (w : List ℕ) (s s' : DeckSoFar) → list_all is_printable w ≡ true → judge_text form s (bytes_counted form w) ≡ Ok s' → Takes form s (word w) s'
word_taken form w s s' prints judged text is =
    let same : w ≡ text = cc in
    subst (λ t. (list_all is_printable t ≡ true) × (judge_text form s (bytes_counted form t) ≡ Ok s')) same (prints, judged)

-- ── sections ──

module _ (begun : List Section) (d : Deck) (free : List (List ℕ)) (set : Option (List ℕ)) (named : List (List ℕ)) (lowered : List ℕ) where
  abbrev begin : Section → Bool → Result DeckSoFar LineFault
  begin section may = if may then Ok (at (section ∷ begun) d free None [] lowered) else Err fault.Section

  -- a section whose card has its word alone
  abbrev is_plain : Section → Bool
  is_plain Title = false
  is_plain ObjectiveSense = false
  is_plain Rows = true
  is_plain Columns = true
  is_plain RightSides = true
  is_plain Ranges = true
  is_plain Bounds = true
  is_plain Finish = true

  word_prints : (section : Section) → list_all is_printable (word_of section) ≡ true
  word_prints Title = refl
  word_prints ObjectiveSense = refl
  word_prints Rows = refl
  word_prints Columns = refl
  word_prints RightSides = refl
  word_prints Ranges = refl
  word_prints Bounds = refl
  word_prints Finish = refl

  section_judged : (section : Section) (form : Form) → is_plain section ≡ true → may_begin section begun ≡ true
      → judge_text form (at begun d free set named lowered) (bytes_counted form (word_of section)) ≡ Ok (at (section ∷ begun) d free None [] lowered)
  section_judged Title form plain may = absurd (cc plain)
  section_judged ObjectiveSense form plain may = absurd (cc plain)
  section_judged Rows Fixed plain may = ap (begin Rows) may
  section_judged Rows Free plain may = ap (begin Rows) may
  section_judged Columns Fixed plain may = ap (begin Columns) may
  section_judged Columns Free plain may = ap (begin Columns) may
  section_judged RightSides Fixed plain may = ap (begin RightSides) may
  section_judged RightSides Free plain may = ap (begin RightSides) may
  section_judged Ranges Fixed plain may = ap (begin Ranges) may
  section_judged Ranges Free plain may = ap (begin Ranges) may
  section_judged Bounds Fixed plain may = ap (begin Bounds) may
  section_judged Bounds Free plain may = ap (begin Bounds) may
  section_judged Finish Fixed plain may = ap (begin Finish) may
  section_judged Finish Free plain may = ap (begin Finish) may

  -- its word begins it, where it may begin
  pub section_begins : (section : Section) (form : Form) → is_plain section ≡ true → may_begin section begun ≡ true
      → Takes form (at begun d free set named lowered) (word (word_of section)) (at (section ∷ begun) d free None [] lowered)
  section_begins section form plain may =
      word_taken form (word_of section) (at begun d free set named lowered) (at (section ∷ begun) d free None [] lowered) (word_prints section) (section_judged section form plain may)

-- ── the title ──

-- behind the title, the deck has its name
abbrev pub titled : List ℕ → DeckSoFar
titled name = at (Title ∷ []) (new_deck name []) [] None [] []

fixed_title : (name : List ℕ) → IsFitted 8 name
    → (list_all is_printable (with_field Fixed (codes "NAME") 14 name) ≡ true) × (judge_text Fixed no_cards (bytes_counted Fixed (with_field Fixed (codes "NAME") 14 name)) ≡ Ok (titled name))
fixed_title [] fits = (refl, refl)
fixed_title (c ∷ name) fits =
    let line = codes "NAME          " ++ c ∷ name in
    let prints : list_all is_printable line ≡ true = fits.printable in
    let short : length line ≤ 61 = omega (arith, length-append (codes "NAME          ") (c ∷ name), fits.few) in
    let all : counted line ≡ line = ap (take 61) (no_return_dropped line prints) ∙ take_all 61 line short in
    let own : trimmed (take 8 (c ∷ name)) ≡ c ∷ name = ap trimmed (take_all 8 (c ∷ name) fits.few) ∙ fits.bare in
    (prints, ap (λ t. judged_by judge_card no_cards (card_in t)) all ∙ by line prints (c ∷ name) own)
  where
    by : (line : List ℕ) → list_all is_printable (codes "NAME          " ++ c ∷ name) ≡ true → (n : List ℕ) → trimmed (take 8 (c ∷ name)) ≡ n
        → judged_by judge_card no_cards (card_in (codes "NAME          " ++ c ∷ name)) ≡ Ok (titled n)
    by line prints n own = rw (prints, own) refl

free_title : (name : List ℕ) → IsTitle Free name
    → (list_all is_printable (with_field Free (codes "NAME") 14 name) ≡ true) × (judge_text Free no_cards (bytes_counted Free (with_field Free (codes "NAME") 14 name)) ≡ Ok (titled name))
free_title [] h = (refl, refl)
free_title (c ∷ name) (inl e) = absurd (cc e)
free_title (c ∷ name) (inr token) =
    let line = with_field Free (codes "NAME") 14 (c ∷ name) in
    let prints : list_all is_printable line ≡ true = all-free (codes "NAME") 14 is_printable refl (c ∷ name) ∙ marks_print (c ∷ name) token.marks in
    let short : length line ≤ 255 = omega (arith, length-free (codes "NAME") 14 (c ∷ name), token.few) in
    let words : words_of line ≡ codes "NAME" ∷ (c ∷ name) ∷ [] = words-field (codes "NAME") 14 (c ∷ name) token.marks in
    let none_long : list_any is_long (words_of line) ≡ false = ap (list_any is_long) words ∙ not_long_given (c ∷ name) token.few in
    let front : list_all is_printable (take 255 line) ≡ true = ap (list_all is_printable) (take_all 255 line short) ∙ prints in
    let card : free_card_in line ≡ Ok (Some (record { is_section = true; tokens = codes "NAME" ∷ (c ∷ name) ∷ [] })) =
    rw (front, le-ltb 255 (length line) short, none_long, words) refl in
    (prints, ap (λ t. judged_by judge_free_card no_cards (free_card_in t)) (no_return_dropped line prints) ∙ ap (judged_by judge_free_card no_cards) card)

title_taken : (form : Form) (name : List ℕ) → IsTitle form name → Takes form no_cards (title name) (titled name)
title_taken form name h text is =
    let same : with_field form (codes "NAME") 14 name ≡ text = cc in
    subst (λ t. (list_all is_printable t ≡ true) × (judge_text form no_cards (bytes_counted form t) ≡ Ok (titled name))) same (by form h)
  where
    by : (form : Form) → IsTitle form name
        → (list_all is_printable (with_field form (codes "NAME") 14 name) ≡ true) × (judge_text form no_cards (bytes_counted form (with_field form (codes "NAME") 14 name)) ≡ Ok (titled name))
    by Fixed h = fixed_title name h
    by Free h = free_title name h

-- ── the sense ──

-- the sections that have begun behind the sense
abbrev pub before_rows : Sense → List Section
before_rows Min = Title ∷ []
before_rows Max = ObjectiveSense ∷ Title ∷ []

abbrev pub sensed : List ℕ → Sense → DeckSoFar
sensed name sense = at (before_rows sense) (record (new_deck name []) { sense = sense }) [] None [] []

-- the sense is awaited
abbrev awaiting : List ℕ → DeckSoFar
awaiting name = record (titled name) { begun = ObjectiveSense ∷ Title ∷ []; awaits_sense = true }

-- the title and the sense
pub head_runs : (form : Form) (name : List ℕ) (sense : Sense) → IsTitle form name → Runs form no_cards (title name ∷ sense_lines sense) (sensed name sense)
head_runs form name Min h = (titled name, title_taken form name h, refl, refl)
head_runs form name Max h = (
  titled name,
  title_taken form name h,
  refl,
  (
    awaiting name,
    word_taken form (codes "OBJSENSE") (titled name) (awaiting name) refl (first form),
    refl,
    (sensed name Max, word_taken form (codes "    MAX") (awaiting name) (sensed name Max) refl (second form), refl, refl),
  ),
)
  where
    first : (form : Form) → judge_text form (titled name) (bytes_counted form (codes "OBJSENSE")) ≡ Ok (awaiting name)
    first Fixed = refl
    first Free = refl

    second : (form : Form) → judge_text form (awaiting name) (bytes_counted form (codes "    MAX")) ≡ Ok (sensed name Max)
    second Fixed = refl
    second Free = refl
