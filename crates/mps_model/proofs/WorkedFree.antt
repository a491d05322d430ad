-- Worked texts in free form, and worked senses in both forms, each with its deck or its first fault.
use Rattle.std.proofs.Common.{List, ℕ, [], ◌∷◌, ◌++◌, Some, pos, take, replicate, refl}
use Rattle.std.specs.Prelude.{codes}
use Rattle.rational.specs.Rational.{eq_ℚ, le_ℚ, lt_ℚ, neg_ℚ, ratio, whole, zero_ℚ, ◌*ℚ◌}
use Rattle.rational.specs.Width.{fits_width}
use Rattle.lp_model.specs.Deck.{Deck, no_column, no_row}
use Rattle.lp_model.specs.Edit.{new_deck}
use Rattle.lp_model.specs.declared.Sense.TheVariants.{Max}
use Rattle.lp_text.specs.Lines.{text_of}
use Rattle.lp_text.specs.declared.Form.TheVariants.{Fixed, Free}
use Rattle.lp_text.specs.declared.LineFault.TheVariants as fault
use Rattle.mps_model.specs.DeckOf.{HasFault, IsDeckOf, in_line}

-- ── a deck in free form ──

-- its lines behind the title and the sense
abbrev body : List (List ℕ)
body =
    codes "ROWS"
    ∷ codes " N COST"
    ∷ codes " L R1"
    ∷ codes " L R2"
    ∷ codes "COLUMNS"
    ∷ codes " X COST 3 R1 1"
    ∷ codes " X R2 1"
    ∷ codes " Y COST 2 R1 1"
    ∷ codes " Y R2 3"
    ∷ codes "RHS"
    ∷ codes " R1 4 R2 6"
    ∷ codes "ENDATA"
    ∷ []

abbrev free_text : List (List ℕ) → List ℕ
free_text first = text_of (first ++ body)

free_deck : Deck
free_deck = record (new_deck (codes "T") (codes "COST")) {
  sense = Max;
  rows = record no_row { name = codes "R1"; right = whole (pos 4) } ∷ record no_row { name = codes "R2"; right = whole (pos 6) } ∷ [];
  columns = record no_column { name = codes "X"; cost = whole (pos 3); entries = (0, whole (pos 1)) ∷ (1, whole (pos 1)) ∷ [] }
      ∷ record no_column { name = codes "Y"; cost = whole (pos 2); entries = (0, whole (pos 1)) ∷ (1, whole (pos 3)) ∷ [] } ∷ [];
}

free-read : IsDeckOf Free (free_text (codes "NAME T" ∷ codes "OBJSENSE MAX" ∷ [])) free_deck 14
unfolding whole zero_ℚ ratio ◌*ℚ◌ eq_ℚ lt_ℚ le_ℚ neg_ℚ fits_width free_deck
free-read = refl

-- the sense on the next card
sense-next : IsDeckOf Free (free_text (codes "NAME T" ∷ codes "OBJSENSE" ∷ codes "    max" ∷ [])) free_deck 15
unfolding whole zero_ℚ ratio ◌*ℚ◌ eq_ℚ lt_ℚ le_ℚ neg_ℚ fits_width free_deck
sense-next = refl

-- a section where the sense is awaited
sense-missing : HasFault Free (free_text (codes "NAME T" ∷ codes "OBJSENSE" ∷ [])) (in_line 3 fault.Sense)
unfolding whole zero_ℚ ratio ◌*ℚ◌ eq_ℚ lt_ℚ le_ℚ neg_ℚ fits_width
sense-missing = refl

-- ── tokens ──

-- the deck's lines through its rows, and one card of the columns
abbrev through_column : List ℕ → List ℕ
through_column card = text_of (take 5 body ++ card ∷ [])

-- a row without a number
token-missing : HasFault Free (through_column (codes " Y R2")) (in_line 6 fault.Token)
unfolding whole zero_ℚ ratio ◌*ℚ◌ eq_ℚ lt_ℚ le_ℚ neg_ℚ fits_width
token-missing = refl

token-long : HasFault Free (through_column (32 ∷ replicate 65 89 ++ codes " R2 1")) (in_line 6 fault.Token)
unfolding whole zero_ℚ ratio ◌*ℚ◌ eq_ℚ lt_ℚ le_ℚ neg_ℚ fits_width
token-long = refl

-- a marker comes before the number of tokens, and is none as a later token
marker : HasFault Free (through_column (codes " M 'MARKER'")) (in_line 6 fault.Integer)
unfolding whole zero_ℚ ratio ◌*ℚ◌ eq_ℚ lt_ℚ le_ℚ neg_ℚ fits_width
marker = refl

marker-later : HasFault Free (through_column (codes " M R1 'MARKER'")) (in_line 6 fault.Number)
unfolding whole zero_ℚ ratio ◌*ℚ◌ eq_ℚ lt_ℚ le_ℚ neg_ℚ fits_width
marker-later = refl

-- the type of a row comes after the number of tokens
row-tokens : HasFault Free (text_of (codes "ROWS" ∷ codes " X A B" ∷ [])) (in_line 2 fault.Token)
unfolding whole zero_ℚ ratio ◌*ℚ◌ eq_ℚ lt_ℚ le_ℚ neg_ℚ fits_width
row-tokens = refl

-- ── sets and bounds ──

abbrev with_cards : List (List ℕ) → List ℕ
with_cards cards = text_of (codes "ROWS" ∷ codes " N COST" ∷ codes " L R" ∷ codes "COLUMNS" ∷ codes " X COST 1" ∷ cards ++ codes "ENDATA" ∷ [])

bounded_deck : Deck
bounded_deck = record (new_deck [] (codes "COST")) {
  rows = record no_row { name = codes "R"; right = whole (pos 2) } ∷ [];
  columns = record no_column { name = codes "X"; cost = whole (pos 1); bounds = record { lower = Some (whole (pos 3)); upper = Some (whole (pos 5)) } } ∷ [];
}

-- a set that is not given is the empty name, so a named one is another
sets : IsDeckOf Free (with_cards (codes "RHS" ∷ codes " R 2" ∷ codes " S R 9" ∷ codes "BOUNDS" ∷ codes " UP X 5" ∷ codes " LO X 3" ∷ codes " FR B X" ∷ codes " MI B X any" ∷ [])) bounded_deck 14
unfolding whole zero_ℚ ratio ◌*ℚ◌ eq_ℚ lt_ℚ le_ℚ neg_ℚ fits_width bounded_deck
sets = refl

-- the kind comes before the number of tokens, also on a card of another set
bound-kind : HasFault Free (with_cards (codes "BOUNDS" ∷ codes " UP X 5" ∷ codes " BV" ∷ [])) (in_line 8 fault.Integer)
unfolding whole zero_ℚ ratio ◌*ℚ◌ eq_ℚ lt_ℚ le_ℚ neg_ℚ fits_width
bound-kind = refl

bound-tokens : HasFault Free (with_cards (codes "BOUNDS" ∷ codes " UP X" ∷ [])) (in_line 7 fault.Token)
unfolding whole zero_ℚ ratio ◌*ℚ◌ eq_ℚ lt_ℚ le_ℚ neg_ℚ fits_width
bound-tokens = refl

-- ── senses in fixed columns ──

abbrev plain : List (List ℕ)
plain = codes "ROWS" ∷ codes " N  COST" ∷ codes " L  R1" ∷ codes "COLUMNS" ∷ codes "    X         COST      2" ∷ codes "ENDATA" ∷ []

plain_deck : Deck
plain_deck = record (new_deck [] (codes "COST")) {
  sense = Max;
  rows = record no_row { name = codes "R1" } ∷ [];
  columns = record no_column { name = codes "X"; cost = whole (pos 2) } ∷ [];
}

on-card : IsDeckOf Fixed (text_of (codes "OBJSENSE  Maximize" ∷ plain)) plain_deck 7
unfolding whole zero_ℚ ratio ◌*ℚ◌ eq_ℚ lt_ℚ le_ℚ neg_ℚ fits_width plain_deck
on-card = refl

-- columns between fields may be filled on the next card
on-next-card : IsDeckOf Fixed (text_of (codes "OBJSENSE" ∷ codes "* a comment" ∷ codes "   MAX and more" ∷ plain)) plain_deck 9
unfolding whole zero_ℚ ratio ◌*ℚ◌ eq_ℚ lt_ℚ le_ℚ neg_ℚ fits_width plain_deck
on-next-card = refl

-- but not on the card after that, where the sense was given
after-sense : HasFault Fixed (text_of (codes "OBJSENSE" ∷ codes "    MAX" ∷ codes "    MAX" ∷ [])) (in_line 3 fault.Sense)
after-sense = refl

after-sense-columns : HasFault Fixed (text_of (codes "OBJSENSE" ∷ codes "    MAX" ∷ codes "   MAX" ∷ [])) (in_line 3 (fault.Columns 4))
after-sense-columns = refl

-- a word that is no sense comes before a section out of place
late-wrong : HasFault Fixed (text_of (codes "ROWS" ∷ codes "OBJSENSE MORE" ∷ [])) (in_line 2 fault.Sense)
late-wrong = refl

late : HasFault Fixed (text_of (codes "ROWS" ∷ codes "OBJSENSE MAX" ∷ [])) (in_line 2 fault.Section)
late = refl

twice : HasFault Fixed (text_of (codes "OBJSENSE MAX" ∷ codes "OBJSENSE MIN" ∷ [])) (in_line 2 fault.Section)
twice = refl

before-title : HasFault Fixed (text_of (codes "OBJSENSE MAX" ∷ codes "NAME          T" ∷ [])) (in_line 2 fault.Section)
before-title = refl
