-- Worked decks, each with what it is or with its first fault.
use Rattle.std.proofs.Common.{ℕ, List, [], ◌∷◌, ◌++◌, Option, None, Some, pos, negsuc, ◌^◌, ◌*◌, set, take, drop, refl}
use Rattle.std.specs.Prelude.{codes}
use Rattle.rational.specs.Rational.{ℚ, eq_ℚ, le_ℚ, lt_ℚ, neg_ℚ, ratio, whole, zero_ℚ, ◌*ℚ◌}
use Rattle.rational.specs.Width.{fits_width}
use Rattle.lp_model.specs.Deck.{Deck, nonnegative}
use Rattle.lp_model.specs.Edit.{new_deck}
use Rattle.lp_model.specs.declared.RowKind.TheVariants.{L, G, E}
use Rattle.lp_text.specs.Lines.{text_of}
use Rattle.lp_text.specs.declared.Form.TheVariants.{Fixed}
use Rattle.lp_text.specs.declared.LineFault.TheVariants as fault
use Rattle.mps_model.specs.DeckOf.{HasFault, IsDeckOf, crossed_bounds, in_line, no_end, no_objective}

-- ── a deck with all sections but ranges ──

-- its lines
abbrev testprob : List (List ℕ)
testprob =
    codes "NAME          TESTPROB"
    ∷ codes "ROWS"
    ∷ codes " N  COST"
    ∷ codes " L  LIM1"
    ∷ codes " G  LIM2"
    ∷ codes " E  MYEQN"
    ∷ codes "COLUMNS"
    ∷ codes "    XONE      COST      1              LIM1      1"
    ∷ codes "    XONE      LIM2      1"
    ∷ codes "    YTWO      COST      4              LIM1      1"
    ∷ codes "    YTWO      MYEQN     -1"
    ∷ codes "    ZTHREE    COST      9              LIM2      1"
    ∷ codes "    ZTHREE    MYEQN     1"
    ∷ codes "RHS"
    ∷ codes "    RHS       LIM1      4              LIM2      1"
    ∷ codes "    RHS       MYEQN     7"
    ∷ codes "BOUNDS"
    ∷ codes " UP BND       XONE      4"
    ∷ codes " LO BND       YTWO      -1"
    ∷ codes " UP BND       YTWO      1"
    ∷ codes "ENDATA"
    ∷ []

testprob_deck : Deck
testprob_deck = record (new_deck (codes "TESTPROB") (codes "COST")) {
  rows = record { name = codes "LIM1"; kind = L; right = whole (pos 4); range = None }
      ∷ record { name = codes "LIM2"; kind = G; right = whole (pos 1); range = None }
      ∷ record { name = codes "MYEQN"; kind = E; right = whole (pos 7); range = None } ∷ [];
  columns = record { name = codes "XONE"; cost = whole (pos 1); entries = (0, whole (pos 1)) ∷ (1, whole (pos 1)) ∷ []; bounds = record { lower = Some zero_ℚ; upper = Some (whole (pos 4)) } }
      ∷ record {
        name = codes "YTWO";
        cost = whole (pos 4);
        entries = (0, whole (pos 1)) ∷ (2, whole (negsuc 0)) ∷ [];
        bounds =
            record { lower = Some (whole (negsuc 0)); upper = Some (whole (pos 1)) };
      }
      ∷ record { name = codes "ZTHREE"; cost = whole (pos 9); entries = (1, whole (pos 1)) ∷ (2, whole (pos 1)) ∷ []; bounds = nonnegative } ∷ [];
}

testprob-read : IsDeckOf Fixed (text_of testprob) testprob_deck 21
unfolding whole zero_ℚ ratio ◌*ℚ◌ eq_ℚ lt_ℚ le_ℚ neg_ℚ fits_width testprob_deck
testprob-read = refl

-- without its last line
testprob-cut : HasFault Fixed (text_of (take 20 testprob)) (no_end 20)
unfolding whole zero_ℚ ratio ◌*ℚ◌ eq_ℚ lt_ℚ le_ℚ neg_ℚ fits_width
testprob-cut = refl

-- an unknown row on line 9, before a number that is none on line 15
unknown_row-first : HasFault Fixed (text_of (set (set testprob 8 (codes "    XONE      LIM9      1")) 14 (codes "    RHS       LIM1      4X             LIM2      1"))) (in_line 9 fault.UnknownRow)
unfolding whole zero_ℚ ratio ◌*ℚ◌ eq_ℚ lt_ℚ le_ℚ neg_ℚ fits_width
unknown_row-first = refl

-- a tab within the columns that count
tab-refused : HasFault Fixed (text_of (set testprob 7 (codes "    XONE    " ++ 9 ∷ codes " COST      1              LIM1      1"))) (in_line 8 fault.NotAscii)
unfolding whole zero_ℚ ratio ◌*ℚ◌ eq_ℚ lt_ℚ le_ℚ neg_ℚ fits_width
tab-refused = refl

-- a row of type Q
type-refused : HasFault Fixed (text_of (set testprob 4 (codes " Q  LIM2"))) (in_line 5 fault.RowType)
unfolding whole zero_ℚ ratio ◌*ℚ◌ eq_ℚ lt_ℚ le_ℚ neg_ℚ fits_width
type-refused = refl

-- a bound of kind BV
binary-refused : HasFault Fixed (text_of (set testprob 17 (codes " BV BND       XONE      4"))) (in_line 18 fault.Integer)
unfolding whole zero_ℚ ratio ◌*ℚ◌ eq_ℚ lt_ℚ le_ℚ neg_ℚ fits_width
binary-refused = refl

-- a lower end above the upper end
crossed-refused : HasFault Fixed (text_of (set testprob 18 (codes " LO BND       YTWO      2"))) (crossed_bounds (codes "YTWO"))
unfolding whole zero_ℚ ratio ◌*ℚ◌ eq_ℚ lt_ℚ le_ℚ neg_ℚ fits_width
crossed-refused = refl

-- a card of XONE after those of YTWO
scattered-refused : HasFault Fixed (text_of (take 11 testprob ++ (codes "    XONE      MYEQN     1") ∷ drop 11 testprob)) (in_line 12 fault.Scattered)
unfolding whole zero_ℚ ratio ◌*ℚ◌ eq_ℚ lt_ℚ le_ℚ neg_ℚ fits_width
scattered-refused = refl

-- the deck without its objective
abbrev without_objective : List (List ℕ)
without_objective =
    codes "NAME          TESTPROB"
    ∷ codes "ROWS"
    ∷ codes " L  LIM1"
    ∷ codes " G  LIM2"
    ∷ codes " E  MYEQN"
    ∷ codes "COLUMNS"
    ∷ codes "    XONE      LIM1      1"
    ∷ codes "    XONE      LIM2      1"
    ∷ codes "    YTWO      LIM1      1"
    ∷ codes "    YTWO      MYEQN     -1"
    ∷ codes "    ZTHREE    LIM2      1"
    ∷ codes "    ZTHREE    MYEQN     1"
    ∷ codes "RHS"
    ∷ codes "    RHS       LIM1      4              LIM2      1"
    ∷ codes "    RHS       MYEQN     7"
    ∷ codes "BOUNDS"
    ∷ codes " UP BND       XONE      4"
    ∷ codes " LO BND       YTWO      -1"
    ∷ codes " UP BND       YTWO      1"
    ∷ codes "ENDATA"
    ∷ []

no_objective-refused : HasFault Fixed (text_of without_objective) no_objective
unfolding whole zero_ℚ ratio ◌*ℚ◌ eq_ℚ lt_ℚ le_ℚ neg_ℚ fits_width
no_objective-refused = refl

-- ── a small deck ──

-- the lines of a deck with a number in its right side
abbrev with_right_side : List ℕ → List (List ℕ)
with_right_side text =
    codes "NAME          T"
    ∷ codes "ROWS"
    ∷ codes " N  COST"
    ∷ codes " L  R1"
    ∷ codes "COLUMNS"
    ∷ codes "    X         COST      -1"
    ∷ codes "    X         R1        1"
    ∷ codes "RHS"
    ∷ (codes "    S         R1        " ++ text)
    ∷ codes "ENDATA" ∷ []

abbrev deck_of_right_side : ℚ → Deck
deck_of_right_side v = record (new_deck (codes "T") (codes "COST")) {
  rows = record { name = codes "R1"; kind = L; right = v; range = None } ∷ [];
  columns = record { name = codes "X"; cost = whole (negsuc 0); entries = (0, whole (pos 1)) ∷ []; bounds = nonnegative } ∷ [];
}

right_side-read0 : IsDeckOf Fixed (text_of (with_right_side (codes "1.5E+1"))) (deck_of_right_side (whole (pos 15))) 10
unfolding whole zero_ℚ ratio ◌*ℚ◌ eq_ℚ lt_ℚ le_ℚ neg_ℚ fits_width
right_side-read0 = refl

right_side-read1 : IsDeckOf Fixed (text_of (with_right_side (codes "-.5"))) (deck_of_right_side (ratio (negsuc 0) 2)) 10
unfolding whole zero_ℚ ratio ◌*ℚ◌ eq_ℚ lt_ℚ le_ℚ neg_ℚ fits_width
right_side-read1 = refl

right_side-read2 : IsDeckOf Fixed (text_of (with_right_side (codes "1D2"))) (deck_of_right_side (whole (pos 100))) 10
unfolding whole zero_ℚ ratio ◌*ℚ◌ eq_ℚ lt_ℚ le_ℚ neg_ℚ fits_width
right_side-read2 = refl

right_side-read3 : IsDeckOf Fixed (text_of (with_right_side (codes "99999999E30"))) (deck_of_right_side (whole (pos (99999999 * 10 ^ 30)))) 10
unfolding whole zero_ℚ ratio ◌*ℚ◌ eq_ℚ lt_ℚ le_ℚ neg_ℚ fits_width
right_side-read3 = refl

right_side-refused0 : HasFault Fixed (text_of (with_right_side (codes "1X"))) (in_line 9 fault.Number)
unfolding whole zero_ℚ ratio ◌*ℚ◌ eq_ℚ lt_ℚ le_ℚ neg_ℚ fits_width
right_side-refused0 = refl

right_side-refused1 : HasFault Fixed (text_of (with_right_side ([]))) (in_line 9 fault.Number)
unfolding whole zero_ℚ ratio ◌*ℚ◌ eq_ℚ lt_ℚ le_ℚ neg_ℚ fits_width
right_side-refused1 = refl

right_side-refused2 : HasFault Fixed (text_of (with_right_side (codes "1E31"))) (in_line 9 fault.Number)
unfolding whole zero_ℚ ratio ◌*ℚ◌ eq_ℚ lt_ℚ le_ℚ neg_ℚ fits_width
right_side-refused2 = refl

right_side-refused3 : HasFault Fixed (text_of (with_right_side (codes "999999999E30"))) (in_line 9 fault.Number)
unfolding whole zero_ℚ ratio ◌*ℚ◌ eq_ℚ lt_ℚ le_ℚ neg_ℚ fits_width
right_side-refused3 = refl

-- the lines of a deck with cards of bounds
abbrev with_bounds : List (List ℕ) → List (List ℕ)
with_bounds cards =
    codes "NAME          T"
    ∷ codes "ROWS"
    ∷ codes " N  COST"
    ∷ codes " L  R1"
    ∷ codes "COLUMNS"
    ∷ codes "    X         COST      -1"
    ∷ codes "    X         R1        1"
    ∷ codes "RHS"
    ∷ codes "    S         R1        10"
    ∷ codes "BOUNDS"
    ∷ cards ++ codes "ENDATA" ∷ []

abbrev deck_of_bounds : Option ℚ → Option ℚ → Deck
deck_of_bounds l u = record (new_deck (codes "T") (codes "COST")) {
  rows = record { name = codes "R1"; kind = L; right = whole (pos 10); range = None } ∷ [];
  columns = record { name = codes "X"; cost = whole (negsuc 0); entries = (0, whole (pos 1)) ∷ []; bounds = record { lower = l; upper = u } } ∷ [];
}

-- an upper end of 10^30 is none
infinite_upper : IsDeckOf Fixed (text_of (with_bounds (codes " UP S         X         1E30" ∷ []))) (deck_of_bounds (Some zero_ℚ) (None)) 12
unfolding whole zero_ℚ ratio ◌*ℚ◌ eq_ℚ lt_ℚ le_ℚ neg_ℚ fits_width
infinite_upper = refl

-- a lower end of 10^30
infinite_lower : HasFault Fixed (text_of (with_bounds (codes " LO S         X         1E30" ∷ []))) (in_line 11 fault.Bound)
unfolding whole zero_ℚ ratio ◌*ℚ◌ eq_ℚ lt_ℚ le_ℚ neg_ℚ fits_width
infinite_lower = refl

-- an upper end below 0 takes away the lower end
negative_upper : IsDeckOf Fixed (text_of (with_bounds (codes " UP S         X         -2" ∷ []))) (deck_of_bounds (None) (Some (whole (negsuc 1)))) 12
unfolding whole zero_ℚ ratio ◌*ℚ◌ eq_ℚ lt_ℚ le_ℚ neg_ℚ fits_width
negative_upper = refl

-- unless a bound has set it
negative_upper-after : IsDeckOf Fixed (text_of (with_bounds (codes " LO S         X         -5" ∷ codes " UP S         X         -2" ∷ [])))
    (deck_of_bounds (Some (whole (negsuc 4))) (Some (whole (negsuc 1)))) 13
unfolding whole zero_ℚ ratio ◌*ℚ◌ eq_ℚ lt_ℚ le_ℚ neg_ℚ fits_width
negative_upper-after = refl

-- each bound replaces what stood, and a kind without a number leaves its field unread
replaced : IsDeckOf Fixed (text_of (with_bounds (codes " FX S         X         3" ∷ codes " PL S         X" ∷ codes " MI S         X         no number" ∷ []))) (deck_of_bounds (None) (None)) 14
unfolding whole zero_ℚ ratio ◌*ℚ◌ eq_ℚ lt_ℚ le_ℚ neg_ℚ fits_width
replaced = refl

-- a card of another set is passed over
other_set : IsDeckOf Fixed (text_of (with_bounds (codes " UP S         X         4" ∷ codes " BV T         Y         1X" ∷ []))) (deck_of_bounds (Some zero_ℚ) (Some (whole (pos 4)))) 13
unfolding whole zero_ℚ ratio ◌*ℚ◌ eq_ℚ lt_ℚ le_ℚ neg_ℚ fits_width
other_set = refl

-- the kind is judged before the column
unknown_kind : HasFault Fixed (text_of (with_bounds (codes " QQ S         Y         1X" ∷ []))) (in_line 11 fault.Bound)
unfolding whole zero_ℚ ratio ◌*ℚ◌ eq_ℚ lt_ℚ le_ℚ neg_ℚ fits_width
unknown_kind = refl

-- the column is judged before the number
unknown_bounded : HasFault Fixed (text_of (with_bounds (codes " UP S         Y         1X" ∷ []))) (in_line 11 fault.UnknownColumn)
unfolding whole zero_ℚ ratio ◌*ℚ◌ eq_ℚ lt_ℚ le_ℚ neg_ℚ fits_width
unknown_bounded = refl

bound_number-refused : HasFault Fixed (text_of (with_bounds (codes " UP S         X         1X" ∷ []))) (in_line 11 fault.Number)
unfolding whole zero_ℚ ratio ◌*ℚ◌ eq_ℚ lt_ℚ le_ℚ neg_ℚ fits_width
bound_number-refused = refl
