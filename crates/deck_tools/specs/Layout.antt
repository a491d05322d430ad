-- The layout of a deck: the one text in which a deck is written, in fixed or in free form.
use Rattle.std.specs.Prelude.{ℕ, ◌-◌, List, [], ◌∷◌, ◌++◌, map, length, replicate, Option, Some, None, option_map}
use Rattle.std.specs.Prelude.{Result, Ok, Err, codes, ◌&&◌, nat_lt, if◌then◌else◌}
use Rattle.std.specs.List.{flat_map}
use Rattle.rational.specs.Rational.{ℚ, eq_ℚ, neg_ℚ, zero_ℚ}
use Rattle.lp_model.specs.declared.RowKind.{RowKind}
use Rattle.lp_model.specs.declared.RowKind.TheVariants.{L, G, E}
use Rattle.lp_model.specs.declared.Sense.{Sense}
use Rattle.lp_model.specs.declared.Sense.TheVariants.{Min, Max}
use Rattle.lp_model.specs.Deck.{Column, Deck, Row, row}
use Rattle.frac_text.specs.Card.{card_text}
use Rattle.lp_text.specs.declared.Form.{Form}
use Rattle.lp_text.specs.declared.Form.TheVariants.{Fixed, Free}

-- a card of data: a kind, two names, a number where it has one, and the name that the number belongs to
pub record Card : Type 0 where
  pub kind : List ℕ
  pub first : List ℕ
  pub second : List ℕ
  pub number : Option ℚ
  pub owner : List ℕ

-- a line: the deck's title, a word that begins a section, or a card
pub data Line : Type 0 where
  title : List ℕ → Line
  word : List ℕ → Line
  card : Card → Line

-- ── the text of a line ──

-- what stands before a field: in fixed form blanks up to its place, in free form one blank
abbrev pub gap : Form → List ℕ → ℕ → List ℕ
gap Fixed line place = replicate (place - length line) 32
gap Free line place = 32 ∷ []

-- a line with one more field behind so many columns; an empty field leaves no trace
abbrev pub with_field : Form → List ℕ → ℕ → List ℕ → List ℕ
with_field form line place [] = line
with_field form line place (c ∷ text) = line ++ gap form line place ++ c ∷ text

-- fields begin in the columns 2, 5, 15 and 25
abbrev pub card_line : Form → Card → List ℕ → List ℕ
card_line form c number = with_field form (with_field form (with_field form (with_field form [] 1 c.kind) 4 c.first) 14 c.second) 24 number

-- the spelling of a card's number; nothing stands where it has none
abbrev pub number_text : Option ℚ → Option (List ℕ)
number_text None = Some []
number_text (Some v) = card_text v

abbrev pub line_text : Form → Line → Option (List ℕ)
line_text form (title name) = Some (with_field form (codes "NAME") 14 name)
line_text form (word w) = Some w
line_text form (card c) = option_map (card_line form c) (number_text c.number)

abbrev pub owner_of : Line → List ℕ
owner_of (card c) = c.owner
owner_of other = []

abbrev pub onto_rest : List ℕ → Result (List ℕ) (List ℕ) → Result (List ℕ) (List ℕ)
onto_rest line (Ok text) = Ok (line ++ 10 ∷ text)
onto_rest line (Err name) = Err name

abbrev pub onto : Option (List ℕ) → List ℕ → Result (List ℕ) (List ℕ) → Result (List ℕ) (List ℕ)
onto None name rest = Err name
onto (Some line) name rest = onto_rest line rest

-- the text of lines, or the name that the first number without a spelling belongs to
abbrev pub text_of_lines : Form → List Line → Result (List ℕ) (List ℕ)
text_of_lines form [] = Ok []
text_of_lines form (line ∷ lines) = onto (line_text form line) (owner_of line) (text_of_lines form lines)

-- ── the lines of a deck ──

-- a section stands only where it has lines
abbrev pub section : List ℕ → List Line → List Line
section name [] = []
section name (line ∷ lines) = word name ∷ line ∷ lines

abbrev pub sense_lines : Sense → List Line
sense_lines Min = []
sense_lines Max = word (codes "OBJSENSE") ∷ word (codes "    MAX") ∷ []

abbrev pub kind_word : RowKind → List ℕ
kind_word L = codes "L"
kind_word G = codes "G"
kind_word E = codes "E"

-- a row, the objective's being of the kind N
abbrev pub row_line : List ℕ → List ℕ → Line
row_line kind name = card (record { kind = kind; first = name; second = []; number = None; owner = [] })

-- a column's number in a row
abbrev pub pair_line : List ℕ → List ℕ → ℚ → Line
pair_line column name v = card (record { kind = []; first = column; second = name; number = Some v; owner = column })

-- a row's number in the set S
abbrev pub set_line : List ℕ → ℚ → Line
set_line name v = card (record { kind = []; first = codes "S"; second = name; number = Some v; owner = name })

-- a bound of a column in the set S
abbrev pub bound_line : List ℕ → List ℕ → Option ℚ → Line
bound_line kind name v = card (record { kind = kind; first = codes "S"; second = name; number = v; owner = name })

-- the cost of a column, where it is not 0, or where no entry would name the column
abbrev pub cost_lines : Deck → Column → List Line
cost_lines d c = if eq_ℚ c.cost zero_ℚ && nat_lt 0 (length c.entries) then [] else pair_line c.name d.objective c.cost ∷ []

abbrev pub entry_lines : Deck → Column → List Line
entry_lines d c = map (λ e. pair_line c.name (row d e.0).name e.1) c.entries

abbrev pub column_lines : Deck → Column → List Line
column_lines d c = cost_lines d c ++ entry_lines d c

-- the constant stands as a right side of the objective, with its sign turned
abbrev pub constant_lines : Deck → List Line
constant_lines d = if eq_ℚ d.constant zero_ℚ then [] else set_line d.objective (neg_ℚ d.constant) ∷ []

abbrev pub right_lines : Row → List Line
right_lines r = if eq_ℚ r.right zero_ℚ then [] else set_line r.name r.right ∷ []

abbrev pub range_lines_of : List ℕ → Option ℚ → List Line
range_lines_of name None = []
range_lines_of name (Some v) = set_line name v ∷ []

abbrev pub range_lines : Row → List Line
range_lines r = range_lines_of r.name r.range

abbrev pub lower_lines : List ℕ → Option ℚ → List Line
lower_lines name None = bound_line (codes "MI") name None ∷ []
lower_lines name (Some l) = if eq_ℚ l zero_ℚ then [] else bound_line (codes "LO") name (Some l) ∷ []

abbrev pub upper_lines : List ℕ → Option ℚ → List Line
upper_lines name None = []
upper_lines name (Some u) = bound_line (codes "UP") name (Some u) ∷ []

-- the bounds of a column: free, fixed, or a lower end other than 0 and a finite upper end
abbrev pub ends_lines : List ℕ → Option ℚ → Option ℚ → List Line
ends_lines name None None = bound_line (codes "FR") name None ∷ []
ends_lines name None (Some u) = lower_lines name None ++ upper_lines name (Some u)
ends_lines name (Some l) None = lower_lines name (Some l)
ends_lines name (Some l) (Some u) = if eq_ℚ l u then bound_line (codes "FX") name (Some l) ∷ [] else lower_lines name (Some l) ++ upper_lines name (Some u)

abbrev pub bound_lines : Column → List Line
bound_lines c = ends_lines c.name c.bounds.lower c.bounds.upper

abbrev pub deck_lines : Deck → List Line
deck_lines d =
    title d.name ∷ sense_lines d.sense
    ++ word (codes "ROWS") ∷ row_line (codes "N") d.objective ∷ map (λ r. row_line (kind_word r.kind) r.name) d.rows
    ++ word (codes "COLUMNS") ∷ flat_map (column_lines d) d.columns
    ++ section (codes "RHS") (constant_lines d ++ flat_map right_lines d.rows)
    ++ section (codes "RANGES") (flat_map range_lines d.rows)
    ++ section (codes "BOUNDS") (flat_map bound_lines d.columns)
    ++ word (codes "ENDATA") ∷ []

-- the text of a deck, or the name that the first number without a spelling belongs to
abbrev pub deck_text : Form → Deck → Result (List ℕ) (List ℕ)
deck_text form d = text_of_lines form (deck_lines d)
