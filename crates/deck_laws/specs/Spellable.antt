-- Decks whose text reads back: their names are spelled in the form, and they are within what a deck may have.
use Rattle.std.specs.Prelude.{◌≡◌, ◌⊎◌, ℕ, ◌≤◌, List, [], ◌∷◌, length, IfSome, Bool, true, false, ◌&&◌, nat_le}
use Rattle.std.specs.List.{All, IsDistinct, list_all}
use Rattle.rational.specs.Rational.{ℚ}
use Rattle.rational.specs.Sparse.{IsSparse}
use Rattle.rational.specs.Width.{fits_width, full_width}
use Rattle.lp_model.specs.Deck.{Column, Deck, Row}
use Rattle.lp_model.specs.Edit.{entry_count, same_bytes}
use Rattle.lp_text.specs.Cards.{is_printable, trimmed}
use Rattle.lp_text.specs.Limits.{column_limit, entry_limit, row_limit, token_limit}
use Rattle.lp_text.specs.Report.{column_names, row_names}
use Rattle.lp_text.specs.declared.Form.{Form}
use Rattle.lp_text.specs.declared.Form.TheVariants.{Fixed, Free}
use Rattle.mps_model.specs.BoundCards.{is_minus_infinity, is_plus_infinity}
use Rattle.mps_model.specs.CardFields.{is_marker}
use Rattle.mps_model.specs.DeckOf.{is_crossed}

-- ── names ──

-- a text that a field of so many columns holds: its bytes are from 32 to 126, and no blank is around them
pub record IsFitted (columns : ℕ) (text : List ℕ) : Type 0 where
  pub few : length text ≤ columns
  pub printable : list_all is_printable text ≡ true
  pub bare : trimmed text ≡ text

-- a byte that prints and is no blank
abbrev pub is_mark : ℕ → Bool
is_mark c = nat_le 33 c && nat_le c 126

-- a text that is a token: 1 to 64 bytes from 33 to 126
pub record IsToken (text : List ℕ) : Type 0 where
  pub some : 1 ≤ length text
  pub few : length text ≤ token_limit
  pub marks : list_all is_mark text ≡ true

-- a name of a row, of the objective or of a column that the form spells
abbrev pub IsName : Form → List ℕ → Type 0
IsName Fixed name = IsFitted 8 name
IsName Free name = IsToken name

-- a deck's name that the form spells; in free form it may be empty
abbrev pub IsTitle : Form → List ℕ → Type 0
IsTitle Fixed name = IsFitted 8 name
IsTitle Free name = (name ≡ []) ⊎ IsToken name

-- the form spells all names of the deck
pub record IsSpellable (form : Form) (d : Deck) : Type 0 where
  pub title : IsTitle form d.name
  pub objective : IsName form d.objective
  pub rows : All (λ (r : Row). IsName form r.name) d.rows
  pub columns : All (λ (c : Column). IsName form c.name) d.columns

-- no row and no objective has the name that marks integer columns
abbrev pub IsUnmarked : Deck → Type 0
IsUnmarked d = All (λ name. is_marker name ≡ false) (d.objective ∷ row_names d)

-- ── what a deck that was read has ──

-- a number that the arithmetic holds
abbrev pub IsNumber : ℚ → Type 0
IsNumber v = fits_width full_width v ≡ true

-- a finite end of a column: a number of a size below 10^30
pub record IsEnd (v : ℚ) : Type 0 where
  pub fits : IsNumber v
  pub below : is_plus_infinity v ≡ false
  pub above : is_minus_infinity v ≡ false

-- the numbers of a row
pub record IsKeptRow (r : Row) : Type 0 where
  pub right : IsNumber r.right
  pub range : IfSome r.range IsNumber

-- the numbers of a column, with entries in rising rows of so many
pub record IsKeptColumn (rows : ℕ) (c : Column) : Type 0 where
  pub cost : IsNumber c.cost
  pub sparse : IsSparse rows 0 c.entries
  pub entries : All (λ (e : ℕ × ℚ). IsNumber e.1) c.entries
  pub lower : IfSome c.bounds.lower IsEnd
  pub upper : IfSome c.bounds.upper IsEnd
  pub uncrossed : is_crossed c.bounds ≡ false

-- a deck as a reading gives it: each name once, numbers that the arithmetic holds, and no more than a deck may have
pub record IsKept (d : Deck) : Type 0 where
  -- the objective is one of the rows
  pub row_names : IsDistinct same_bytes (d.objective ∷ row_names d)
  pub column_names : IsDistinct same_bytes (column_names d)
  pub rows : All IsKeptRow d.rows
  pub columns : All (IsKeptColumn (length d.rows)) d.columns
  pub constant : IsNumber d.constant
  pub few_rows : length d.rows ≤ row_limit
  pub few_columns : length d.columns ≤ column_limit
  pub few_entries : entry_count d ≤ entry_limit
