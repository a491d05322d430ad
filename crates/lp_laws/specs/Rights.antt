-- Decks that differ in right sides alone.
use Rattle.std.specs.Prelude.{◌≡◌, ℕ, ◌<◌, length}
use Rattle.lp_model.specs.Deck.{Deck, row}

-- two decks with all in common but their rows, which have all in common but their right sides
pub record IsSameButRights (d d' : Deck) : Type 0 where
  pub deck : d' ≡ record d { rows = d'.rows }
  pub count : length d'.rows ≡ length d.rows
  pub rows : (i : ℕ) → i < length d.rows → row d' i ≡ record (row d i) { right = (row d' i).right }
