-- The fields of a card, by its kind.
use Rattle.std.specs.Prelude.{ℕ, List}
use Rattle.lp_text.specs.Cards.{data_fields, section_fields}
use Rattle.mps_cards.specs.declared.cards.CardKind.{CardKind}
use Rattle.mps_cards.specs.declared.cards.CardKind.TheVariants.{Data, Section}

abbrev pub field_list : CardKind → List ℕ → List (List ℕ)
field_list Section text = section_fields text
field_list Data text = data_fields text
