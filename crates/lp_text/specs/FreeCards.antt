-- The cards of a deck in free form: a line's tokens, which stand between blanks.
use Rattle.std.specs.Prelude.{ℕ, List, length, take, Option, Some, None, Result, Ok, Err, Bool, ◌||◌, ◌==◌, nat_lt, not, if◌then◌else◌}
use Rattle.std.specs.List.{list_all, list_any}
use Rattle.lp_text.specs.Cards.{byte_in, is_blank, is_printable, without_return, words_of}
use Rattle.lp_text.specs.Limits.{free_line_limit, token_limit}
use Rattle.lp_text.specs.declared.LineFault.{LineFault}
use Rattle.lp_text.specs.declared.LineFault.TheVariants as fault

-- a card of a section, which begins in column 1, or of data, and its tokens
pub record FreeCard : Type 0 where
  pub is_section : Bool
  pub tokens : List (List ℕ)

-- a line or one of its tokens has more bytes than it may have
abbrev pub is_too_long : List ℕ → Bool
is_too_long text = nat_lt free_line_limit (length text) || list_any (λ token. nat_lt token_limit (length token)) (words_of text)

-- the card in a text, its first fault, or none where it is a comment or blank
abbrev pub free_card_in : List ℕ → Result (Option FreeCard) LineFault
free_card_in text =
    if byte_in text 1 == 42 then Ok None
    else if not (list_all is_printable (take free_line_limit text)) then Err fault.NotAscii
    else if is_too_long text then Err fault.Token
    else if list_all is_blank text then Ok None
    else Ok (Some (record { is_section = not (is_blank (byte_in text 1)); tokens = words_of text }))

-- the card of a line, which is without its line feed
abbrev pub free_card : List ℕ → Result (Option FreeCard) LineFault
free_card line = free_card_in (without_return line)
