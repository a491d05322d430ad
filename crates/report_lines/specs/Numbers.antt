-- Plain numbers: decimal digits without a zero before them.
use Rattle.std.specs.Prelude.{ℕ, List, length, slice_index, Bool, not, ◌&&◌, ◌||◌, ◌==◌, nat_lt}
use Rattle.std.specs.List.{list_all}
use Rattle.lp_text.specs.Digits.{is_digit}

abbrev pub is_plain : List ℕ → Bool
is_plain text = nat_lt 0 (length text) && (length text == 1 || not (slice_index text 0 == 48)) && list_all is_digit text
