-- Logs: the entries of a run in order. Flips and swaps are moves.
use Rattle.std.specs.Prelude.{ℕ, List, Bool, true, false, count_by}
use Rattle.lp_model.specs.declared.Entry.{Entry}
use Rattle.lp_model.specs.declared.Entry.TheVariants.{Flip, Swap, Turn}

abbrev pub is_move : Entry → Bool
is_move (Flip q) = true
is_move (Swap q p end) = true
is_move Turn = false

-- how many flips and swaps a log has
abbrev pub moves : List Entry → ℕ
moves log = count_by is_move log
