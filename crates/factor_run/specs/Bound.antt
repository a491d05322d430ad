-- How much a solve over factors works at most, in products and quotients.
use Rattle.std.specs.Prelude.{ℕ, ◌+◌, ◌*◌, ◌/◌}
use Rattle.lp_run.specs.Instance.{Instance, row_count}
use Rattle.bland_ratio.specs.Entries.{entry_count}

-- in a round of the run, but for a factorisation
abbrev pub round_work : Instance → ℕ
round_work inst = 4 * (row_count inst * row_count inst) + 256 * row_count inst + entry_count inst

-- in a factorisation
abbrev pub making_work : Instance → ℕ
making_work inst = row_count inst * row_count inst * row_count inst

-- in a solve whose run has so many moves, where factors are made anew after at most 64 updates
abbrev pub solve_work : Instance → ℕ → ℕ
solve_work inst moves = (moves + 4) * round_work inst + (moves / 64 + 1) * making_work inst
