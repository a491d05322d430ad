-- The lines that refuse, each ended by a line feed.
use Rattle.std.specs.Prelude.{ℕ, List, [], ◌∷◌, ◌++◌, codes}
use Rattle.std.specs.Fmt.{decimal}

abbrev pub ended : List ℕ → List ℕ
ended line = line ++ 10 ∷ []

abbrev pub usage_line : List ℕ
usage_line =
    ended (codes "lp: usage: lp solve [--free] [--workers W] [--reinverters R] [--budget N] [--log] [--report V] or check [--free]"
    ++ codes " or deck [--free] or make N or range [--free] or audit [--free]")

abbrev pub read_line : List ℕ
read_line = ended (codes "lp: read failed")

abbrev pub write_line : List ℕ
write_line = ended (codes "lp: write failed")

abbrev pub memory_line : List ℕ
memory_line = ended (codes "lp: out of memory")

-- the name is that of the number's row or column, or of the objective where it is the constant
abbrev pub wide_line : List ℕ → List ℕ
wide_line name = ended (codes "lp: number without card spelling at " ++ name)

abbrev pub budget_line : ℕ → List ℕ
budget_line n = ended (codes "lp: budget spent after " ++ decimal n ++ codes " moves")
