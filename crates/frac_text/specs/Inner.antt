-- What proofs alone need: the parts of a text that may be a fraction's.
use Rattle.std.specs.Prelude.{ℕ, List, [], ◌∷◌, Bool, false, not, ◌==◌, if◌then◌else◌}
use Rattle.std.specs.Fmt.{decimal}

-- whether a minus begins the text
abbrev pub is_negative : List ℕ → Bool
is_negative [] = false
is_negative (c ∷ text) = c == 45

-- the text without that minus
abbrev pub unsigned : List ℕ → List ℕ
unsigned [] = []
unsigned (c ∷ text) = if c == 45 then text else c ∷ text

abbrev pub is_no_stroke : ℕ → Bool
is_no_stroke c = not (c == 47)

-- what follows the numerator
abbrev pub denominator_text : ℕ → List ℕ
denominator_text n = if n == 1 then [] else 47 ∷ decimal n
