-- What proofs alone need: what follows the first blank of a text, where there is one.
use Rattle.std.specs.Prelude.{◌≡◌, ℕ, List, [], ◌∷◌, ◌++◌, Option, Some, None}
use Rattle.std.specs.Borrow.{Bor}
use Rattle.report_lines.specs.Judged.{after_part, part}

-- the text is its first part, or this part, a blank and the rest
abbrev pub Splits : List ℕ → Option (Bor (List ℕ)) → Type 0
Splits text None = (text ≡ part text) × (after_part text ≡ [])
Splits text (Some rest) = (text ≡ part text ++ 32 ∷ rest.now) × (after_part text ≡ rest.now)
