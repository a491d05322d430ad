-- The words of a deck's sense.
use Rattle.std.specs.Prelude.{ℕ, List, [], ◌∷◌, map, Option, Some, None, Bool, if◌then◌else◌, codes}
use Rattle.std.specs.Char.{to_ascii_lowercase}
use Rattle.std.specs.List.{list_any}
use Rattle.lp_model.specs.declared.Sense.{Sense}
use Rattle.lp_model.specs.declared.Sense.TheVariants.{Max, Min}
use Rattle.lp_model.specs.Edit.{same_bytes}

-- whether a word in any mix of letter case is one of these, which are in small letters
abbrev pub is_one_of : List (List ℕ) → List ℕ → Bool
is_one_of words word = list_any (same_bytes (map to_ascii_lowercase word)) words

-- the sense of a word
abbrev pub sense_of : List ℕ → Option Sense
sense_of word =
    if is_one_of (codes "max" ∷ codes "maximize" ∷ codes "maximise" ∷ []) word then Some Max
    else if is_one_of (codes "min" ∷ codes "minimize" ∷ codes "minimise" ∷ []) word then Some Min
    else None
