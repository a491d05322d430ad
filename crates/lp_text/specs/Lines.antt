-- The lines of a text.
use Rattle.std.specs.Prelude.{ℕ, ◌+◌, List, [], ◌∷◌, ◌++◌, Bool, true, false, filter, length, ◌==◌, if◌then◌else◌}
use Rattle.std.specs.List.{flat_map}

-- a line: its bytes without the line feed, and whether a line feed ends it; only the last line of a text may lack one
pub record Line : Type 0 where
  pub bytes : List ℕ
  pub is_ended : Bool

-- a byte before the first line's others
abbrev pub onto_first : ℕ → List Line → List Line
onto_first c [] = record { bytes = c ∷ []; is_ended = false } ∷ []
onto_first c (line ∷ lines) = record line { bytes = c ∷ line.bytes } ∷ lines

-- the lines of a text; a last piece without a line feed is a line where it is not empty
abbrev pub lines_of : List ℕ → List Line
lines_of [] = []
lines_of (c ∷ text) = if c == 10 then record { bytes = []; is_ended = true } ∷ lines_of text else onto_first c (lines_of text)

-- how many bytes a line has, its line feed among them
abbrev pub size_of : Line → ℕ
size_of line = length line.bytes + (if line.is_ended then 1 else 0)

-- the lines that stand whole in a text, whatever follows it
abbrev pub whole_lines : List ℕ → List Line
whole_lines text = filter (λ line. line.is_ended) (lines_of text)

-- lines as a text, each ended by a line feed
abbrev pub text_of : List (List ℕ) → List ℕ
text_of lines = flat_map (λ line. line ++ 10 ∷ []) lines
