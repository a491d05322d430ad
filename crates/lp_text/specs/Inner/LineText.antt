-- A line as it stands in its text.
use Rattle.std.specs.Prelude.{ℕ, ◌≢◌, List, [], ◌∷◌, ◌++◌, if◌then◌else◌}
use Rattle.std.specs.List.{All}
use Rattle.lp_text.specs.Lines.{Line}

-- the line's bytes, and the line feed that ends it
abbrev pub line_text : Line → List ℕ
line_text line = line.bytes ++ (if line.is_ended then 10 ∷ [] else [])

-- no line feed stands in the text
abbrev pub IsFreeOfFeeds : List ℕ → Type 0
IsFreeOfFeeds text = All (λ c. c ≢ 10) text
