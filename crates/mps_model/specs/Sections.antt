-- The sections of a deck and their order.
use Rattle.std.specs.Prelude.{ℕ, List, [], ◌∷◌, Option, Bool, true, false, ◌&&◌, find, not, codes}
use Rattle.std.specs.List.{list_any}
use Rattle.lp_model.specs.Edit.{same_bytes}
use Rattle.mps_model.specs.declared.Section.{Section}
use Rattle.mps_model.specs.declared.Section.TheVariants.{Bounds, Columns, Finish, ObjectiveSense, Ranges, RightSides, Rows, Title}

-- the word of a section's card
abbrev pub word_of : Section → List ℕ
word_of Title = codes "NAME"
word_of ObjectiveSense = codes "OBJSENSE"
word_of Rows = codes "ROWS"
word_of Columns = codes "COLUMNS"
word_of RightSides = codes "RHS"
word_of Ranges = codes "RANGES"
word_of Bounds = codes "BOUNDS"
word_of Finish = codes "ENDATA"

-- all sections
abbrev pub sections : List Section
sections = Title ∷ ObjectiveSense ∷ Rows ∷ Columns ∷ RightSides ∷ Ranges ∷ Bounds ∷ Finish ∷ []

-- the section of a word
abbrev pub section_of : List ℕ → Option Section
section_of word = find (λ section. same_bytes (word_of section) word) sections

-- whether a section has begun, of those that have
abbrev pub has_begun : Section → List Section → Bool
has_begun section begun = list_any (λ s. same_bytes (word_of s) (word_of section)) begun

-- whether a section may begin after those that have: the title first or never, the sense at most once and before the rows, the rows once, then
-- the columns once, then the others, each at most once and in any order
abbrev pub may_begin : Section → List Section → Bool
may_begin Title [] = true
may_begin Title (s ∷ begun) = false
may_begin ObjectiveSense begun = not (has_begun Rows begun) && not (has_begun ObjectiveSense begun)
may_begin Rows begun = not (has_begun Rows begun)
may_begin Columns begun = has_begun Rows begun && not (has_begun Columns begun)
may_begin RightSides begun = has_begun Columns begun && not (has_begun RightSides begun)
may_begin Ranges begun = has_begun Columns begun && not (has_begun Ranges begun)
may_begin Bounds begun = has_begun Columns begun && not (has_begun Bounds begun)
may_begin Finish begun = has_begun Columns begun
