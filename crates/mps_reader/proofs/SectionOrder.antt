-- The order of sections.
use Rattle.std.proofs.Common.{◌≡◌, Bool, true, false, not, ◌&&◌, ◌||◌, List, [], ◌∷◌, refl, sym, ap, ap₂, ◌∙◌}
use Rattle.std.specs.List.{list_any}
use Rattle.std.proofs.lemmas.Bool.{and_parts}
use Rattle.lp_model.specs.Edit.{same_bytes}
use Rattle.mps_model.specs.declared.Section.{Section}
use Rattle.mps_model.specs.declared.Section.TheVariants.{Bounds, Columns, Finish, ObjectiveSense, Ranges, RightSides, Rows, Title}
use Rattle.mps_model.specs.Sections.{has_begun, may_begin, word_of}
use Rattle.mps_reader.specs.Inner.Standing.{IsOrdered}

-- a test of sections that is one of their words finds what has begun
pub among : (eq : Section → Section → Bool) → ((x y : Section) → eq x y ≡ same_bytes (word_of x) (word_of y)) → (s : Section) (begun : List Section) → list_any (λ x. eq x s) begun ≡ has_begun s begun
among eq same s [] = refl
among eq same s (x ∷ begun) = ap₂ (λ a b. a || b) (same x s) (among eq same s begun)

-- the rows begin before the columns
pub rows_first : (begun : List Section) → IsOrdered begun → has_begun Columns begun ≡ true → has_begun Rows begun ≡ true
rows_first [] ordered h = h
rows_first (Title ∷ begun) ordered h = rows_first begun ordered.1 h
rows_first (Rows ∷ begun) ordered h = refl
rows_first (Columns ∷ begun) ordered h = (and_parts (has_begun Rows begun) (not (has_begun Columns begun)) ordered.0).0
rows_first (ObjectiveSense ∷ begun) ordered h = rows_first begun ordered.1 h
rows_first (RightSides ∷ begun) ordered h = rows_first begun ordered.1 h
rows_first (Ranges ∷ begun) ordered h = rows_first begun ordered.1 h
rows_first (Bounds ∷ begun) ordered h = rows_first begun ordered.1 h
rows_first (Finish ∷ begun) ordered h = rows_first begun ordered.1 h

-- where the rows were the last to begin, the columns have not
pub before_columns : (before : List Section) → IsOrdered (Rows ∷ before) → has_begun Columns (Rows ∷ before) ≡ false
before_columns before ordered = by (has_begun Columns before) refl
  where
    by : (b : Bool) → has_begun Columns before ≡ b → has_begun Columns before ≡ false
    by false e = e
    by true e =
        let none : true ≡ false = sym ordered.0 ∙ ap not (rows_first before ordered.1 e) in
        absurd (cc none)

-- the columns begin once
pub not_yet : (begun : List Section) → may_begin Columns begun ≡ true → has_begun Columns begun ≡ false
not_yet begun e = by (has_begun Rows begun) (has_begun Columns begun) e
  where
    by : (a b : Bool) → (a && not b) ≡ true → b ≡ false
    by true true h = sym h
    by true false h = refl
    by false b h = absurd (cc h)

-- the title begins first
pub title_first : (begun : List Section) → may_begin Title begun ≡ true → begun ≡ []
title_first [] e = refl
title_first (s ∷ begun) e = absurd (cc e)
