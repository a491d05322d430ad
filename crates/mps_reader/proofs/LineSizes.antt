-- The lines of a text have all its bytes.
use Rattle.std.proofs.Common.{◌≡◌, ℕ, suc, ◌+◌, Bool, true, false, List, [], ◌∷◌, length, cond, refl, ap, ◌∙◌, arith, ◌==◌}
use Rattle.lp_text.specs.Lines.{Line, lines_of, onto_first, size_of}

abbrev sizes : List Line → ℕ
sizes [] = 0
sizes (line ∷ lines) = size_of line + sizes lines

sizes-onto_first : (c : ℕ) (lines : List Line) → sizes (onto_first c lines) ≡ suc (sizes lines)
sizes-onto_first c [] = omega arith
sizes-onto_first c (line ∷ lines) = omega arith

sizes-lines_of : (text : List ℕ) → sizes (lines_of text) ≡ length text
sizes-lines_of [] = refl
sizes-lines_of (c ∷ text) = by_test (c == 10) (sizes-lines_of text)
  where
    by_test : (b : Bool) → sizes (lines_of text) ≡ length text → sizes (cond b (record { bytes = []; is_ended = true } ∷ lines_of text) (onto_first c (lines_of text))) ≡ suc (length text)
    by_test true h = omega (arith, h)
    by_test false h = sizes-onto_first c (lines_of text) ∙ ap suc h

-- the first line, and then the bytes of the others
pub length-first : (before after : List ℕ) (line : Line) → lines_of before ≡ line ∷ lines_of after → length before ≡ size_of line + length after
length-first before after line first =
    let whole : sizes (lines_of before) ≡ size_of line + sizes (lines_of after) = ap sizes first in
    omega (arith, sizes-lines_of before, whole, sizes-lines_of after)
