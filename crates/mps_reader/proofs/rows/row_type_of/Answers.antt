use Rattle.std.proofs.Common.{◌≡◌, ℕ, ◌≤◌, Bool, true, false, ◌&&◌, ◌==◌, if◌then◌else◌, List, [], ◌∷◌, length, None, refl, sym, ◌∙◌, arith}
use Rattle.mps_model.specs.RowCards.{row_type_of}
use Rattle.mps_reader.proofs.rows.row_type_of.Goals as goal

passed : {X : Type 0} (b : Bool) (x y : X) → (if b && false then x else y) ≡ y
passed true x y = refl
passed false x y = refl

-- no type has two letters
longer : (word : List ℕ) → 2 ≤ length word → None ≡ row_type_of word
longer [] h = absurd (omega arith)
longer (a ∷ []) h = absurd (omega arith)
longer (a ∷ (b ∷ word)) h = sym (passed (a == 78) _ _ ∙ passed (a == 76) _ _ ∙ passed (a == 71) _ _ ∙ passed (a == 69) _ _)

pub returns-in_default-3 : goal.returns-in_default-3
returns-in_default-3 c = longer c.args.word.now c.in_default.len_at_least
