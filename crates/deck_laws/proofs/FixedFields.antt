-- A line with one more field, in fixed columns: its bytes and its parts.
use Rattle.std.proofs.Common.{◌≡◌, ℕ, zero, suc, ◌+◌, ◌-◌, ◌<◌, ◌≤◌, Bool, true, false, ◌&&◌, List, [], ◌∷◌, ◌++◌, length, get_or, take, drop, refl, sym, ap, ◌∙◌, arith}
use Rattle.std.specs.List.{list_all}
use Rattle.std.proofs.lemmas.List.{drop_all, length-append, length-drop, get_or_append_left, take-append-le, drop-append-le, take_all}
use Rattle.std.proofs.lemmas.List.Folds.{list_all-append}
use Rattle.std.proofs.Math.Seq.{drop-append-add}
use Rattle.deck_tools.specs.Layout.{with_field}
use Rattle.lp_text.specs.Cards.{trimmed}
use Rattle.lp_text.specs.declared.Form.TheVariants.{Fixed}
use Rattle.deck_laws.proofs.Blanks.{all-blanks, blanks, byte-blanks, length-blanks, part-blanks, trimmed-blanks}

-- the bytes of a text from one place up to another
abbrev pub part : List ℕ → ℕ → ℕ → List ℕ
part text a n = take n (drop a text)

module _ (line : List ℕ) (place : ℕ) (short : length line ≤ place) where
  -- the line up to the place
  front : List ℕ
  front = line ++ blanks (place - length line)

  length-front : length front ≡ place
  unfolding front
  length-front = length-append line (blanks (place - length line)) ∙ omega (arith, length-blanks (place - length line))

  behind : (c : ℕ) (text : List ℕ) → with_field Fixed line place (c ∷ text) ≡ front ++ c ∷ text
  unfolding front
  behind c text = refl

  pub length-field : (text : List ℕ) → length (with_field Fixed line place text) ≤ place + length text
  length-field [] = omega arith
  length-field (c ∷ text) = omega (arith, ap length (behind c text) ∙ length-append front (c ∷ text), length-front)

  byte-front : (text : List ℕ) (i : ℕ) → i < place → get_or (front ++ text) i 32 ≡ get_or line i 32
  unfolding front
  byte-front text i h = get_or_append_left front text 32 i (omega (arith, length-front)) ∙ byte-blanks line (place - length line) i

  -- the bytes before the place stay
  pub byte-field : (text : List ℕ) (i : ℕ) → i < place → get_or (with_field Fixed line place text) i 32 ≡ get_or line i 32
  byte-field [] i h = refl
  byte-field (c ∷ text) i h = ap (λ t. get_or t i 32) (behind c text) ∙ byte-front (c ∷ text) i h

  part-front : (text : List ℕ) (a n : ℕ) → a + n ≤ place → trimmed (part (front ++ text) a n) ≡ trimmed (part line a n)
  unfolding front
  part-front text a n h =
      let blanks = part-blanks line (place - length line) a n in
      ap (λ t. trimmed (take n t)) (drop-append-le a front text (omega (arith, length-front)))
      ∙ ap trimmed (take-append-le n (drop a front) text (omega (arith, length-front, length-drop a front)))
      ∙ ap trimmed blanks.1 ∙ trimmed-blanks (part line a n) blanks.0

  -- so do the parts before the place
  pub part-field : (text : List ℕ) (a n : ℕ) → a + n ≤ place → trimmed (part (with_field Fixed line place text) a n) ≡ trimmed (part line a n)
  part-field [] a n h = refl
  part-field (c ∷ text) a n h = ap (λ t. trimmed (part t a n)) (behind c text) ∙ part-front (c ∷ text) a n h

  part-past : (n : ℕ) → part line place n ≡ []
  part-past n = ap (take n) (drop_all place line short) ∙ nothing n
    where
      nothing : (n : ℕ) → take {A = ℕ} n [] ≡ []
      nothing zero = refl
      nothing (suc n) = refl

  -- the field stands at the place
  pub own-field : (text : List ℕ) (n : ℕ) → length text ≤ n → trimmed (part (with_field Fixed line place text) place n) ≡ trimmed text
  own-field [] n h = ap trimmed (part-past n)
  own-field (c ∷ text) n h =
      ap (λ t. trimmed (part t place n)) (behind c text)
      ∙ ap (λ k. trimmed (take n (drop k (front ++ c ∷ text)))) (sym (length-front) ∙ omega arith)
      ∙ ap (λ t. trimmed (take n t)) (drop-append-add front (c ∷ text) 0)
      ∙ ap trimmed (take_all n (c ∷ text) h)

both : (b : Bool) → (b && true) ≡ b
both true = refl
both false = refl

-- a test that a blank passes
pub all-field : (p : ℕ → Bool) (blank : p 32 ≡ true) (line : List ℕ) (place : ℕ) (text : List ℕ)
    → list_all p (with_field Fixed line place text) ≡ (list_all p line && list_all p text)
all-field p blank line place [] = sym (both (list_all p line))
all-field p blank line place (c ∷ text) =
    list_all-append p (line ++ blanks (place - length line)) (c ∷ text)
    ∙ ap (λ b. b && list_all p (c ∷ text)) (list_all-append p line (blanks (place - length line)) ∙ ap (λ b. list_all p line && b) (all-blanks p blank (place - length line)) ∙ both (list_all p line))
