-- The first part of a text, and what follows it.
use Rattle.std.proofs.Common.{◌≡◌, ℕ, ◌-◌, ◌<◌, ◌≤◌, List, [], ◌∷◌, ◌++◌, length, take, drop, Bool, true, false, cond, refl, sym, ◌∙◌, ap, arith, append-nil, length-drop, take-append-drop}
use Rattle.std.proofs.lemmas.List.{drop-drop, take_all}
use Rattle.std.proofs.lemmas.List.Sums.{take_while-cons}
use Rattle.std.proofs.lemmas.Bool.Decides.{nat_tests}
use Rattle.report_lines.specs.Judged.{after_part, is_no_blank, part}

pub take_part : (text : List ℕ) → take (length (part text)) text ≡ part text
take_part [] = refl
take_part (c ∷ text) = rw (take_while-cons is_no_blank c text) (each (take_part text) (is_no_blank c))
  where
    each : take (length (part text)) text ≡ part text → (b : Bool) → take (length (cond b (c ∷ part text) [])) (c ∷ text) ≡ cond b (c ∷ part text) []
    each rest true = ap (λ t. c ∷ t) rest
    each rest false = refl

is_blank : (c : ℕ) → is_no_blank c ≡ false → c ≡ 32
is_blank c e = grind (arith, nat_tests)

blank_first : (text : List ℕ) (c : ℕ) (rest : List ℕ) → drop (length (part text)) text ≡ c ∷ rest → c ≡ 32
blank_first [] c rest e = cc
blank_first (b ∷ text) c rest e = each (is_no_blank b) refl (λ e. blank_first text c rest e)
  where
    parts : (t : Bool) → is_no_blank b ≡ t → drop (length (cond t (b ∷ part text) [])) (b ∷ text) ≡ c ∷ rest
    parts t is = sym (ap (λ (p : List ℕ). drop (length p) (b ∷ text)) (take_while-cons is_no_blank b text ∙ ap (λ t. cond t (b ∷ part text) []) is)) ∙ e

    each : (t : Bool) → is_no_blank b ≡ t → (drop (length (part text)) text ≡ c ∷ rest → c ≡ 32) → c ≡ 32
    each true is later = later (parts true is)
    each false is later =
        let whole : b ∷ text ≡ c ∷ rest = parts false is in
        let same : b ≡ c = cc in
        sym same ∙ is_blank b is

seam : (text : List ℕ) → part text ++ drop (length (part text)) text ≡ text
seam text = ap (λ (p : List ℕ). p ++ drop (length (part text)) text) (sym (take_part text)) ∙ take-append-drop (length (part text)) text

some_of : (text x : List ℕ) → drop (length (part text)) text ≡ x → 1 ≤ length x → (text ≡ part text ++ 32 ∷ drop 1 x) × (after_part text ≡ drop 1 x)
some_of text [] e h = absurd (omega arith)
some_of text (c ∷ rest) e h =
    let is : c ≡ 32 = blank_first text c rest e in
    (sym (seam text) ∙ ap (λ (t : List ℕ). part text ++ t) (e ∙ ap (λ (b : ℕ). b ∷ rest) is), sym (drop-drop 1 (length (part text)) text) ∙ ap (drop 1) e)

none_of : (text x : List ℕ) → drop (length (part text)) text ≡ x → length x < 1 → (text ≡ part text) × (after_part text ≡ [])
none_of text [] e h =
    (sym (seam text) ∙ ap (λ (t : List ℕ). part text ++ t) e ∙ append-nil (part text), sym (drop-drop 1 (length (part text)) text) ∙ ap (drop 1) e)
none_of text (c ∷ rest) e h = absurd (omega arith)

-- the same as the code cuts the text
module _ (text : List ℕ) (end : ℕ) (end_is : end ≡ length (part text)) where
  abbrev behind : List ℕ
  behind = take (length text - end) (drop end text)

  behind_is : drop (length (part text)) text ≡ behind
  behind_is = sym (ap (λ n. drop n text) end_is) ∙ sym (take_all (length text - end) (drop end text) (omega (arith, length-drop end text)))

  pub split_none : length behind < 1 → (text ≡ part text) × (after_part text ≡ [])
  split_none short = none_of text behind behind_is short

  pub split_some : 1 ≤ length behind → (text ≡ part text ++ 32 ∷ take (length behind - 1) (drop 1 behind)) × (after_part text ≡ take (length behind - 1) (drop 1 behind))
  split_some some =
      let tail : drop 1 behind ≡ take (length behind - 1) (drop 1 behind) = sym (take_all (length behind - 1) (drop 1 behind) (omega (arith, length-drop 1 behind))) in
      let parts = some_of text behind behind_is some in
      (parts.0 ∙ ap (λ (t : List ℕ). part text ++ 32 ∷ t) tail, parts.1 ∙ tail)
