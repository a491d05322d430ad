-- The parts of a line that was put together from parts.
use Rattle.std.proofs.Common.{◌≡◌, ℕ, ◌+◌, List, [], ◌∷◌, ◌++◌, length, drop, take_while, Bool, true, false, cond, refl, ◌∙◌, ap}
use Rattle.std.specs.List.{list_all}
use Rattle.std.proofs.Math.Seq.{drop-append-add}
use Rattle.std.proofs.lemmas.Bool.{and_parts}
use Rattle.std.proofs.lemmas.List.Sums.{take_while-cons}
use Rattle.report_lines.specs.Judged.{after_part, is_no_blank, part}

-- what stands before the first byte that does not pass

pub taken_joined : (p : ℕ → Bool) (word : List ℕ) (c : ℕ) (rest : List ℕ) → list_all p word ≡ true → p c ≡ false → take_while p (word ++ c ∷ rest) ≡ word
taken_joined p [] c rest h stop = take_while-cons p c rest ∙ ap (λ b. cond b (c ∷ take_while p rest) []) stop
taken_joined p (x ∷ word) c rest h stop =
    let each = and_parts (p x) (list_all p word) h in
    take_while-cons p x (word ++ c ∷ rest)
    ∙ ap (λ b. cond b (x ∷ take_while p (word ++ c ∷ rest)) []) each.0
    ∙ ap (λ t. x ∷ t) (taken_joined p word c rest each.1 stop)

pub taken_whole : (p : ℕ → Bool) (word : List ℕ) → list_all p word ≡ true → take_while p word ≡ word
taken_whole p [] h = refl
taken_whole p (x ∷ word) h =
    let each = and_parts (p x) (list_all p word) h in
    take_while-cons p x word ∙ ap (λ b. cond b (x ∷ take_while p word) []) each.0 ∙ ap (λ t. x ∷ t) (taken_whole p word each.1)

-- no blank stands in the text
abbrev pub IsUnbroken : List ℕ → Type 0
IsUnbroken text = list_all is_no_blank text ≡ true

pub part_joined : (word rest : List ℕ) → IsUnbroken word → part (word ++ 32 ∷ rest) ≡ word
part_joined word rest h = taken_joined is_no_blank word 32 rest h refl

pub part_whole : (word : List ℕ) → IsUnbroken word → part word ≡ word
part_whole word h = taken_whole is_no_blank word h

pub after_joined : (word rest : List ℕ) → IsUnbroken word → after_part (word ++ 32 ∷ rest) ≡ rest
after_joined word rest h =
    ap (λ (p : List ℕ). drop (length p + 1) (word ++ 32 ∷ rest)) (part_joined word rest h) ∙ drop-append-add word (32 ∷ rest) 1
