-- Words and blanks of a text.
use Rattle.std.proofs.Common.{◌≡◌, ◌≢◌, ℕ, zero, suc, ◌<◌, ◌≤◌, List, [], ◌∷◌, take, length, not, refl, sym, ap, arith, slice_index}
use Rattle.std.proofs.lemmas.List.Elements.{All-head, All-tail}
use Rattle.std.proofs.lemmas.Bool.{ne_eqb, eq-eqb}
use Rattle.std.specs.List.{All, take_while, prefix_len}
use Rattle.lp_text.specs.Cards.{is_blank}

prefix_len-place : (text : List ℕ) (place : ℕ) → place ≤ length text → All (λ c. c ≢ 32) (take place text)
    → (place < length text → slice_index text place ≡ 32) → prefix_len (λ c. not (is_blank c)) text ≡ place
prefix_len-place [] zero within before found = refl
prefix_len-place [] (suc place) within before found = absurd (omega arith)
prefix_len-place (c ∷ text) zero within before found = rw (eq-eqb c 32 (found (omega arith))) refl
prefix_len-place (c ∷ text) (suc place) within before found =
    rw (ne_eqb c 32 (All-head (λ x. x ≢ 32) c (take place text) before))
    (omega (arith, prefix_len-place text place (omega arith) (All-tail (λ x. x ≢ 32) c (take place text) before) (λ l. found (omega arith))))

pub take_while-place : (text : List ℕ) (place : ℕ) → place ≤ length text → All (λ c. c ≢ 32) (take place text)
    → (place < length text → slice_index text place ≡ 32) → take place text ≡ take_while (λ c. not (is_blank c)) text
take_while-place text place within before found = ap (λ n. take n text) (sym (prefix_len-place text place within before found))

pub ruleset first_word = (take_while-place)
