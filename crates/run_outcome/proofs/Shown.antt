-- The point, the prices and the ray that a table shows, number by number.
use Rattle.std.proofs.Common.{◌≡◌, ℕ, ◌+◌, ◌<◌, List, ◌∷◌, ◌++◌, map, length, take, drop, get_or, true, false, cond, eqb, ne_eqb, sym, ◌∙◌, ap, ap₂, arith}
use Rattle.std.proofs.lemmas.List.{at_drop_more, get_or-map, length-map, take-append-le, take_all}
use Rattle.rational.specs.Rational.{ℚ, zero_ℚ, neg_ℚ, ◌*ℚ◌}
use Rattle.rational.specs.Sum.{at}
use Rattle.rational.specs.Sparse.{upto}
use Rattle.rational.proofs.RationalRing.{ring_ℚ}
use Rattle.rational.proofs.Ring.{◌≐◌, ⊝◌, ◌⊗◌, 𝟙}
use Rattle.rational.proofs.VectorLaws.{get-map-upto, length-map-upto, list_of, same_vectors}
use Rattle.lp_run.specs.Ends.{by_position}
use Rattle.bland_ratio.specs.Leave.{direction_where}

-- what the positions from p on put at column j: the number of p where it has the column, else what the later ones put there
placed_more : (basis : List ℕ) (numbers : List ℚ) (p j : ℕ) (v : ℚ) → p < length basis → p < length numbers
    → by_position (drop p basis) (drop p numbers) j v ≡ cond (eqb (get_or basis p 0) j) (at numbers p) (by_position (drop (p + 1) basis) (drop (p + 1) numbers) j v)
placed_more basis numbers p j v there number =
    at_drop_more (λ b. by_position b (drop p numbers) j v) basis p 0 there
    ∙ at_drop_more (λ n. by_position (get_or basis p 0 ∷ drop (p + 1) basis) n j v) numbers p zero_ℚ number

-- a position whose column is another one puts nothing there
pub passed_over : (basis : List ℕ) (numbers : List ℚ) (past p j : ℕ) (v : ℚ) → past ≡ p + 1 → p < length basis → p < length numbers → j < get_or basis p 0
    → by_position (drop past basis) (drop past numbers) j v ≡ by_position (drop p basis) (drop p numbers) j v
passed_over basis numbers past p j v next there number before =
    ap (λ n. by_position (drop n basis) (drop n numbers) j v) next
    ∙ ap (λ t. cond t (at numbers p) (by_position (drop (p + 1) basis) (drop (p + 1) numbers) j v)) (sym (ne_eqb (get_or basis p 0) j (λ e. absurd (omega arith))))
    ∙ sym (placed_more basis numbers p j v there number)

-- a rate is the element against the direction
pub rate_falling : (a : ℚ) → a ≡ neg_ℚ (direction_where true) *ℚ a
rate_falling a = ring_ℚ 1 (λ a. a ≐ ⊝ (⊝ 𝟙) ⊗ a) tt a

pub rate_rising : (a : ℚ) → neg_ℚ a ≡ neg_ℚ (direction_where false) *ℚ a
rate_rising a = ring_ℚ 1 (λ a. ⊝ a ≐ ⊝ 𝟙 ⊗ a) tt a

-- a list with the images of a vector's numbers is the image of the vector
pub image_of : (f : ℚ → ℚ) (xs ys : List ℚ) → length ys ≡ length xs → ((i : ℕ) → i < length xs → at ys i ≡ f (at xs i)) → ys ≡ map f xs
image_of f xs ys len items =
    same_vectors ys (map f xs) (length xs) len (length-map xs f) (λ i h. items i h ∙ sym (get_or-map f xs i zero_ℚ zero_ℚ h))

-- all of a vector is written over
pub written_over : (n : ℕ) (new items : List ℚ) → length new ≡ n → take n (new ++ drop (length new) items) ≡ new
written_over n new items count = take-append-le n new (drop (length new) items) (omega arith) ∙ take_all n new (omega arith)

-- a vector made from its indices, after the numbers of the positions are put there
pub filled_of : (basis basis' : List ℕ) (numbers numbers' : List ℚ) (g : ℕ → ℚ) (n : ℕ) (old new : List ℚ) → basis' ≡ basis → numbers' ≡ numbers → old ≡ map g (upto n)
    → length new ≡ length old → ((j : ℕ) → j < length old → at new j ≡ by_position basis' numbers' j (at old j))
    → new ≡ map (λ j. by_position basis numbers j (g j)) (upto n)
filled_of basis basis' numbers numbers' g n old new same same' is count placed =
    let len : length old ≡ n = ap length is ∙ length-map-upto g n in
    list_of (λ j. by_position basis numbers j (g j)) n new (count ∙ len)
    (λ j h. placed j (omega arith)
    ∙ ap₂ (λ b v. by_position b v j (at old j)) same same'
    ∙ ap (by_position basis numbers j) (ap (λ l. at l j) is ∙ get-map-upto g zero_ℚ n j h))
