-- Laws of the pieces of a text, for whoever takes its words one by one.
use Rattle.std.proofs.Common.{◌≡◌, ℕ, cond, List, ◌∷◌, length, filter, nat_lt, ap, arith}
use Rattle.std.proofs.lemmas.Bool.{lt-ltb}

-- the pieces that are not empty
abbrev pub full : List (List ℕ) → List (List ℕ)
full pieces = filter (λ piece. nat_lt 0 (length piece)) pieces

pub full-first : (c : ℕ) (word : List ℕ) (pieces : List (List ℕ)) → full ((c ∷ word) ∷ pieces) ≡ (c ∷ word) ∷ full pieces
full-first c word pieces = ap (λ b. cond b ((c ∷ word) ∷ full pieces) (full pieces)) (lt-ltb 0 (length (c ∷ word)) (omega arith))
