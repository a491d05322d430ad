-- Sums over the columns and the rows of a deck, and the order of products.
use Rattle.std.proofs.Common.{◌≡◌, List, length, sym, ◌∙◌}
use Rattle.rational.specs.Rational.{ℚ, ◌*ℚ◌}
use Rattle.rational.proofs.RationalRing.{*ℚ_assoc}
use Rattle.rational.specs.Sum.{sum_ℚ, at}
use Rattle.rational.proofs.SumLaws.{sum-cong, sum-exchange, sum-scale, sum-scale_right}
use Rattle.lp_model.specs.Certificate.{weighted_column}
use Rattle.lp_model.specs.Deck.{Deck, activity, entry}

-- the prices of the activities of a list of numbers
abbrev pub priced_part : Deck → List ℚ → List ℚ → ℚ
priced_part d y z = sum_ℚ (length d.rows) (λ i. at y i *ℚ activity d z i)

-- they are its numbers times the priced columns
pub weighted_part : (d : Deck) (y z : List ℚ) → sum_ℚ (length d.columns) (λ j. weighted_column d y j *ℚ at z j) ≡ priced_part d y z
weighted_part d y z =
    sum-cong (length d.columns) (λ j. weighted_column d y j *ℚ at z j) (λ j. sum_ℚ (length d.rows) (λ i. at y i *ℚ (entry d i j *ℚ at z j)))
    (λ j b. sym (sum-scale_right (length d.rows) (λ i. at y i *ℚ entry d i j) (at z j)) ∙ sum-cong (length d.rows) _ _ (λ i c. *ℚ_assoc (at y i) (entry d i j) (at z j)))
    ∙ sum-exchange (length d.columns) (length d.rows) (λ j i. at y i *ℚ (entry d i j *ℚ at z j))
    ∙ sum-cong (length d.rows) _ _ (λ i c. sum-scale (length d.columns) (at y i) (λ j. entry d i j *ℚ at z j))
