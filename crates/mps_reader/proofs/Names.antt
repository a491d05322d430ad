-- Names with the same bytes.
use Rattle.std.proofs.Common.{◌≡◌, ℕ, List, sym, ◌∙◌}
use Rattle.deck_model.proofs.Lookups.{same_bytes-flip, same_bytes-pointwise}
use Rattle.lp_model.specs.Edit.{same_bytes}

pub same_bytes-flipped : (xs ys : List ℕ) → same_bytes xs ys ≡ same_bytes ys xs
same_bytes-flipped xs ys = same_bytes-flip xs ys ∙ sym (same_bytes-pointwise ys xs)
