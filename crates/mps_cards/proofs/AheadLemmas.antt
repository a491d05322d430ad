-- The part of a buffer that is not yet handed out.
use Rattle.std.proofs.Common.{◌≡◌, ℕ, ◌+◌, List, take, drop, sym, ap, ◌∙◌, slice_range}
use Rattle.std.proofs.lemmas.List.{drop-drop}
use Rattle.std.proofs.lemmas.Slice.{between_is}

pub drop-slice_range : {X : Type 0} (xs : List X) (start end k : ℕ) → slice_range xs (start + k) end ≡ drop k (slice_range xs start end)
drop-slice_range xs start end k =
    between_is xs (start + k) end ∙ sym (drop-drop k start (take end xs)) ∙ ap (drop k) (sym (between_is xs start end))

pub ruleset ahead = (drop-slice_range)
