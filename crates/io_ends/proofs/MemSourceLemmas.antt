-- A read from memory.
use Rattle.std.proofs.Common.{◌≡◌, ℕ, ◌+◌, ◌≤◌, List, ◌++◌, length, take, drop}
use Rattle.std.proofs.lemmas.List.{drop-drop, length-take-le, take-append-drop, take_at, take_rest}

-- k bytes that were put at the front of a buffer, and then those past n + k, are the bytes past place n
pub read_then_left : (bytes given rest : List ℕ) (n k : ℕ) → given ≡ take k (drop n bytes) → k ≤ length (drop n bytes)
    → take k (given ++ rest) ++ drop (n + k) bytes ≡ drop n bytes
read_then_left bytes given rest n k same within =
    let len : length given ≡ k = rw same (length-take-le k (drop n bytes) within) in
    rw (take_at given rest k len, same, ← drop-drop k n bytes) (take-append-drop k (drop n bytes))

-- what a read gives and leaves
pub ruleset reads = (read_then_left, take_rest)
