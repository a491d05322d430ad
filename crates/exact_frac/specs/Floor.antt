-- The floor of a fraction.
use Rattle.std.specs.Prelude.{◌≡◌, ℕ, ◌<◌, ℤ, pos, ◌+ℤ◌, ◌*ℤ◌}

-- the floor of p/q, and the numerator of what is left above it
pub record IsFloor (p : ℤ) (q : ℕ) (floor : ℤ) (part : ℕ) : Type 0 where
  pub whole : p ≡ floor *ℤ pos q +ℤ pos part
  pub part_below : part < q
