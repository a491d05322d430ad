-- No entry's cost overflows.
use Rattle.std.proofs.Common.{◌≡◌, ℕ, ◌-◌, ◌*◌, ◌^◌, ◌<◌, length, arith}
use Rattle.cross_links.specs.Matrix.{Matrix, row, col, IsMatrix}
use Rattle.cross_links.proofs.Entries.{row_count_le, col_count_le}
use Rattle.cross_links.proofs.Search.{product_fits}

pub cost_fits : (a : Matrix) (r c n m : ℕ) → IsMatrix a → n ≡ length (row a r) → m ≡ length (col a c) → (n - 1) * (m - 1) < 2 ^ 64
cost_fits a r c n m h rows cols =
    product_fits a.size (n - 1) (m - 1) h.small (omega (arith, rows, row_count_le a h r)) (omega (arith, cols, col_count_le a h c))
