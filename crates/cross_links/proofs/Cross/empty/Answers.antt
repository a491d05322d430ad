-- No row and no column has an entry.
use Rattle.std.proofs.Common.{ap}
use Rattle.cross_links.specs.Matrix.{Matrix}
use Rattle.cross_links.specs.Held.{matrix_of}
use Rattle.cross_links.proofs.Cheaps.{IsCheap-new}
use Rattle.cross_links.proofs.Cross.empty.Goals as goal

pub invariant_of-result : goal.invariant_of-result
invariant_of-result g c =
    let made = c.in_ok-new.ensures.empty in
    let cheap = c.in_ok-new-2.ensures in
    record {
      held = c.in_ok-new.ensures.held;
      cheap = IsCheap-new c.args.m (matrix_of c.in_ok-new.field-0) c.in_ok-new-2.field-0 (ap (λ (a : Matrix). a.size) made) (ap (λ (a : Matrix). a.rows) made)
          (ap (λ (a : Matrix). a.cols) made) cheap.singles_len cheap.singles cheap.lone cheap.flagged;
    }
