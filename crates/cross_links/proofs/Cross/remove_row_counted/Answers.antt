-- The lines stay as they are when the empty one is removed.
use Rattle.std.proofs.Common.{ap}
use Rattle.cross_links.specs.Matrix.{Matrix}
use Rattle.cross_links.specs.Cheap.{lone_row}
use Rattle.cross_links.specs.Held.{matrix_of}
use Rattle.cross_links.proofs.Cheaps.{IsCheap-same}
use Rattle.cross_links.proofs.Cross.remove_row_counted.Goals as goal

pub invariant_of-self : goal.invariant_of-self
invariant_of-self g c =
    let is = c.retire_row.ensures.removed in
    record {
      held = c.retire_row.ensures.held;
      cheap = IsCheap-same (matrix_of c.self.inside.table) (matrix_of c.retire_row.new.self) c.self.inside.cheap c.self.invariant.cheap
          (ap (λ (a : Matrix). a.size) is) (ap (λ (a : Matrix). a.rows) is) (λ d. ap (λ (a : Matrix). lone_row a d) is);
    }
