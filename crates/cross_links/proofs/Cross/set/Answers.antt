-- The entry stays in its row and in its column.
use Rattle.std.proofs.Common.{subst, sym}
use Rattle.cross_links.specs.Matrix.{Matrix, IsLink}
use Rattle.cross_links.specs.Held.{matrix_of}
use Rattle.cross_links.proofs.Cheaps.{IsCheap-valued}
use Rattle.cross_links.proofs.Cross.set.Goals as goal

pub invariant_of-self : goal.invariant_of-self
invariant_of-self c =
    let some = subst (λ (a : Matrix). IsLink a c.args.link) (sym c.self.view_is) c.requires in
    record {
      held = c.set.ensures.held;
      cheap = IsCheap-valued (matrix_of c.self.inside.table) (matrix_of c.set.new.self) c.args.link c.args.v c.self.inside.cheap c.self.invariant.cheap some c.set.ensures.set;
    }
