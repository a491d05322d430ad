-- The row and the column of the entry are followed.
use Rattle.std.proofs.Common.{ap, refl}
use Rattle.cross_links.specs.Matrix.{Matrix}
use Rattle.cross_links.specs.Held.{matrix_of}
use Rattle.cross_links.proofs.Cheaps.{loose_from, IsCheap-followed, row_left, lone_left}
use Rattle.cross_links.proofs.Search.{entry_row_below, entry_col_below}
use Rattle.cross_links.proofs.Entries.{some_from}
use Rattle.cross_links.proofs.Cross.take_out.Goals as goal

pub put-requires-clause-loose : goal.put-requires-clause-loose
put-requires-clause-loose g c =
    loose_from (matrix_of c.self.inside.table) c.entry-r.result.1 c.self.inside.cheap c.take.new.self c.lone_row-before.result c.self.invariant.cheap c.lone_row-before.ensures.lone c.take.ensures.lone

pub invariant_of-self : goal.invariant_of-self
invariant_of-self g c =
    let t = c.self.inside.table in
    let a = matrix_of t in
    let b = matrix_of c.cancel.new.self in
    let held = c.self.invariant.held in
    let e = c.entry-r.result in
    let some = some_from _ e c.entry-r.ensures in
    let is = c.cancel.ensures.cancelled in
    record {
      held = c.cancel.ensures.held;
      cheap = IsCheap-followed a b e.0 e.1 c.self.inside.cheap c.self.invariant.cheap c.take.new.self c.put.new.self _ c.lone_row-before.result
          c.lone_row-after.result c.is_single.result (ap (λ (x : Matrix). x.size) is) (entry_row_below t held c.args.link some e c.entry-r.ensures)
          (entry_col_below t held c.args.link some e c.entry-r.ensures) (row_left a b c.args.link e held.matrix c.entry-r.ensures is)
          (lone_left a b c.args.link e held.matrix c.entry-r.ensures is) c.lone_row-after.ensures.row c.lone_row-before.ensures.lone
          c.lone_row-after.ensures.lone c.is_single.ensures c.take.ensures.lone c.take.ensures.singles c.put.ensures.lone c.put.ensures.singles
          c.put.ensures.flagged c.set.ensures refl refl;
    }
