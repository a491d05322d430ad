-- The table has no entry there either. Its row and its column are followed.
use Rattle.std.proofs.Common.{subst, ap, refl, arith}
use Rattle.cross_links.specs.Matrix.{Entry, Matrix, Has}
use Rattle.cross_links.specs.Held.{matrix_of}
use Rattle.cross_links.proofs.Cheaps.{loose_from, IsCheap-followed, row_other, lone_stays}
use Rattle.cross_links.proofs.Cross.fill_counted.Goals as goal

pub fill-requires-clause-absent : goal.fill-requires-clause-absent
fill-requires-clause-absent g c = λ has. c.requires.absent (subst (λ (a : Matrix). Has a c.args.r c.args.c) c.self.view_is has)

pub put-requires-clause-loose : goal.put-requires-clause-loose
put-requires-clause-loose g c =
    loose_from (matrix_of c.self.inside.table) c.args.c c.self.inside.cheap c.take.new.self c.lone_row-before.result c.self.invariant.cheap c.lone_row-before.ensures.lone c.take.ensures.lone

pub invariant_of-self-2 : goal.invariant_of-self-2
invariant_of-self-2 g c =
    let a = matrix_of c.self.inside.table in
    let b = matrix_of c.fill.new.self in
    let e : Entry = (c.args.r, c.args.c, c.args.v) in
    let filled = c.in_ok-link.ensures.ok in
    let sees = ap (λ (x : Matrix). x.size) c.self.view_is in
    record {
      held = c.in_ok-link.ensures.held;
      cheap = IsCheap-followed a b e.0 e.1 c.self.inside.cheap c.self.invariant.cheap c.take.new.self c.put.new.self _ c.lone_row-before.result
          c.lone_row-after.result c.is_single.result filled.size (omega (arith, c.requires.row, sees)) (omega (arith, c.requires.col, sees))
          (row_other a b c.in_ok-link.link e c.self.invariant.held.matrix filled)
          (lone_stays a b c.in_ok-link.link e c.self.invariant.held.matrix filled) c.lone_row-after.ensures.row c.lone_row-before.ensures.lone
          c.lone_row-after.ensures.lone c.is_single.ensures c.take.ensures.lone c.take.ensures.singles c.put.ensures.lone c.put.ensures.singles
          c.put.ensures.flagged c.set.ensures refl refl;
    }
