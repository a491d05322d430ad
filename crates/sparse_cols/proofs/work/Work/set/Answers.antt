-- A row that gets its first value joins the list, which has room for all rows.
use Rattle.std.proofs.Common.{◌<◌, List, Option, length, sym, subst, vec_capacity, arith}
use Rattle.sparse_cols.proofs.Rows.{empty_read, room_left, IsFilledAt-more}
use Rattle.sparse_cols.proofs.work.Work.set.Goals as goal

pub push_reserved-requires : goal.push_reserved-requires
push_reserved-requires g c =
    let row = c.self.inside.values.items in
    let filled = c.self.inside.filled in
    let lt = subst (λ (v : List (Option g.row.V.Denot)). c.args.i < length v) (sym c.self.view_is) c.requires in
    let none = empty_read row c.args.i c.index.result.now lt c.index.ensures c.if-is_none.ensures in
    omega (arith, filled.ok.0, room_left row filled.items (vec_capacity filled) c.args.i c.args.v c.self.invariant lt none)

pub invariant_of-self : goal.invariant_of-self
invariant_of-self g c =
    let row = c.self.inside.values.items in
    let filled = c.self.inside.filled in
    let lt = subst (λ (v : List (Option g.row.V.Denot)). c.args.i < length v) (sym c.self.view_is) c.requires in
    let none = empty_read row c.args.i c.index.result.now lt c.index.ensures c.if-is_none.ensures in
    let more = IsFilledAt-more row filled.items (vec_capacity filled) c.args.i c.args.v c.self.invariant lt none in
    rw (c.push_reserved.ensures.items, c.push_reserved.ensures.capacity) more
