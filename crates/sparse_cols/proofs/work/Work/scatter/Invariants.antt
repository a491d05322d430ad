use Rattle.std.proofs.Common.{◌≡◌, drop, length}
use Rattle.sparse_cols.proofs.Rows.{scattered}
use Rattle.sparse_cols.proofs.work.Work.scatter.Given as goal

-- what is left of the column makes of the row what all of it makes of the first one
abbrev pub invariant-loop-k : goal.invariant-loop-k
invariant-loop-k g l = record {
  same_length : length l.self ≡ length l.initial.self;
  left : scattered (drop l.k l.column.pairs) l.self ≡ scattered l.column.pairs l.initial.self;
}
