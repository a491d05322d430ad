use Rattle.std.proofs.Common.{◌≡◌, length, take}
use Rattle.cert_check.specs.Inner.Groups.{Marks}
use Rattle.cert_check.specs.Items.{is_distinct}
use Rattle.cert_check.proofs.bases.mark.Given as goal

-- the marks of the numbers so far, and whether one of them stood twice
abbrev pub invariant-loop-k : goal.invariant-loop-k
invariant-loop-k l = record {
  once : l.once ≡ is_distinct (take l.k l.list);
  marks : Marks (length l.fn.marks) (take l.k l.list) l.marks;
}
