-- One row after another is taken over.
use Rattle.std.proofs.Common.{◌+◌, ◌<◌, [], length, get_or, set, eqb, sym, ◌∙◌, subst, arith}
use Rattle.std.proofs.lemmas.List.{get_or_default, get_or-set_other, get_or-set_same}
use Rattle.std.proofs.Math.ListN.{length-set}
use borrow.Author.Count.{below_more}
use Rattle.plain_table.specs.Inner.Rows.{IsTaken}
use Rattle.plain_table.proofs.Lines.{item_read}
use Rattle.plain_table.proofs.Supports.{wide_set}
use Rattle.plain_table.proofs.rows.take_all_over.Goals as goal

pub loop-i-preserved : goal.loop-i-preserved
loop-i-preserved c =
    let a = c.args in
    let e = a.elimination.now in
    let i = c.loop-i.i in
    let rows = c.loop-i.rows in
    let row = c.take_over.new.row in
    let within : i < length rows = omega (arith, c.loop-i.invariant.count) in
    let old = get_or_default rows i c.index-rows-i.result [] within ∙ c.loop-i.invariant.left i (omega arith) in
    let packed = item_read a.packed.now i c.index-packed-i.result [] (omega (arith, c.requires.count)) c.index-packed-i.is in
    record {
      count = length-set rows i row ∙ c.loop-i.invariant.count;
      wide = wide_set (length e.line.now) rows i row c.loop-i.invariant.wide within c.take_over.ensures.length;
      taken = below_more
          (λ k. IsTaken (eqb (k + a.base) e.position) e.column e.line.now e.support.now (get_or a.rows.now k []) (get_or a.packed.now k []) (get_or (set rows i row) k [])) i
          (λ k b. subst (λ new. IsTaken (eqb (k + a.base) e.position) e.column e.line.now e.support.now (get_or a.rows.now k []) (get_or a.packed.now k []) new)
          (sym (get_or-set_other rows i k row [] (omega arith))) (c.loop-i.invariant.taken k b))
          (subst (λ new. IsTaken (eqb (i + a.base) e.position) e.column e.line.now e.support.now (get_or a.rows.now i []) (get_or a.packed.now i []) new) (sym (get_or-set_same rows i row [] within))
          (subst (λ old. IsTaken (eqb (i + a.base) e.position) e.column e.line.now e.support.now old (get_or a.packed.now i []) row) old
          (subst (λ out. IsTaken (eqb (i + a.base) e.position) e.column e.line.now e.support.now (get_or rows i c.index-rows-i.result) out row) packed c.take_over.ensures.taken)));
      left = λ k b. get_or-set_other rows i k row [] (omega arith) ∙ c.loop-i.invariant.left k (omega arith);
    }
