-- No pair is left behind the last one.
use Rattle.std.proofs.Common.{◌-◌, drop, sym, ◌∙◌, arith}
use Rattle.std.proofs.lemmas.List.{length-drop}
use Rattle.sparse_cols.proofs.Repeats.{first_repeated-short}
use Rattle.sparse_cols.proofs.first_repeated.Goals as goal

pub returns : goal.returns
returns g c =
    let ps = c.args.pairs.now in
    sym (first_repeated-short (drop (c.loop-k.k - 1) ps) (omega (arith, length-drop (c.loop-k.k - 1) ps))) ∙ c.loop-k.invariant
