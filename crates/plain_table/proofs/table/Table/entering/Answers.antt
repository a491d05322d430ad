use Rattle.std.proofs.Common.{◌≡◌, true, false}
use Rattle.lp_run.specs.Step.{Eligible}
use Rattle.plain_table.specs.Next.{prices}
use Rattle.plain_table.proofs.table.Table.entering.Goals as goal
use borrow.Author.Count.{below_more}

pub loop-j-preserved : goal.loop-j-preserved
loop-j-preserved c =
    let inst = c.args.inst.now in
    let t = c.args.self.now in
    below_more (λ j. Eligible inst t.state (prices inst t) j → ⊥) c.loop-j.j c.loop-j.invariant (λ h. apart (c.may_enter.ensures.1 h) c.if-may_enter.false)
  where
    apart : c.may_enter.result ≡ true → c.may_enter.result ≡ false → ⊥
    apart e f = cc
