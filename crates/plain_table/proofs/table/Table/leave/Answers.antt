-- The limit is found for what the table shows.
use Rattle.std.proofs.Common.{IfOk, refl, subst, ◌∙◌}
use Rattle.lp_run.specs.Listing.{Judges}
use Rattle.plain_table.specs.Inner.Next.{DecidesAt, tested_at}
use Rattle.plain_table.specs.Plain.{Plain}
use Rattle.plain_table.proofs.Tables.{table_same}
use Rattle.plain_table.proofs.table.Table.leave.Goals as goal

pub returns-clause-decides : goal.returns-clause-decides
returns-clause-decides g c =
    let a = c.self.inside in
    let same = table_same a.state a.state _ a.rows.items _ a.values.items _ a.costs.items a.number refl c.deref.ensures.value c.deref-2.ensures.value c.deref-3.ensures.value ∙ c.self.view_is in
    subst (λ (t : Plain). IfOk c.decide.result (DecidesAt c.args.inst.now t c.args.q)) same c.decide.ensures.decides

pub returns-clause-answer : goal.returns-clause-answer
returns-clause-answer g c =
    let a = c.self.inside in
    let same = table_same a.state a.state _ a.rows.items _ a.values.items _ a.costs.items a.number refl c.deref.ensures.value c.deref-2.ensures.value c.deref-3.ensures.value ∙ c.self.view_is in
    subst (λ (t : Plain). Judges (g.A.Arith.width c.args.arith.now) (tested_at c.args.inst.now t c.args.q) c.decide.result) same c.decide.ensures.answer
