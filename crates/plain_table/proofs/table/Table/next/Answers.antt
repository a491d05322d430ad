-- The limit that decides the step of the least eligible column says what comes next.
use Rattle.std.proofs.Common.{subst, sym}
use Rattle.bland_ratio.specs.declared.ratio_test.Leave.TheVariants as leave
use Rattle.lp_run.specs.Listing.{AllFit}
use Rattle.plain_table.specs.Inner.Next.{DecidesAt, tested_at}
use Rattle.plain_table.specs.Next.{OverflowsNext}
use Rattle.plain_table.proofs.Coming.{comes_next, handed_on, judged_on, nothing_tested, one_test, overflows_next}
use Rattle.plain_table.proofs.table.Table.next.Goals as goal

pub returns-in_err-leave-clause-overflow : goal.returns-in_err-leave-clause-overflow
returns-in_err-leave-clause-overflow g c =
    let w = g.A.Arith.width c.args.arith.now in
    let inst = c.args.inst.now in
    let t = c.args.self.now in
    handed_on _ (OverflowsNext w inst t) c.from_residual.ensures.1 (overflows_next inst c.requires.0 t c.requires.1 c.in-Some.q c.in-Some.ensures w _ c.in_err-leave.ensures.answer)

pub returns-in-Flip-clause-next : goal.returns-in-Flip-clause-next
returns-in-Flip-clause-next g c =
    let inst = c.args.inst.now in
    let t = c.args.self.now in
    comes_next inst c.requires.0 t c.requires.1 c.in-Some.q c.in-Some.ensures (leave.Flip c.in-Flip.field-0) (subst (DecidesAt inst t c.in-Some.q) c.in-Flip.is c.in_ok-leave.ensures.decides)

pub returns-in-Out-clause-next : goal.returns-in-Out-clause-next
returns-in-Out-clause-next g c =
    let inst = c.args.inst.now in
    let t = c.args.self.now in
    comes_next inst c.requires.0 t c.requires.1 c.in-Some.q c.in-Some.ensures (leave.Out c.in-Out.position c.in-Out.end c.in-Out.field-2)
    (subst (DecidesAt inst t c.in-Some.q) c.in-Out.is c.in_ok-leave.ensures.decides)

pub returns-in-Free-clause-next : goal.returns-in-Free-clause-next
returns-in-Free-clause-next g c =
    let inst = c.args.inst.now in
    let t = c.args.self.now in
    comes_next inst c.requires.0 t c.requires.1 c.in-Some.q c.in-Some.ensures leave.Free (subst (DecidesAt inst t c.in-Some.q) c.in-Free.is c.in_ok-leave.ensures.decides)

pub returns-in_err-leave-clause-tested : goal.returns-in_err-leave-clause-tested
returns-in_err-leave-clause-tested g c = λ vs lists.
    let inst = c.args.inst.now in
    let t = c.args.self.now in
    judged_on _ (g.A.Arith.width c.args.arith.now) vs (tested_at inst t c.in-Some.q) (one_test inst c.requires.0 t c.requires.1 c.in-Some.q c.in-Some.ensures vs lists)
    c.from_residual.ensures.1 c.in_err-leave.ensures.answer

pub returns-in-Flip-clause-tested : goal.returns-in-Flip-clause-tested
returns-in-Flip-clause-tested g c = λ vs lists.
    let inst = c.args.inst.now in
    let t = c.args.self.now in
    subst (AllFit (g.A.Arith.width c.args.arith.now)) (sym (one_test inst c.requires.0 t c.requires.1 c.in-Some.q c.in-Some.ensures vs lists)) c.in_ok-leave.ensures.answer

pub returns-in-Out-clause-tested : goal.returns-in-Out-clause-tested
returns-in-Out-clause-tested g c = λ vs lists.
    let inst = c.args.inst.now in
    let t = c.args.self.now in
    subst (AllFit (g.A.Arith.width c.args.arith.now)) (sym (one_test inst c.requires.0 t c.requires.1 c.in-Some.q c.in-Some.ensures vs lists)) c.in_ok-leave.ensures.answer

pub returns-in-Free-clause-tested : goal.returns-in-Free-clause-tested
returns-in-Free-clause-tested g c = λ vs lists.
    let inst = c.args.inst.now in
    let t = c.args.self.now in
    subst (AllFit (g.A.Arith.width c.args.arith.now)) (sym (one_test inst c.requires.0 t c.requires.1 c.in-Some.q c.in-Some.ensures vs lists)) c.in_ok-leave.ensures.answer

pub returns-in_default-clause-tested : goal.returns-in_default-clause-tested
returns-in_default-clause-tested g c = nothing_tested c.args.inst.now c.requires.0 c.args.self.now c.requires.1 (g.A.Arith.width c.args.arith.now) c.in_default.ensures
