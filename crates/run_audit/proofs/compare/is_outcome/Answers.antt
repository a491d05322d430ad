-- Only an optimum has sums.
use Rattle.std.proofs.Common.{subst}
use Rattle.plain_table.specs.Next.{EndsBy, column, prices}
use Rattle.run_audit.proofs.Ending.{farkas_apart, no_totals, ray_apart}
use Rattle.deck_model.specs.Outcome.{outcome_of}
use Rattle.run_audit.proofs.compare.is_outcome.Goals as goal

pub returns-in_ok-is_farkas-in-Infeasible-clause-totals : goal.returns-in_ok-is_farkas-in-Infeasible-clause-totals
returns-in_ok-is_farkas-in-Infeasible-clause-totals g c =
    let inst = c.args.inst.now in
    let t = c.args.table.now in
    no_totals inst c.requires.table.0 t c.requires.table.1 (prices inst t) t.values t.number (g.A.Arith.width c.args.arith.now) (outcome_of c.args.outcome.now)
    (farkas_apart inst c.requires.table.0 t c.requires.table.1 (prices inst t) t.values (subst (EndsBy inst t) c.in-Infeasible.is c.requires.ends))

pub returns-in_ok-is_unbounded-in-Unbounded-clause-totals : goal.returns-in_ok-is_unbounded-in-Unbounded-clause-totals
returns-in_ok-is_unbounded-in-Unbounded-clause-totals g c =
    let inst = c.args.inst.now in
    let t = c.args.table.now in
    no_totals inst c.requires.table.0 t c.requires.table.1 (prices inst t) t.values t.number (g.A.Arith.width c.args.arith.now) (outcome_of c.args.outcome.now)
    (ray_apart inst c.requires.table.0 t c.requires.table.1 (prices inst t) t.values (column inst t c.in-Unbounded.q) c.in-Unbounded.q
    (subst (EndsBy inst t) c.in-Unbounded.is c.requires.ends))
