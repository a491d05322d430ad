use Rattle.std.proofs.Common.{◌≡◌, sym, subst}
use Rattle.lp_model.specs.Outcome.{optimal}
use Rattle.lp_text.specs.Report.{Report}
use Rattle.lp_main.proofs.making.summary.Goals as goal

pub objective_of-requires : goal.objective_of-requires
objective_of-requires c =
    let o = c.requires.optimum in
    (o.0, o.1, o.2, subst (λ (r : Report). r.outcome ≡ optimal o.0 o.1 o.2) (sym c.report.view_is) o.3)
