-- What is in the list is an entry.
use Rattle.std.proofs.Common.{subst, sym, ◌∙◌}
use Rattle.count_chain.specs.Chains.{list_at}
use Rattle.cross_links.specs.Matrix.{Matrix, IsLink}
use Rattle.cross_links.proofs.Entries.{first_link}
use Rattle.cross_links.proofs.Cross.col_first.Goals as goal

pub returns-in-Some-clause-link : goal.returns-in-Some-clause-link
returns-in-Some-clause-link c =
    let l = c.in-Some.link in
    let lines = c.self.inside.table.cols.lines in
    let held = first_link (list_at lines c.args.c) l (sym c.first.ensures.first ∙ c.in-Some.is) in
    subst (λ (a : Matrix). IsLink a l) c.self.view_is (c.self.invariant.held.matrix.cols.only c.args.c l held).0
