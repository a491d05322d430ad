-- What is behind an entry in the list is an entry.
use Rattle.std.proofs.Common.{subst, sym, ◌∙◌}
use Rattle.cross_links.specs.Matrix.{Matrix, IsLink, row, row_of}
use Rattle.cross_links.specs.Held.{matrix_of}
use Rattle.cross_links.proofs.Entries.{behind_in}
use Rattle.cross_links.proofs.Cross.row_next.Goals as goal

pub returns-in-Some-clause-link : goal.returns-in-Some-clause-link
returns-in-Some-clause-link c =
    let l = c.in-Some.behind in
    let a = matrix_of c.self.inside.table in
    let h = c.self.invariant.held.matrix in
    let some : IsLink a c.args.link = subst (λ (x : Matrix). IsLink x c.args.link) (sym c.self.view_is) c.requires in
    let held = behind_in (row a (row_of a c.args.link)) c.args.link l (sym (c.next.ensures.next (row_of a c.args.link) (h.rows.held c.args.link some)) ∙ c.in-Some.is) in
    subst (λ (x : Matrix). IsLink x l) c.self.view_is (h.rows.only (row_of a c.args.link) l held).0
