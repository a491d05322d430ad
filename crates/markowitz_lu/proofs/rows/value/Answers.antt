-- An entry's value is that of its row and column, and where there is none it is 0.
use Rattle.std.proofs.Common.{◌≡◌, ℕ, Some, sym, ap, subst, ◌∙◌, arith}
use Rattle.exact_frac.specs.Constants.{constants}
use Rattle.rational.specs.Rational.{zero_ℚ}
use Rattle.cross_links.specs.Matrix.{Matrix, Entry, IsMatrix, row_in, col_in, entry_at}
use Rattle.cross_links.specs.Cells.{cell}
use Rattle.cross_links.proofs.Cells.{cell-is, cell-none}
use Rattle.markowitz_lu.specs.Inner.Links.{IsLinkAt}
use Rattle.markowitz_lu.proofs.rows.value.Goals as goal

linked : (a : Matrix) → IsMatrix a → (l i p : ℕ) (e : Entry) → entry_at a l ≡ Some e → IsLinkAt a i p (Some l) → e.2 ≡ cell a i p
linked a h l i p e is at =
    sym (cell-is a h l e is) ∙ ap (λ n. cell a n e.1) (sym (ap row_in is) ∙ at.1) ∙ ap (cell a i) (sym (ap col_in is) ∙ at.2)

pub returns-in-Some : goal.returns-in-Some
returns-in-Some c i p at =
    let a = c.args.cross.now in
    linked a c.requires.matrix c.in-Some.link i p c.entry.result c.entry.ensures.entry (subst (IsLinkAt a i p) c.in-Some.is at)

pub returns-in-None : goal.returns-in-None
returns-in-None c i p at =
    let a = c.args.cross.now in
    let none : cell a i p ≡ zero_ℚ = cell-none a c.requires.matrix i p (subst (IsLinkAt a i p) c.in-None.is at) in
    grind (arith, constants, none)
