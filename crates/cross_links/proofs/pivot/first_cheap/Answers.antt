-- The row is the first with an entry of cost 0, and the entry the first of them in it.
use Rattle.std.proofs.Common.{sym, ◌∙◌}
use Rattle.cross_links.specs.Held.{matrix_of}
use Rattle.cross_links.proofs.Firsts.{single_link, single_least, lone_link, lone_least}
use Rattle.cross_links.proofs.pivot.first_cheap.Goals as goal

pub returns-then-is_single-clause-link : goal.returns-then-is_single-clause-link
returns-then-is_single-clause-link c =
    single_link (matrix_of c.args.table.now) c.requires.held.matrix c.args.cheap.now c.requires.cheap c.in_ok-r.r c.in_ok-r.ensures c.first.result c.first.ensures.first

pub returns-then-is_single-clause-covers : goal.returns-then-is_single-clause-covers
returns-then-is_single-clause-covers c =
    single_least (matrix_of c.args.table.now) c.requires.held.matrix c.args.cheap.now c.requires.cheap c.in_ok-r.r c.in_ok-r.ensures c.first.result
    (sym c.is_single.ensures ∙ c.if-is_single.true) c.first.ensures.first

pub returns-clause-link : goal.returns-clause-link
returns-clause-link c =
    lone_link (matrix_of c.args.table.now) c.requires.held.matrix c.args.cheap.now c.requires.cheap c.in_ok-r.r c.in_ok-r.ensures c.in_ok-c.c
    (sym c.is_single.ensures ∙ c.if-is_single.false) c.in_ok-c.ensures c.first-2.result c.first-2.ensures.first

pub returns-clause-covers : goal.returns-clause-covers
returns-clause-covers c =
    lone_least (matrix_of c.args.table.now) c.requires.held.matrix c.args.cheap.now c.requires.cheap c.in_ok-r.r c.in_ok-r.ensures c.in_ok-c.c
    (sym c.is_single.ensures ∙ c.if-is_single.false) c.in_ok-c.ensures c.first-2.result c.first-2.ensures.first
