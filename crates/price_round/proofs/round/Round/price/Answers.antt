-- A chunk has at most 64 columns, and a column at most m entries.
use Rattle.std.proofs.Common.{◌≡◌, ◌+◌, ◌-◌, ◌*◌, ◌≤◌, sym, ◌∙◌, subst, arith}
use Rattle.lp_run.specs.Instance.{IsWellFormed, column_count}
use Rattle.bland_ratio.specs.Entries.{entries_from}
use Rattle.bland_ratio.proofs.Counting.{work-few}
use Rattle.price_round.specs.Seats.{inst_of}
use Rattle.price_round.proofs.round.Round.price.Goals as goal

pub returns-clause-work : goal.returns-clause-work
returns-clause-work g c =
    let inst = inst_of c.args.self.now in
    let is = c.args.self.now.of_instance in
    let from = 64 * c.args.chunk in
    let to = c.min-to.result in
    let well_formed : IsWellFormed inst = subst IsWellFormed (c.deref.ensures ∙ sym is) c.rows-rows.ensures.well_formed in
    let columns : c.columns.result ≡ column_count inst = subst (λ inst. c.columns.result ≡ column_count inst) (c.deref-2.ensures ∙ sym is) c.columns.ensures.count in
    let work = subst (λ inst. g.A.Arith.work_count c.first_stopper.new.arith ≤ g.A.Arith.work_count c.args.arith.now + entries_from inst from (to - from)) (c.deref-3.ensures ∙ sym is)
    c.first_stopper.ensures.work in
    work-few inst well_formed from to 64 (g.A.Arith.work_count c.args.arith.now) (g.A.Arith.work_count c.first_stopper.new.arith)
    (omega (arith, c.min-to.ensures, columns, c.requires.chunk)) (omega (arith, c.min-to.ensures)) (omega (arith, c.min-to.ensures, columns)) work
