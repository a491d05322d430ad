use Rattle.std.proofs.Common.{◌≡◌, ◌+◌, ◌<◌, ◌≤◌, length}
use Rattle.std.specs.Option.{IfSome}
use Rattle.chain_links.specs.Lists.{rest}
use Rattle.rational.specs.Worked.{settle}
use Rattle.factor_model.specs.Upper.{solve_back, solve_positions, solve_work}
use Rattle.upper_form.proofs.Upper.solve_back.Given as goal

-- what is left of the positions settles as all of them
abbrev pub invariant-loop-next : goal.invariant-loop-next
invariant-loop-next g l = record {
  position : IfSome l.next (λ p. p < length l.self.rows);
  width : g.A.Arith.width l.arith ≡ g.A.Arith.width l.fn.arith;
  length : length l.out ≡ length l.fn.out;
  left : settle (g.A.Arith.width l.fn.arith) (solve_positions l.self l.c l.out (rest l.next l.self.order)) ≡ settle (g.A.Arith.width l.fn.arith) (solve_back l.self l.c);
  unfit : g.A.Arith.unfit_count l.arith ≡ g.A.Arith.unfit_count l.fn.arith;
  work : g.A.Arith.work_count l.arith + solve_work l.self (rest l.next l.self.order) ≤ g.A.Arith.work_count l.fn.arith + solve_work l.self l.self.order;
}

abbrev pub decreases-loop-next : goal.decreases-loop-next
decreases-loop-next g l = length (rest l.next l.self.order)
