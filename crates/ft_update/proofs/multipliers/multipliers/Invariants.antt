use Rattle.std.proofs.Common.{◌≡◌, true, ◌+◌, ◌*◌, ◌<◌, ◌≤◌, [], length}
use Rattle.std.specs.Prelude.{vec_capacity}
use Rattle.std.specs.Option.{IfSome}
use Rattle.chain_links.specs.Lists.{rest}
use Rattle.rational.specs.Worked.{settle}
use Rattle.factor_model.specs.Upper.{row_of}
use Rattle.factor_model.specs.Update.{behind, multipliers}
use Rattle.upper_form.specs.Flags.{is_flagged}
use Rattle.ft_update.specs.Inner.Flagged.{AreFlagged}
use Rattle.ft_update.proofs.multipliers.multipliers.Given as goal

-- what is left of the positions settles as all of them
abbrev pub invariant-loop-next : goal.invariant-loop-next
invariant-loop-next g l = record {
  position : IfSome l.next (λ q. q < length l.upper.rows);
  width : g.A.Arith.width l.arith ≡ g.A.Arith.width l.fn.arith;
  left : settle (g.A.Arith.width l.fn.arith) (multipliers l.upper (row_of l.upper l.fn.p) l.taken.items (rest l.next l.upper.order))
      ≡ settle (g.A.Arith.width l.fn.arith) (multipliers l.upper (row_of l.upper l.fn.p) [] (behind l.fn.p l.upper.order));
  flags : length l.flags ≡ length l.upper.rows;
  here : is_flagged l.flags (row_of l.upper l.fn.p) ≡ true;
  flagged : AreFlagged l.flags l.taken.items;
  fewer : length l.taken.items + length (rest l.next l.upper.order) < length l.upper.rows;
  capacity : vec_capacity l.taken ≡ vec_capacity l.fn.taken;
  unfit : g.A.Arith.unfit_count l.arith ≡ g.A.Arith.unfit_count l.fn.arith;
  work : g.A.Arith.work_count l.arith + length l.upper.rows * length (rest l.next l.upper.order) + length l.upper.rows
      ≤ g.A.Arith.work_count l.fn.arith + length l.upper.rows * length l.upper.rows;
}

abbrev pub decreases-loop-next : goal.decreases-loop-next
decreases-loop-next g l = length (rest l.next l.upper.order)
