use Rattle.std.proofs.Common.{◌≡◌, ◌<◌, ◌≤◌, ℕ, None, get_or, length}
use Rattle.rational.specs.Sum.{at}
use Rattle.ranging.specs.Inner.Found.{RisesFor, TakesMove}
use Rattle.ranging.proofs.value.take_moves.Given as goal

-- the rows below i are taken in, the others are as they were
abbrev pub invariant-loop-i : goal.invariant-loop-i
invariant-loop-i g l = record {
  width : g.A.Arith.width l.arith ≡ g.A.Arith.width l.fn.arith;
  unfit : g.A.Arith.unfit_count l.fn.arith ≤ g.A.Arith.unfit_count l.arith;
  length : length l.rights ≡ length l.fn.rights;
  taken : (i : ℕ) → i < l.i → TakesMove (g.A.Arith.width l.fn.arith) l.bounds l.value (at l.rates i) (get_or l.fn.rights i None) (get_or l.rights i None);
  later : (i : ℕ) → l.i ≤ i → get_or l.rights i None ≡ get_or l.fn.rights i None;
  rose : RisesFor (g.A.Arith.unfit_count l.fn.arith) (g.A.Arith.unfit_count l.arith) l.fn.rights l.rights;
}
