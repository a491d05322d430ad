use Rattle.std.proofs.Common.{◌≡◌, map, take}
use Rattle.basis_solves.specs.Bases.{sparse_column}
use Rattle.basis_solves.proofs.factoring.basis_columns.Given as goal

abbrev pub invariant-loop-q : goal.invariant-loop-q
invariant-loop-q l = l.columns.items ≡ map (sparse_column l.inst) (take l.q-index l.basis)
