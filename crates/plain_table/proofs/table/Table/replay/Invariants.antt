use Rattle.std.proofs.Common.{◌≡◌, take}
use Rattle.table_laws.specs.Fitted.{HasFitted}
use Rattle.plain_table.specs.Plain.{Stands}
use Rattle.plain_table.proofs.table.Table.replay.Given as goal

abbrev pub invariant-loop-k : goal.invariant-loop-k
invariant-loop-k g l = record {
  width : g.A.Arith.width l.arith ≡ g.A.Arith.width l.fn.arith;
  unfit : g.A.Arith.unfit_count l.arith ≡ g.A.Arith.unfit_count l.fn.arith;
  stands : Stands l.inst (take l.k l.log) l.table;
  fitted : HasFitted (g.A.Arith.width l.fn.arith) l.inst (take l.k l.log);
}
