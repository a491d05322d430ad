use Rattle.std.proofs.Common.{◌≡◌, length}
use Rattle.cert_check.specs.Inner.Groups.{basic_by}
use Rattle.cert_check.specs.Walk.{each, first_stop}
use Rattle.cert_check.specs.declared.verdict.Rule.TheVariants as rule
use Rattle.cert_check.proofs.Walking.{item_by, left_items}
use Rattle.cert_check.proofs.bases.basics.Given as goal

-- what is left decides
abbrev pub invariant-loop-j : goal.invariant-loop-j
invariant-loop-j g l = record {
  width : g.A.Arith.width l.arith ≡ g.A.Arith.width l.fn.arith;
  left : first_stop (g.A.Arith.width l.fn.arith) (left_items (item_by rule.Basic (basic_by l.priced l.deck l.basic l.y)) l.j (length l.deck.columns))
      ≡ first_stop (g.A.Arith.width l.fn.arith) (each rule.Basic (basic_by l.priced l.deck l.basic l.y) (length l.deck.columns));
  unfit : g.A.Arith.unfit_count l.arith ≡ g.A.Arith.unfit_count l.fn.arith;
}
