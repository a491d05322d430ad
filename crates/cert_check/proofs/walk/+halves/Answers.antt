-- The answer of two halves is the first one's where that is stopped, and else the second one's.
use Rattle.std.proofs.Common.{◌+◌, ◌-◌, ◌/◌, arith}
use Rattle.cert_check.specs.Inner.Groups.{item_of}
use Rattle.cert_check.proofs.Halves.{first_half, second_half}
use Rattle.cert_check.proofs.Walking.{handed_on}
use Rattle.cert_check.proofs.walk.+halves.Goals as goal

pub look_all-returns-clause-first : goal.look_all-returns-clause-first
look_all-returns-clause-first g t c =
    let a = c.args in
    let k = a.claim.now in
    second_half (item_of k.group k.deck.now k.x.now k.y.now) a.from (a.from + (a.to - a.from) / 2) a.to (omega arith) (omega (arith, c.requires.ordered)) _ _
    c.look_halves-first.result.0 c.look_halves-first.result.1 c.fresh-own.ensures.same_width c.in_ok-first.was c.look_halves-first.ensures.low.first
    c.look_halves-first.ensures.high.first

pub look_all-returns-in_err-first-clause-first : goal.look_all-returns-in_err-first-clause-first
look_all-returns-in_err-first-clause-first g t c =
    let a = c.args in
    let k = a.claim.now in
    handed_on _ c.from_residual.result c.in_err-first.field-0.0
    (first_half (item_of k.group k.deck.now k.x.now k.y.now) a.from (a.from + (a.to - a.from) / 2) a.to (omega arith) (omega (arith, c.requires.ordered)) _
    c.look_halves-first.result.0 c.in_err-first.field-0.0 c.in_err-first.was c.look_halves-first.ensures.low.first) c.from_residual.ensures.1
