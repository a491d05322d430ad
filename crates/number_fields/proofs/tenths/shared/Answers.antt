use Rattle.number_fields.proofs.TenthLemmas.{shared_ten, shared_five, shared_two, shared_one}
use Rattle.number_fields.proofs.tenths.shared.Goals as goal

pub returns-then-last-eq0 : goal.returns-then-last-eq0
returns-then-last-eq0 c = shared_ten c.args.number c.if-last-eq0.true

pub returns-then-last-eq5 : goal.returns-then-last-eq5
returns-then-last-eq5 c = shared_five c.args.number c.if-last-eq5.true

pub returns-then-last-eq0-2 : goal.returns-then-last-eq0-2
returns-then-last-eq0-2 c = shared_two c.args.number c.if-last-eq0.false c.if-last-eq5.false c.if-last-eq0-2.true

pub returns-else-last-eq0-2 : goal.returns-else-last-eq0-2
returns-else-last-eq0-2 c = shared_one c.args.number c.if-last-eq0.false c.if-last-eq5.false c.if-last-eq0-2.false
