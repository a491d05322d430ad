use Rattle.std.proofs.Common.{ap, ◌∙◌, arith}
use Rattle.rational.specs.Sum.{at}
use Rattle.sparse_steps.proofs.Steps.{item_read, refused}
use Rattle.upper_form.proofs.Steps.{placed, nothing_placed, not_placed}
use Rattle.upper_form.proofs.Upper.solve_position.Goals as goal

pub returns-clause-settled : goal.returns-clause-settled
returns-clause-settled g c =
    let u = c.args.self.now in
    let v = c.args.v.now in
    let row = c.row_of-row.result in
    let item = item_read v row c.index-v-row.result (omega (arith, c.row_of-row.ensures.within, c.requires.length)) c.index-v-row.is ∙ ap (λ r. at v r) c.row_of-row.ensures.value in
    placed _ u v c.args.p c.index-v-row.result item c.diagonal.result c.diagonal.ensures.value _ c.in_ok-x.x c.place.result c.place.new.v c.div.ensures.same_width
    c.in_ok-x.ensures.answer c.place.ensures.settled

pub returns-in_err-x-clause-settled : goal.returns-in_err-x-clause-settled
returns-in_err-x-clause-settled g c =
    let u = c.args.self.now in
    let v = c.args.v.now in
    let row = c.row_of-row.result in
    let item = item_read v row c.index-v-row.result (omega (arith, c.row_of-row.ensures.within, c.requires.length)) c.index-v-row.is ∙ ap (λ r. at v r) c.row_of-row.ensures.value in
    refused _ _ _ (λ _. _) (not_placed _ u v c.args.p c.index-v-row.result item c.diagonal.result c.diagonal.ensures.value c.in_err-x.ensures.answer) c.from_residual.ensures.1

pub returns-then-is_zero-clause-settled : goal.returns-then-is_zero-clause-settled
returns-then-is_zero-clause-settled g c =
    let u = c.args.self.now in
    let v = c.args.v.now in
    let row = c.row_of-row.result in
    let item = item_read v row c.index-v-row.result (omega (arith, c.row_of-row.ensures.within, c.requires.length)) c.index-v-row.is ∙ ap (λ r. at v r) c.row_of-row.ensures.value in
    let wide = ((g.met.A.Arith g.world.𝓛 g.world.𝓜 g.world.𝓡 ((λ s x. x), (λ x. x), (λ x. x), λ x. x)).width_in_range c.args.arith.now).0 in
    nothing_placed _ u v c.args.p c.index-v-row.result item wide (c.is_zero.ensures.0 c.if-is_zero.true)
