-- Each step looks at the next column.
use Rattle.std.proofs.Common.{◌<◌, ◌||◌, Bool, Some, length, sym, ◌∙◌, ap, arith}
use Rattle.lp_model.specs.Deck.{column}
use Rattle.rational.specs.Rational.{ℚ}
use Rattle.rational.proofs.Settling.{settle-done}
use Rattle.sparse_steps.proofs.Steps.{item_read}
use Rattle.cert_check.specs.declared.verdict.Rule.TheVariants as rule
use Rattle.cert_check.specs.declared.verdict.Stop.TheVariants.{Broken}
use Rattle.cert_check.specs.Inner.Groups.{is_marked, rest_by}
use Rattle.cert_check.specs.Items.{is_at_rest}
use Rattle.cert_check.specs.Walk.{stop_by}
use Rattle.cert_check.proofs.Walking.{item-passes, item-stops, item_by}
use Rattle.cert_check.proofs.bases.rests.Goals as goal

pub returns-then-not-stands-clause-first : goal.returns-then-not-stands-clause-first
returns-then-not-stands-clause-first c = λ w.
    let d = c.args.deck.now in
    let j = c.loop-j.j in
    let lt : j < length d.columns = omega (arith, c.columns-j-end.ensures.count) in
    let item = item_read c.args.x.now j c.index-x-j.result (omega (arith, lt, c.requires.given)) c.index-x-j.is in
    let is = ap (λ (v : ℚ). is_marked c.args.basic.now j || is_at_rest (column d j).bounds (is_marked c.args.upper.now j) v) (sym item) ∙ sym c.stands.ensures ∙ c.if-not-stands.true in
    item-stops (item_by rule.Rest (rest_by d c.args.basic.now c.args.upper.now c.args.x.now)) j (length d.columns) w lt _ (c.loop-j.invariant w) (Broken (rule.Rest j))
    (ap (stop_by (rule.Rest j)) (settle-done w _) ∙ ap (λ (b : Bool). stop_by (rule.Rest j) (Some b)) is)

pub loop-j-preserved : goal.loop-j-preserved
loop-j-preserved c = λ w.
    let d = c.args.deck.now in
    let j = c.loop-j.j in
    let lt : j < length d.columns = omega (arith, c.columns-j-end.ensures.count) in
    let item = item_read c.args.x.now j c.index-x-j.result (omega (arith, lt, c.requires.given)) c.index-x-j.is in
    let is = ap (λ (v : ℚ). is_marked c.args.basic.now j || is_at_rest (column d j).bounds (is_marked c.args.upper.now j) v) (sym item) ∙ sym c.stands.ensures ∙ c.if-not-stands.false in
    item-passes (item_by rule.Rest (rest_by d c.args.basic.now c.args.upper.now c.args.x.now)) j (length d.columns) w lt _ (c.loop-j.invariant w)
    (ap (stop_by (rule.Rest j)) (settle-done w _) ∙ ap (λ (b : Bool). stop_by (rule.Rest j) (Some b)) is)
