-- Each step adds the multiplier of the next position behind.
use Rattle.std.proofs.Common.{◌≡◌, ℕ, ◌<◌, ◌++◌, true, List, [], length, set, length-set, Option, sym, subst, ap, ◌∙◌, refl, arith}
use Rattle.std.specs.Option.{IfSome}
use Rattle.chain_links.specs.Lists.{rest, after}
use Rattle.rational.specs.Rational.{ℚ}
use Rattle.rational.specs.Worked.{settle}
use Rattle.rational.proofs.Loops.{step_settles, step_stops, all_worked}
use Rattle.factor_model.specs.Upper.{row_of}
use Rattle.factor_model.specs.Vectors.{stored_pair}
use Rattle.factor_model.specs.Update.{behind, multiplier, multipliers}
use Rattle.factor_model.proofs.UpperShape.{order_length}
use Rattle.sparse_steps.proofs.Steps.{refused}
use Rattle.upper_form.proofs.Walk.{walk_on, within, nothing_left}
use Rattle.upper_form.specs.Flags.{is_flagged}
use Rattle.ft_update.specs.Inner.Flagged.{AreFlagged}
use Rattle.ft_update.proofs.Flagging.{here}
use Rattle.ft_update.proofs.Steps.{rest-behind, fewer-behind, next_parts, next_shorter, one_more, all_but_one}
use Rattle.ft_update.proofs.multipliers.multipliers.Goals as goal

pub after-next-requires : goal.after-next-requires
after-next-requires g c =
    let u = c.args.upper.now in
    omega (arith, order_length (length u.rows) u c.requires.upper, ap length c.order.ensures, c.requires.position)

pub loop-next-init : goal.loop-next-init
loop-next-init g c =
    let u = c.args.upper.now in
    let n = length u.rows in
    let p = c.args.p in
    let next = c.after-next.result in
    let is_after : next ≡ after p u.order = c.after-next.ensures.after ∙ ap (after p) c.order.ensures in
    let left : rest next u.order ≡ behind p u.order = rest-behind n u c.requires.upper p c.requires.position next is_after in
    let short = fewer-behind n u c.requires.upper p c.requires.position in
    let few : length (rest next u.order) < n = omega (arith, short, ap length left) in
    let none : length c.args.taken.now.items ≡ 0 = ap length c.requires.none in
    let row = c.row_of-row.result in
    record {
      position = within next _ _ (ap length c.order.ensures ∙ order_length n u c.requires.upper) c.after-next.ensures.position;
      width = refl;
      left =
          ap (λ (ks : List (ℕ × ℚ)). settle (g.A.Arith.width c.args.arith.now) (multipliers u (row_of u p) ks (rest next u.order))) c.requires.none
          ∙ ap (λ (ps : List ℕ). settle (g.A.Arith.width c.args.arith.now) (multipliers u (row_of u p) [] ps)) left;
      flags = length-set c.args.flags.now row true ∙ c.requires.length;
      here = subst (λ (i : ℕ). is_flagged (set c.args.flags.now row true) i ≡ true) c.row_of-row.ensures.value
          (here c.args.flags.now row (omega (arith, c.row_of-row.ensures.within, c.requires.length)));
      flagged = subst (AreFlagged _) (sym c.requires.none) tt;
      fewer = omega (arith, none, few);
      capacity = refl;
      unfit = refl;
      work = omega (arith, all_but_one n (length (rest next u.order)) few);
    }

pub after-next-requires-in-Some : goal.after-next-requires-in-Some
after-next-requires-in-Some g c =
    let u = c.args.upper.now in
    let s_lt : c.in-Some.s < length u.rows = subst (λ (o : Option ℕ). IfSome o (λ q. q < length u.rows)) c.in-Some.is c.loop-next.invariant.position in
    omega (arith, order_length (length u.rows) u c.requires.upper, ap length c.order-in-Some.ensures, s_lt)

pub returns-in_err-add_multiplier-clause-settled : goal.returns-in_err-add_multiplier-clause-settled
returns-in_err-add_multiplier-clause-settled g c =
    let u = c.args.upper.now in
    let n = length u.rows in
    let s = c.in-Some.s in
    let r = row_of u c.args.p in
    let next = c.after-next-in-Some.result in
    let ks = c.loop-next.taken.items in
    let s_lt : s < n = subst (λ (o : Option ℕ). IfSome o (λ q. q < n)) c.in-Some.is c.loop-next.invariant.position in
    let on = walk_on n u c.requires.upper s s_lt next (c.after-next-in-Some.ensures.after ∙ ap (after s) c.order-in-Some.ensures) in
    let parts = next_parts u r ks c.loop-next.next s u.order next c.in-Some.is on in
    let stops = ap (λ (row : ℕ). settle (g.A.Arith.width c.loop-next.arith) (multiplier u row ks s)) (sym c.row_of-row.ensures.value) ∙ c.in_err-add_multiplier.ensures.settled in
    refused _ _ _ (λ _. c.add_multiplier.new.taken.items) (step_stops _ _ c.loop-next.invariant.width (multiplier u r ks s)
    (λ k. multipliers u r (ks ++ stored_pair (row_of u s) k) (rest next u.order)) _ parts _ c.loop-next.invariant.left stops) c.from_residual.ensures.1

pub returns-in_err-add_multiplier-clause-work : goal.returns-in_err-add_multiplier-clause-work
returns-in_err-add_multiplier-clause-work g c =
    let u = c.args.upper.now in
    let n = length u.rows in
    let s = c.in-Some.s in
    let next = c.after-next-in-Some.result in
    let s_lt : s < n = subst (λ (o : Option ℕ). IfSome o (λ q. q < n)) c.in-Some.is c.loop-next.invariant.position in
    let on = walk_on n u c.requires.upper s s_lt next (c.after-next-in-Some.ensures.after ∙ ap (after s) c.order-in-Some.ensures) in
    let shorter = next_shorter u (row_of u c.args.p) c.loop-next.taken.items c.loop-next.next s u.order next c.in-Some.is on in
    omega (arith, one_more n _ _ shorter, shorter, c.loop-next.invariant.work, c.loop-next.invariant.fewer, c.in_err-add_multiplier.ensures.work)

pub returns-in_err-add_multiplier-clause-fewer : goal.returns-in_err-add_multiplier-clause-fewer
returns-in_err-add_multiplier-clause-fewer g c =
    let u = c.args.upper.now in
    let n = length u.rows in
    let s = c.in-Some.s in
    let next = c.after-next-in-Some.result in
    let s_lt : s < n = subst (λ (o : Option ℕ). IfSome o (λ q. q < n)) c.in-Some.is c.loop-next.invariant.position in
    let on = walk_on n u c.requires.upper s s_lt next (c.after-next-in-Some.ensures.after ∙ ap (after s) c.order-in-Some.ensures) in
    let shorter = next_shorter u (row_of u c.args.p) c.loop-next.taken.items c.loop-next.next s u.order next c.in-Some.is on in
    omega (arith, shorter, c.loop-next.invariant.fewer, c.add_multiplier.ensures.fewer)

pub loop-next-smaller : goal.loop-next-smaller
loop-next-smaller g c =
    let u = c.args.upper.now in
    let n = length u.rows in
    let s = c.in-Some.s in
    let next = c.after-next-in-Some.result in
    let s_lt : s < n = subst (λ (o : Option ℕ). IfSome o (λ q. q < n)) c.in-Some.is c.loop-next.invariant.position in
    let on = walk_on n u c.requires.upper s s_lt next (c.after-next-in-Some.ensures.after ∙ ap (after s) c.order-in-Some.ensures) in
    omega (arith, next_shorter u (row_of u c.args.p) c.loop-next.taken.items c.loop-next.next s u.order next c.in-Some.is on)

pub add_multiplier-requires-clause-space : goal.add_multiplier-requires-clause-space
add_multiplier-requires-clause-space g c =
    let u = c.args.upper.now in
    let n = length u.rows in
    omega (arith, c.loop-next.invariant.fewer, c.loop-next.invariant.capacity, c.requires.room)

pub loop-next-preserved : goal.loop-next-preserved
loop-next-preserved g c =
    let u = c.args.upper.now in
    let n = length u.rows in
    let s = c.in-Some.s in
    let r = row_of u c.args.p in
    let next = c.after-next-in-Some.result in
    let ks = c.loop-next.taken.items in
    let added = c.in_ok-add_multiplier.ensures.settled in
    let k = added.0 in
    let s_lt : s < n = subst (λ (o : Option ℕ). IfSome o (λ q. q < n)) c.in-Some.is c.loop-next.invariant.position in
    let on = walk_on n u c.requires.upper s s_lt next (c.after-next-in-Some.ensures.after ∙ ap (after s) c.order-in-Some.ensures) in
    let parts = next_parts u r ks c.loop-next.next s u.order next c.in-Some.is on in
    let shorter = next_shorter u r ks c.loop-next.next s u.order next c.in-Some.is on in
    let settles = ap (λ (row : ℕ). settle (g.A.Arith.width c.loop-next.arith) (multiplier u row ks s)) (sym c.row_of-row.ensures.value) ∙ added.1 in
    let kept : c.add_multiplier.new.taken.items ≡ ks ++ stored_pair (row_of u s) k = added.2 in
    record {
      position = within next _ _ (ap length c.order-in-Some.ensures ∙ order_length n u c.requires.upper) c.after-next-in-Some.ensures.position;
      width = c.in_ok-add_multiplier.ensures.width ∙ c.loop-next.invariant.width;
      left =
          ap (λ (xs : List (ℕ × ℚ)). settle (g.A.Arith.width c.args.arith.now) (multipliers u r xs (rest next u.order))) kept
          ∙ step_settles _ _ c.loop-next.invariant.width (multiplier u r ks s) (λ a. multipliers u r (ks ++ stored_pair (row_of u s) a) (rest next u.order)) _
          parts _ c.loop-next.invariant.left _ settles;
      flags = c.add_multiplier.auto.flags ∙ c.loop-next.invariant.flags;
      here = c.add_multiplier.ensures.still _ c.loop-next.invariant.here;
      flagged = c.add_multiplier.ensures.flagged;
      fewer = omega (arith, c.add_multiplier.ensures.fewer, shorter, c.loop-next.invariant.fewer);
      capacity = c.add_multiplier.ensures.room ∙ c.loop-next.invariant.capacity;
      unfit = c.in_ok-add_multiplier.ensures.unfit ∙ c.loop-next.invariant.unfit;
      work = omega (arith, one_more n _ _ shorter, shorter, c.loop-next.invariant.work, c.loop-next.invariant.fewer, c.in_ok-add_multiplier.ensures.work);
    }

pub returns-clause-settled : goal.returns-clause-settled
returns-clause-settled g c =
    let u = c.args.upper.now in
    all_worked _ _ _ _ (ap (multipliers u (row_of u c.args.p) c.loop-next.taken.items) (nothing_left c.loop-next.next u.order c.in_default.not-Some)) c.loop-next.invariant.left
