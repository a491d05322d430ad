use Rattle.std.proofs.Common.{◌≡◌, ◌∙◌, Some, arith, sym, subst}
use Rattle.std.specs.Prelude.{All}
use Rattle.std.proofs.lemmas.List.Elements.{All-pop, All-push}
use Rattle.crew.specs.Inner.Seating.{IsDone}
use Rattle.crew.proofs.Calms.{nothing_raised}
use Rattle.crew.proofs.pricing.gather.Goals as goal

pub loop-seat-preserved : goal.loop-seat-preserved
loop-seat-preserved g c =
    let (count, done, width, unfit, fit) = c.loop-seat.invariant in
    let items = c.in-Some.ensures.items in
    let cases = c.in-Some.ensures.cases in
    let len = c.in_ok-push.ensures.len in
    let absorbed = c.absorb.ensures in (
      omega arith,
      λ round all.
          let (before, left) = done round all in
          let (rest, one) = All-pop (λ hand. IsDone round hand.seat) _ _ (Some c.in-Some.field-0) items left in
          (subst (All (IsDone round)) (sym c.in_ok-push.ensures.items) (All-push (IsDone round) _ _ before one), rest),
      absorbed.same_width ∙ width,
      omega (arith, unfit, absorbed.unfit),
      λ all.
          let (left, same) = fit all in
          let (rest, none) = All-pop (λ hand. g.A.Arith.unfit_count hand.arith ≡ 0) _ _ (Some c.in-Some.field-0) items left in
          (rest, absorbed.unfit ∙ nothing_raised _ _ none ∙ same),
    )

pub returns-in_err-push-clause-fit : goal.returns-in_err-push-clause-fit
returns-in_err-push-clause-fit g c all =
    let (count, done, width, unfit, fit) = c.loop-seat.invariant in
    let (left, same) = fit all in
    let (rest, none) = All-pop (λ hand. g.A.Arith.unfit_count hand.arith ≡ 0) _ _ (Some c.in-Some.field-0) c.in-Some.ensures.items left in
    c.absorb.ensures.unfit ∙ nothing_raised _ _ none ∙ same

pub returns-clause-done : goal.returns-clause-done
returns-clause-done g c round all = (c.loop-seat.invariant.1 round all).0
