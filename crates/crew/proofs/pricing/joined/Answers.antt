use Rattle.crew.proofs.pricing.joined.Goals as goal

pub returns-clause-done : goal.returns-clause-done
returns-clause-done g c =
    let hands = c.in_ok-hands.ensures in
    c.gather.ensures.done c.args.round.now (λ k d less. record { round_is = hands.round k d less; free = hands.free k d less; over = hands.over k d less })

pub returns-clause-fit : goal.returns-clause-fit
returns-clause-fit g c fits = c.gather.ensures.fit (λ k d less. c.in_ok-hands.ensures.fit k d less fits)
