-- What all seats of a round know together.
use Rattle.std.proofs.Common.{◌≡◌, ℕ, ◌+◌, ◌≤◌, Bool, List, [], ◌∷◌, ◌++◌, map, cond, sym, ap, ◌∙◌, arith, subst}
use Rattle.std.specs.Prelude.{All}
use Rattle.std.specs.List.{sum_by, count_by}
use Rattle.std.proofs.lemmas.List.{map-append}
use Rattle.std.proofs.lemmas.List.Elements.{All-push}
use Rattle.std.proofs.lemmas.List.Sums.{sum_by_push}
use Rattle.counting.specs.Counting.{times}
use Rattle.counting.proofs.Times.{times-append}
use Rattle.price_round.specs.declared.round.Round.{Round}
use Rattle.price_round.specs.declared.round.Seat.{Seat}
use Rattle.price_round.specs.declared.view.Plan.{Plan}
use Rattle.price_round.specs.declared.view.View.{View}
use Rattle.price_round.specs.Rounds.{IsState, joined}
use Rattle.price_round.specs.Seats.{plan_of, held_of, done_of, seen_of, had_none, held_in, done_in, nones_in, IsSeatOf, IsSurvey}
use Rattle.price_round.specs.Surveyed.{IsSurveyed}
use Rattle.price_round.proofs.Codes.{IsState-same}

-- the last seat, and the others
module _ (seats rest : List Seat) (last : Seat) (is : seats ≡ rest ++ last ∷ []) where
  map_last : {X : Type 0} (f : Seat → X) → map f seats ≡ map f rest ++ f last ∷ []
  map_last f = ap (map f) is ∙ map-append f rest (last ∷ [])

  pub held_last : (x : ℕ) → held_in x seats ≡ held_in x rest + times x (held_of last)
  held_last x = ap (sum_by (times x)) (map_last held_of) ∙ sum_by_push (times x) (map held_of rest) (held_of last)

  pub done_last : (x : ℕ) → done_in x seats ≡ done_in x rest + times x (done_of last)
  done_last x = ap (sum_by (times x)) (map_last done_of) ∙ sum_by_push (times x) (map done_of rest) (done_of last)

  pub nones_in_last : nones_in seats ≡ nones_in rest + last.seat.me.0.nones
  nones_in_last =
      let one : last.seat.me.0.nones ≡ cond last.over 1 0 = last.over_is in
      let sum : nones_in seats ≡ nones_in rest + cond last.over 1 0 =
      ap (count_by (λ (b : Bool). b)) (map_last had_none) ∙ sum_by_push (λ (b : Bool). cond b 1 0) (map had_none rest) last.over
      in
      omega arith

-- with no other seat, the token knows the state
pub alone_state : (plan : Plan) (v : View) (seats : List Seat) (given code code' : ℕ) → seats ≡ [] → code ≡ code'
    → IsState plan (λ x. times x v.held) (λ x. times x v.done) v.nones given code
    → IsState plan (λ x. times x v.held + held_in x seats) (λ x. times x v.done + done_in x seats) (v.nones + nones_in seats) given code'
alone_state plan v seats given code code' none same s =
    subst (λ c. IsState plan (λ x. times x v.held + held_in x seats) (λ x. times x v.done + done_in x seats) (v.nones + nones_in seats) given c) same
    (IsState-same plan (λ x. times x v.held) (λ x. times x v.done) (λ x. times x v.held + held_in x seats) (λ x. times x v.done + done_in x seats)
    v.nones (v.nones + nones_in seats) given code
    (λ x. let nothing : held_in x seats ≡ 0 = ap (held_in x) none in omega arith)
    (λ x. let nothing : done_in x seats ≡ 0 = ap (done_in x) none in omega arith)
    (let nothing : nones_in seats ≡ 0 = ap nones_in none in omega arith) s)

module _ (plan : Plan) (given code : ℕ) where
  -- the token took in the last seat
  pub taken_state : (v w : View) (seats rest : List Seat) (last : Seat) (code' : ℕ) → seats ≡ rest ++ last ∷ [] → w ≡ joined v last.seat.me.0 → code ≡ code'
      → IsState plan (λ x. times x w.held + held_in x rest) (λ x. times x w.done + done_in x rest) (w.nones + nones_in rest) given code
      → IsState plan (λ x. times x v.held + held_in x seats) (λ x. times x v.done + done_in x seats) (v.nones + nones_in seats) given code'
  taken_state v w seats rest last code' is took same s =
      subst (λ c. IsState plan (λ x. times x v.held + held_in x seats) (λ x. times x v.done + done_in x seats) (v.nones + nones_in seats) given c) same
      (IsState-same plan (λ x. times x w.held + held_in x rest) (λ x. times x w.done + done_in x rest)
      (λ x. times x v.held + held_in x seats) (λ x. times x v.done + done_in x seats) (w.nones + nones_in rest) (v.nones + nones_in seats) given code
      (λ x.
      let held : times x w.held ≡ times x (v.held ++ held_of last) = ap (λ (u : View). times x u.held) took in
      omega (arith, times-append x v.held (held_of last), held_last seats rest last is x))
      (λ x.
      let done : times x w.done ≡ times x (v.done ++ done_of last) = ap (λ (u : View). times x u.done) took in
      omega (arith, times-append x v.done (done_of last), done_last seats rest last is x))
      (let nones : w.nones ≡ v.nones + last.seat.me.0.nones = ap (λ (u : View). u.nones) took in omega (arith, nones_in_last seats rest last is)) s)

module _ (round : Round) (code code' : ℕ) (old rest new made : List Seat) (s t : Seat) (old_is : old ≡ rest ++ s ∷ []) (new_is : new ≡ made ++ t ∷ [])
    (same : code ≡ code') (of : IsSeatOf round t) (held : held_of t ≡ held_of s) (done : done_of t ≡ done_of s) (over : had_none t ≡ had_none s)
    (seen : seen_of t ≡ code) (lower : code ≤ seen_of s) (others : IsSurveyed round code rest made) where
  -- one seat more is as it was
  map_more : {X : Type 0} (f : Seat → X) → f t ≡ f s → map f made ≡ map f rest → map f new ≡ map f old
  map_more f e es =
      map_last new made t new_is f ∙ (ap (λ ys. ys ++ f t ∷ []) es ∙ (ap (λ y. map f rest ++ y ∷ []) e ∙ sym (map_last old rest s old_is f)))

  pub surveyed_more : IsSurveyed round code' old new
  surveyed_more = record {
    seats = subst (All (IsSeatOf round)) (sym new_is) (All-push (IsSeatOf round) made t others.seats of);
    held = map_more held_of held others.held;
    done = map_more done_of done others.done;
    over = map_more had_none over others.over;
    seen = subst (All (λ (u : Seat). seen_of u ≡ code')) (sym new_is)
        (subst (λ c. All (λ (u : Seat). seen_of u ≡ c) (made ++ t ∷ [])) same (All-push (λ (u : Seat). seen_of u ≡ code) made t others.seen seen));
    lower = subst (All (λ (u : Seat). code' ≤ seen_of u)) (sym old_is)
        (subst (λ c. All (λ (u : Seat). c ≤ seen_of u) (rest ++ s ∷ [])) same (All-push (λ (u : Seat). code ≤ seen_of u) rest s others.lower lower));
  }

-- what the token and the others knew is what all seats know now
pub whole_survey : (round : Round) (code given : ℕ) (old rest new : List Seat) (last : Seat) → old ≡ rest ++ last ∷ []
    → IsState (plan_of round) (λ x. times x (held_of last) + held_in x rest) (λ x. times x (done_of last) + done_in x rest) (last.seat.me.0.nones + nones_in rest)
    given code
    → IsSurveyed round code old new → IsSurvey round old new
whole_survey round code given old rest new last is s made = record {
  code = code;
  given = given;
  seen = made.seen;
  lower = made.lower;
  state = IsState-same (plan_of round) (λ x. times x (held_of last) + held_in x rest) (λ x. times x (done_of last) + done_in x rest)
      (λ x. held_in x new) (λ x. done_in x new) (last.seat.me.0.nones + nones_in rest) (nones_in new) given code
      (λ x. let e : held_in x new ≡ held_in x old = ap (sum_by (times x)) made.held in omega (arith, held_last old rest last is x))
      (λ x. let e : done_in x new ≡ done_in x old = ap (sum_by (times x)) made.done in omega (arith, done_last old rest last is x))
      (let e : nones_in new ≡ nones_in old = ap (count_by (λ (b : Bool). b)) made.over in omega (arith, nones_in_last old rest last is)) s;
}
