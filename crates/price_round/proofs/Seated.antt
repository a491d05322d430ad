-- Lists of seats.
use Rattle.std.proofs.Common.{◌≡◌, ℕ, ◌+◌, ◌<◌, ◌⊎◌, ◌||◌, Bool, true, false, Some, cond, List, [], ◌∷◌, ◌++◌, ap, refl, ◌∙◌, arith, inl, inr, ⊎_elim}
use Rattle.std.specs.Prelude.{All, length}
use Rattle.std.specs.List.{list_any, sum_by}
use Rattle.std.proofs.lemmas.List.Elements.{All-pop}
use Rattle.std.proofs.lemmas.List.Sums.{sum_by-cons, sum_by_push}
use Rattle.price_round.specs.declared.round.Seat.{Seat}
use Rattle.price_round.specs.declared.view.Plan.{Plan}
use Rattle.price_round.specs.Rounds.{kept_part, fresh_part}
use Rattle.price_round.specs.Seats.{had_none}
use Rattle.price_round.specs.Inner.{IsCut}
use Rattle.price_round.proofs.Views.{fresh_view}

-- how many of the seats' claims had none
abbrev pub nones_of : List Seat → ℕ
nones_of seats = sum_by (λ (s : Seat). s.seat.me.0.nones) seats

one_true : (a b : Bool) → (a || b) ≡ true → (a ≡ true) ⊎ (b ≡ true)
one_true true b e = inl refl
one_true false b e = inr e

pub some_ended : (seats : List Seat) → list_any had_none seats ≡ true → 0 < nones_of seats
some_ended [] e = cc
some_ended (s ∷ ss) e = ⊎_elim
    (λ (here : s.over ≡ true).
    let one : s.seat.me.0.nones ≡ 1 = s.over_is ∙ ap (λ b. cond b 1 0) here in
    omega (arith, sum_by-cons (λ (u : Seat). u.seat.me.0.nones) s ss))
    (λ (there : list_any had_none ss ≡ true). omega (arith, sum_by-cons (λ (u : Seat). u.seat.me.0.nones) s ss, some_ended ss there))
    (one_true s.over (list_any had_none ss) e)

-- the last seat, and the others
module _ (seats rest : List Seat) (last : Seat) (is : seats ≡ rest ++ last ∷ []) where
  pub all_last : (P : Seat → Type 0) → All P seats → All P rest × P last
  all_last P all = All-pop P seats rest (Some last) is all

  pub nones_last : nones_of seats ≡ nones_of rest + last.seat.me.0.nones
  nones_last = ap nones_of is ∙ sum_by_push (λ (s : Seat). s.seat.me.0.nones) rest last

pub fresh_cut : (plan : Plan) (p : ℕ) → 1 < p → IsCut (fresh_view plan p) (kept_part (fresh_view plan p)) (fresh_part (fresh_view plan p))
fresh_cut plan p more = record {
  parts = omega arith;
  left_part = omega arith;
  right_part = omega arith;
  nones = refl;
  left_ends = omega arith;
  right_ends = omega arith;
  held = λ x. refl;
  done = λ x. refl;
  left_seen = omega arith;
  right_seen = inr refl;
  left_plan = refl;
  right_plan = refl;
}

-- where each of some seats had none, some seat had none
pub some_over : (seats : List Seat) → 0 < length seats → All (λ (s : Seat). had_none s ≡ true) seats → list_any had_none seats ≡ true
some_over [] more each = absurd (omega arith)
some_over (s ∷ ss) more each = ap (λ b. b || list_any had_none ss) (each 0 s (omega arith))
