-- Codes, and the least one of the chunks that were offered.
use Rattle.std.proofs.Common.{◌≡◌, ◌≢◌, ℕ, ◌+◌, ◌*◌, ◌/◌, ◌^◌, ◌<◌, ◌≤◌, ◌⊎◌, Bool, true, false, Some, None, min, sym, ap, refl, ◌∙◌, arith, subst, ⊎_elim, inl, inr}
use Rattle.std.specs.Prelude.{Option}
use Rattle.std.proofs.lemmas.Bool.Decides.{nat_tests}
use Rattle.std.specs.Option.{option_map}
use Rattle.counting.specs.Counting.{one_if, once_below}
use Rattle.counting.proofs.Times.{one_if-same, once_below-in, once_below-out, once_below-le}
use Rattle.lp_run.specs.Instance.{Instance, column_count}
use Rattle.bland_ratio.specs.declared.tickets.Choice.{Choice}
use Rattle.bland_ratio.specs.declared.tickets.Pay.{Pay}
use Rattle.bland_ratio.specs.declared.tickets.Pay.TheVariants as pay
use Rattle.bland_ratio.specs.declared.tickets.Ticket.{Ticket}
use Rattle.bland_ratio.specs.Pricing.{HasCost, HasUnfitCost, IsChoiceOf, IsFirstStopper, NoneStops, Stops}
use Rattle.price_round.specs.declared.view.Plan.{Plan}
use Rattle.price_round.specs.Rounds.{code_of, no_code, StopsAt, NoneBelow, IsCodeIn, IsCode, IsLeast, IsLeastOfAll, IsState}

pub some_same : {A : Type 0} {a b : A} → Some a ≡ Some b → a ≡ b
some_same e = cc

pub one_if-other : (x y : ℕ) → x ≢ y → one_if x y ≡ 0
one_if-other x y apart = grind (arith, nat_tests)

pub le_or_gt : (m n : ℕ) → (m ≤ n) ⊎ (n < m)
le_or_gt m n = grind arith

pub code_of-range : (column : ℕ) (unfit : Bool) → (2 * column ≤ code_of column unfit) × (code_of column unfit ≤ 2 * column + 1)
code_of-range column true = (omega arith, omega arith)
code_of-range column false = (omega arith, omega arith)

-- one code, one column and one flag
pub code_of-injective : (a b : ℕ) (s t : Bool) → code_of a s ≡ code_of b t → (a ≡ b) × (s ≡ t)
code_of-injective a b true true e = (omega arith, refl)
code_of-injective a b true false e = absurd (omega arith)
code_of-injective a b false true e = absurd (omega arith)
code_of-injective a b false false e = (omega arith, refl)

-- a column is not both a fit and an unfit stopper
cost_one : (w : ℕ) (inst : Instance) (ticket : Ticket) (p : Pay) (j : ℕ) (d : _) → HasCost w inst ticket.phase p j d → HasUnfitCost w inst ticket.phase p j → ⊥
cost_one w inst ticket (pay.Prices y) j d cost unfit = cc
cost_one w inst ticket (pay.Costs costs) j d cost unfit = unfit

pub stops_one : (w : ℕ) (inst : Instance) (ticket : Ticket) (j : ℕ) (s t : Bool) → Stops w inst ticket j s → Stops w inst ticket j t → s ≡ t
stops_one w inst ticket j true true a b = refl
stops_one w inst ticket j true false a b = absurd (cost_one w inst ticket ticket.pay j b.0 b.1 a.1)
stops_one w inst ticket j false true a b = absurd (cost_one w inst ticket ticket.pay j a.0 a.1 b.1)
stops_one w inst ticket j false false a b = refl

module _ (plan : Plan) where
  -- the code of a first stopper is the least one of its range
  pub first_least : (from j : ℕ) (unfit : Bool) → StopsAt plan j unfit
      → NoneStops plan.width plan.inst.value plan.ticket.value from j → (i : ℕ) (t : Bool) → from ≤ i → StopsAt plan i t → code_of j unfit ≤ code_of i t
  first_least from j unfit stops none i t above also =
      let low = code_of-range i t in
      let high = code_of-range j unfit in
      ⊎_elim
      (λ (le : j ≤ i). ⊎_elim
      (λ (ge : i ≤ j).
      let e : j ≡ i = omega arith in
      let here : StopsAt plan i unfit = subst (λ k. StopsAt plan k unfit) e stops in
      let same : unfit ≡ t = stops_one plan.width plan.inst.value plan.ticket.value i unfit t here also in
      let codes : code_of j unfit ≡ code_of i t = ap (λ k. code_of k unfit) e ∙ ap (code_of i) same in
      omega arith)
      (λ (less : j < i). omega arith) (le_or_gt i j))
      (λ (less : i < j). absurd (none i above less t also)) (le_or_gt j i)

  pub NoneBelow-le : (chunk a b : ℕ) → a ≤ b → NoneBelow plan chunk b → NoneBelow plan chunk a
  NoneBelow-le chunk a b le none j unfit from to stops = omega (arith, none j unfit from to stops)

  module _ (few : column_count plan.inst.value < 2 ^ 32) where
    pub IsCodeIn-small : (chunk code : ℕ) → IsCodeIn plan chunk code → code < 2 ^ 33
    IsCodeIn-small chunk code c = let is = c.code_is in let to = c.to in omega (arith, (code_of-range c.column c.unfit).1)

    pub IsLeast-small : (done : ℕ → ℕ) (code : ℕ) → IsLeast plan done code → code ≤ no_code
    IsLeast-small done code l = ⊎_elim (λ (e : code ≡ no_code). omega arith)
        (λ (c : (chunk : ℕ) × (0 < done chunk) × IsCodeIn plan chunk code). omega (arith, IsCodeIn-small c.0 code c.2)) l.offered

    -- the code of a column, or none
    pub IsCode-from : (code : ℕ) → (code ≡ no_code) ⊎ ((chunk : ℕ) × IsCodeIn plan chunk code) → IsCode code
    IsCode-from code h = ⊎_elim (λ (e : code ≡ no_code). inl e)
        (λ (c : (chunk : ℕ) × IsCodeIn plan chunk code).
        let to = c.1.to in inr (c.1.column, c.1.unfit, omega arith, c.1.code_is)) h

  pub IsLeast-same : (done done' : ℕ → ℕ) (code : ℕ) → ((x : ℕ) → done x ≡ done' x) → IsLeast plan done code → IsLeast plan done' code
  IsLeast-same done done' code same l = record {
    offered = ⊎_elim (λ (e : code ≡ no_code). inl e)
        (λ (c : (chunk : ℕ) × (0 < done chunk) × IsCodeIn plan chunk code). inr (c.0, omega (arith, same c.0, c.1), c.2)) l.offered;
    least = λ chunk more. l.least chunk (omega (arith, same chunk, more));
  }

  -- what is known depends on the sums alone
  pub IsState-same : (held done held' done' : ℕ → ℕ) (nones nones' given code : ℕ) → ((x : ℕ) → held x ≡ held' x) → ((x : ℕ) → done x ≡ done' x)
      → nones ≡ nones' → IsState plan held done nones given code → IsState plan held' done' nones' given code
  IsState-same held done held' done' nones nones' given code helds dones none s = record {
    within = s.within;
    full = λ more. s.full (omega arith);
    once = λ x. omega (arith, helds x, dones x, s.once x);
    least = IsLeast-same done done' code dones s.least;
  }

  -- one chunk more is offered
  pub IsLeast-offered : (done done' : ℕ → ℕ) (k least seen code : ℕ) → ((x : ℕ) → 0 < done' x → (x ≡ k) ⊎ (0 < done x))
      → ((x : ℕ) → 0 < done x → 0 < done' x) → 0 < done' k → (code ≡ no_code) ⊎ IsCodeIn plan k code → NoneBelow plan k (min seen code) → least ≤ seen
      → IsLeast plan done least → IsLeast plan done' (min least code)
  IsLeast-offered done done' k least seen code new old there found none lower l = record {
    offered = ⊎_elim
        (λ (le : least ≤ code).
        let e : least ≡ min least code = omega arith in
        ⊎_elim (λ (n : least ≡ no_code). inl (sym e ∙ n))
        (λ (c : (chunk : ℕ) × (0 < done chunk) × IsCodeIn plan chunk least). inr (c.0, old c.0 c.1, subst (IsCodeIn plan c.0) e c.2)) l.offered)
        (λ (gt : code < least).
        let e : code ≡ min least code = omega arith in
        ⊎_elim (λ (n : code ≡ no_code). inl (sym e ∙ n)) (λ (c : IsCodeIn plan k code). inr (k, there, subst (IsCodeIn plan k) e c)) found)
        (le_or_gt least code);
    least = λ chunk more. ⊎_elim
        (λ (e : chunk ≡ k). subst (λ x. NoneBelow plan x (min least code)) (sym e) (NoneBelow-le k (min least code) (min seen code) (omega arith) none))
        (λ (was : 0 < done chunk). NoneBelow-le chunk (min least code) least (omega arith) (l.least chunk was)) (new chunk more);
  }

  -- with all chunks offered, the code is the least one of all columns
  pub least_of_all : (held done : ℕ → ℕ) (nones given code : ℕ) → ((x : ℕ) → held x ≡ 0) → 0 < nones → IsState plan held done nones given code
      → IsLeastOfAll plan code
  least_of_all held done nones given code nothing ended s = record {
    stopper = ⊎_elim (λ (e : code ≡ no_code). inl e) (λ (c : (chunk : ℕ) × (0 < done chunk) × IsCodeIn plan chunk code). inr (c.0, c.2)) s.least.offered;
    least = λ j unfit within stops.
        let all = s.full ended in
        let chunk : ℕ = j / 64 in
        let below : chunk < given = omega arith in
        s.least.least chunk (omega (arith, nothing chunk, s.once chunk, once_below-in chunk given below)) j unfit (omega arith) (omega arith) stops;
  }

  -- and then its choice is that of one thread
  module _ (code : ℕ) (all : IsLeastOfAll plan code) where
    pub no_stopper : code ≡ no_code → column_count plan.inst.value < 2 ^ 32 → NoneStops plan.width plan.inst.value plan.ticket.value 0 (column_count plan.inst.value)
    no_stopper none few j from to unfit stops = omega (arith, all.least j unfit to stops, code_of-range j unfit)

    pub first_stopper : (column : ℕ) (unfit : Bool) → column_count plan.inst.value < 2 ^ 32 → code ≡ code_of column unfit → column < 2 ^ 32
        → IsFirstStopper plan.width plan.inst.value plan.ticket.value 0 (column_count plan.inst.value) (Some (column, unfit))
    first_stopper column unfit few is small = ⊎_elim
        (λ (e : code ≡ no_code). absurd (omega (arith, code_of-range column unfit)))
        (λ (c : (chunk : ℕ) × IsCodeIn plan chunk code).
        let one = code_of-injective c.1.column column c.1.unfit unfit (sym c.1.code_is ∙ is) in
        let to = c.1.to in
        let here : StopsAt plan column unfit = subst (λ t. StopsAt plan column t) one.1 (subst (λ k. StopsAt plan k c.1.unfit) one.0 c.1.stops) in (
          omega arith,
          omega arith,
          here,
          λ j from less t stops. omega (arith, all.least j t (omega arith) stops, code_of-range j t, code_of-range column unfit),
        ))
        all.stopper

  -- a code that is not that of none is its column's
  pub sees : (code column : ℕ) (unfit : Bool) → column < 2 ^ 32 → code ≡ code_of column unfit → (code ≡ no_code) ⊎ ((chunk : ℕ) × IsCodeIn plan chunk code)
      → StopsAt plan column unfit
  sees code column unfit small is known = ⊎_elim
      (λ (e : code ≡ no_code). absurd (omega (arith, code_of-range column unfit)))
      (λ (c : (chunk : ℕ) × IsCodeIn plan chunk code).
      let one = code_of-injective c.1.column column c.1.unfit unfit (sym c.1.code_is ∙ is) in
      subst (λ t. StopsAt plan column t) one.1 (subst (λ k. StopsAt plan k c.1.unfit) one.0 c.1.stops)) known

  -- what is known of the chunks is known of the choice
  module _ (few : column_count plan.inst.value < 2 ^ 32) (code : ℕ) (all : IsLeastOfAll plan code) where
    pub choice_some : (column : ℕ) (unfit : Bool) → column < 2 ^ 32 → code ≡ code_of column unfit
        → IsChoiceOf plan.width plan.inst.value plan.ticket.value (record { number = plan.ticket.value.number; stopper = Some column; unfit = unfit })
    choice_some column unfit small is = record {
      number = refl;
      stopper = first_stopper code all column unfit few is small;
      none_fits = λ e. cc;
    }

    pub choice_none : code ≡ no_code
        → IsChoiceOf plan.width plan.inst.value plan.ticket.value (record { number = plan.ticket.value.number; stopper = None; unfit = false })
    choice_none is = record { number = refl; stopper = no_stopper code all is few; none_fits = λ _. refl }

-- there is one first stopper of a range
module _ (w : ℕ) (inst : Instance) (ticket : Ticket) where
  first_one : (from to : ℕ) (a b : Option (ℕ × Bool)) → IsFirstStopper w inst ticket from to a → IsFirstStopper w inst ticket from to b → a ≡ b
  first_one from to None None x y = refl
  first_one from to None (Some (j, t)) x y = absurd (x j y.0 y.1 t y.2)
  first_one from to (Some (i, s)) None x y = absurd (y i x.0 x.1 s x.2)
  first_one from to (Some (i, s)) (Some (j, t)) x y = ⊎_elim
      (λ (le : i ≤ j). ⊎_elim
      (λ (ge : j ≤ i).
      let e : i ≡ j = omega arith in
      let here : Stops w inst ticket j s = subst (λ k. Stops w inst ticket k s) e x.2 in
      let same : s ≡ t = stops_one w inst ticket j s t here y.2 in
      λ k. Some (e k, same k))
      (λ (less : i < j). absurd (y.3 i x.0 less s x.2)) (le_or_gt j i))
      (λ (less : j < i). absurd (x.3 j y.0 less t y.2)) (le_or_gt i j)

  parts_one : (s t : Option ℕ) (u v : Bool) → (s ≡ None → u ≡ false) → (t ≡ None → v ≡ false)
      → option_map {U = ℕ × Bool} (λ j. (j, u)) s ≡ option_map {U = ℕ × Bool} (λ j. (j, v)) t → (s ≡ t) × (u ≡ v)
  parts_one None None u v a b e = (refl, a refl ∙ sym (b refl))
  parts_one None (Some j) u v a b e = cc
  parts_one (Some i) None u v a b e = cc
  parts_one (Some i) (Some j) u v a b e =
      let left : ℕ × Bool = (i, u) in
      let right : ℕ × Bool = (j, v) in
      let same : left ≡ right = some_same e in
      (ap (λ (p : ℕ × Bool). Some p.0) same, ap (λ (p : ℕ × Bool). p.1) same)

  -- there is one choice of a ticket at a width
  pub choice_one : (a b : Choice) → IsChoiceOf w inst ticket a → IsChoiceOf w inst ticket b → a ≡ b
  choice_one a b x y =
      let number : a.number ≡ b.number = x.number ∙ sym y.number in
      let parts = parts_one a.stopper b.stopper a.unfit b.unfit x.none_fits y.none_fits (first_one 0 (column_count inst) _ _ x.stopper y.stopper) in
      λ k. record { number = number k; stopper = parts.0 k; unfit = parts.1 k }

-- where one chunk more is claimed, it is the next one
pub next_given : (plan : Plan) (held done held' done' : ℕ → ℕ) (nones nones' given given' code code' chunk : ℕ)
    → IsState plan held done nones given code → IsState plan held' done' nones' given' code'
    → ((x : ℕ) → held' x + done' x ≡ held x + done x + one_if x chunk) → (chunk ≡ given) × (given' ≡ given + 1)
next_given plan held done held' done' nones nones' given given' code code' chunk s t more =
    let one : (x : ℕ) → once_below x given' ≡ once_below x given + one_if x chunk = λ x. omega (arith, s.once x, t.once x, more x) in
    let above : given ≤ chunk = ⊎_elim (λ (le : given ≤ chunk). le)
    (λ (less : chunk < given). absurd (omega (arith, one chunk, once_below-in chunk given less, once_below-le chunk given', one_if-same chunk chunk refl)))
    (le_or_gt given chunk) in
    let below : chunk < given' = ⊎_elim
    (λ (le : given' ≤ chunk). absurd (omega (arith, one chunk, once_below-out chunk given' le, one_if-same chunk chunk refl)))
    (λ (less : chunk < given'). less) (le_or_gt given' chunk) in
    let here : chunk ≡ given = ⊎_elim (λ (le : chunk ≤ given). omega arith)
    (λ (less : given < chunk). absurd (omega (
      arith,
      one given,
      once_below-in given given' (omega arith),
      once_below-out given given (omega arith),
      one_if-other given chunk (λ e. omega arith),
    ))) (le_or_gt chunk given) in
    let last : given' ≤ given + 1 = ⊎_elim (λ (le : given' ≤ given + 1). le)
    (λ (less : given + 1 < given'). absurd (omega (
      arith,
      one (given + 1),
      once_below-in (given + 1) given' less,
      once_below-out (given + 1) given (omega arith),
      one_if-other (given + 1) chunk (λ e. omega arith),
    ))) (le_or_gt given' (given + 1)) in
    (here, omega arith)

-- the least code is a function of the chunks that were offered
least_le : (plan : Plan) (done done' : ℕ → ℕ) (code code' : ℕ) → column_count plan.inst.value < 2 ^ 32 → ((x : ℕ) → done x ≡ done' x)
    → IsLeast plan done code → IsLeast plan done' code' → code ≤ code'
least_le plan done done' code code' few same l m = ⊎_elim
    (λ (e : code' ≡ no_code). omega (arith, IsLeast-small plan few done code l))
    (λ (c : (chunk : ℕ) × (0 < done' chunk) × IsCodeIn plan chunk code').
    let is = c.2.code_is in
    omega (arith, l.least c.0 (omega (arith, same c.0, c.1)) c.2.column c.2.unfit c.2.from c.2.to c.2.stops)) m.offered

pub least_one : (plan : Plan) (done done' : ℕ → ℕ) (code code' : ℕ) → column_count plan.inst.value < 2 ^ 32 → ((x : ℕ) → done x ≡ done' x)
    → IsLeast plan done code → IsLeast plan done' code' → code ≡ code'
least_one plan done done' code code' few same l m =
    omega (arith, least_le plan done done' code code' few same l m, least_le plan done' done code' code few (λ x. sym (same x)) m l)
