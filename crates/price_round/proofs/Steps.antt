-- Each kind of step keeps the rule.
use Rattle.std.proofs.Common.{◌≡◌, ◌≢◌, ℕ, zero, suc, ◌+◌, ◌%◌, ◌^◌, ◌<◌, ◌≤◌, ◌⊎◌, List, [], ◌∷◌, ◌++◌, min, set, refl, sym, ap, ◌∙◌, arith, subst, ⊎_elim, inl, inr}
use Rattle.std.specs.List.{sum_by}
use Rattle.std.proofs.lemmas.List.Sums.{sum_by-cons, sum_by_push}
use mathlib.Core.Option.{some, some-injective, some-ne-none}
use lib.ListN.{get_elem?}
use Rattle.atomic_table.proofs.Lists.{at_set, at_snoc}
use Rattle.counting.specs.Counting.{one_if, times}
use Rattle.counting.proofs.Sums.{sum_by-set_at, sum_by-at-le, sum_by-le-each, sum_by-alone}
use Rattle.counting.proofs.Times.{one_if-same, once_below-out, once_below-le, once_below-next, times-append}
use Rattle.lp_run.specs.Instance.{column_count}
use Rattle.price_round.specs.declared.view.Plan.{Plan}
use Rattle.price_round.specs.declared.view.View.{View}
use Rattle.price_round.specs.Rounds.{chunk_count, no_code, NoneBelow, IsCodeIn, IsState, claimed, refused, offered, glanced, joined, spent, first_view, Fits, Sound}
use Rattle.price_round.specs.Inner.{IsCut}
use Rattle.price_round.proofs.Codes.{le_or_gt, IsLeast-same, IsLeast-small, IsLeast-offered, IsState-same}
use Rattle.price_round.proofs.Views.{times-cons, times-moved, times-new}

-- what holds of each view, after one changed
each_set : {V : Type 0} (P : V → Type 0) (views : List V) (id : ℕ) (w : V) → P w → ((j : ℕ) (u : V) → j ≢ id → get_elem? views j ≡ some u → P u)
    → (j : ℕ) (u : V) → get_elem? (set views id w) j ≡ some u → P u
each_set P views id w new others j u at =
    ⊎_elim (λ (here : (j ≡ id) × (w ≡ u)). subst P here.1 new)
    (λ (there : (j ≢ id) × (get_elem? views j ≡ some u)). others j u there.0 there.1) (at_set views id j w u at)

swap : {A B : Type 0} → A ⊎ B → B ⊎ A
swap h = ⊎_elim (λ a. inr a) (λ b. inl b) h

module _ (plan : Plan) (claim least : ℕ) (views : List View) (sound : Sound plan claim least views) where
  -- as many claims found no chunk as there are seats, at most
  few_nones : sum_by (λ (v : View). v.nones) views ≤ plan.seats
  few_nones =
      let le : sum_by (λ (v : View). v.nones) views ≤ sum_by (λ (v : View). v.parts) views =
      sum_by-le-each (λ v. v.nones) (λ v. v.parts) views (λ j v at. (sound.each j v at).ends)
      in
      let is = sound.whole in
      omega arith

  -- the claim word never passes its end
  pub claim-next : (claim + 1) % 2 ^ 64 ≡ claim + 1
  claim-next =
      let le = few_nones in
      let is = sound.claim_is in
      let within = sound.state.within in
      let seats = sound.few_seats in
      let columns = sound.few_columns in
      omega arith

  -- where a chunk is left, the claim word is the next one, and nobody has had none
  pub given_is : claim < chunk_count plan.inst.value → (claim ≡ sound.given) × (sum_by (λ (v : View). v.nones) views ≡ 0)
  given_is less =
      let is = sound.claim_is in
      let none : sum_by (λ (v : View). v.nones) views ≡ 0 = ⊎_elim
      (λ (n : sum_by (λ (v : View). v.nones) views ≤ 0). omega arith)
      (λ (more : 0 < sum_by (λ (v : View). v.nones) views). let all = sound.state.full more in absurd (omega arith))
      (le_or_gt (sum_by (λ (v : View). v.nones) views) 0) in
      (omega arith, none)

  -- where none is left, all chunks are given away
  given_all : chunk_count plan.inst.value ≤ claim → sound.given ≡ chunk_count plan.inst.value
  given_all passed =
      let is = sound.claim_is in
      let within = sound.state.within in
      ⊎_elim
      (λ (n : sum_by (λ (v : View). v.nones) views ≤ 0). omega arith)
      (λ (more : 0 < sum_by (λ (v : View). v.nones) views). sound.state.full more)
      (le_or_gt (sum_by (λ (v : View). v.nones) views) 0)

  pub least-small : least ≤ no_code
  least-small = IsLeast-small plan sound.few_columns _ least sound.state.least

  module _ (id : ℕ) (v : View) (at : get_elem? views id ≡ some v) where
    pub fits : Fits plan least v
    fits = sound.each id v at

    -- a view's chunks are below the ones that are left
    pub mine_below : (x : ℕ) → 0 < times x v.held + times x v.done → x < sound.given
    mine_below x more =
        let held : times x v.held ≤ sum_by (λ (u : View). times x u.held) views = sum_by-at-le (λ u. times x u.held) views id v at in
        let done : times x v.done ≤ sum_by (λ (u : View). times x u.done) views = sum_by-at-le (λ u. times x u.done) views id v at in
        let once = sound.state.once x in
        ⊎_elim (λ (le : sound.given ≤ x). absurd (omega (arith, once_below-out x sound.given le))) (λ (less : x < sound.given). less)
        (le_or_gt sound.given x)

    -- a changed view that still has parts
    fits_new : (least' : ℕ) (w : View) → w.nones ≤ w.parts → least' ≤ w.seen → v.plan ≡ w.plan → 0 < v.parts → 0 < w.parts → Fits plan least' w
    fits_new least' w ends seen same some_parts more = record {
      ends = ends;
      seen = seen;
      of_plan = λ _. sym same ∙ (sound.each id v at).of_plan some_parts;
      over = λ none. absurd (omega arith);
    }

    fits_still : (least' : ℕ) → least' ≤ least → (j : ℕ) (u : View) → j ≢ id → get_elem? views j ≡ some u → Fits plan least' u
    fits_still least' lower j u _ also =
        let was = sound.each j u also in record {
          ends = was.ends;
          seen = omega (arith, was.seen);
          of_plan = was.of_plan;
          over = was.over;
        }

    module _ (some_parts : 0 < v.parts) where
      pub claimed_sound : claim < chunk_count plan.inst.value → Sound plan ((claim + 1) % 2 ^ 64) least (set views id (claimed claim v))
      claimed_sound less =
          let w = claimed claim v in
          let given = given_is less in
          let nones = sum_by-set_at (λ (u : View). u.nones) views id v w at in
          let next = claim-next in
          let none = given.1 in
          let here = given.0 in
          record {
            given = sound.given + 1;
            few_seats = sound.few_seats;
            few_columns = sound.few_columns;
            claim_is = omega arith;
            whole = let s = sum_by-set_at (λ (u : View). u.parts) views id v w at in let is = sound.whole in omega arith;
            state = record {
              within = omega arith;
              full = λ more. absurd (omega arith);
              once = λ x.
                  let held = sum_by-set_at (λ (u : View). times x u.held) views id v w at in
                  let done = sum_by-set_at (λ (u : View). times x u.done) views id v w at in
                  let once = sound.state.once x in
                  let one : one_if x claim ≡ one_if x sound.given = ap (one_if x) here in
                  omega (arith, times-cons x claim v.held, once_below-next x sound.given);
              least = IsLeast-same plan (λ x. sum_by (λ (u : View). times x u.done) views) (λ x. sum_by (λ (u : View). times x u.done) (set views id w)) least
                  (λ x. let done = sum_by-set_at (λ (u : View). times x u.done) views id v w at in omega arith) sound.state.least;
            };
            each = each_set (Fits plan least) views id w (fits_new least w fits.ends fits.seen refl some_parts some_parts) (fits_still least (omega arith));
          }

      pub refused_sound : chunk_count plan.inst.value ≤ claim → v.nones < v.parts → Sound plan ((claim + 1) % 2 ^ 64) least (set views id (refused v))
      refused_sound passed first =
          let w = refused v in
          let all = given_all passed in
          let nones = sum_by-set_at (λ (u : View). u.nones) views id v w at in
          let next = claim-next in
          let is = sound.claim_is in
          record {
            given = sound.given;
            few_seats = sound.few_seats;
            few_columns = sound.few_columns;
            claim_is = omega arith;
            whole = let s = sum_by-set_at (λ (u : View). u.parts) views id v w at in let is = sound.whole in omega arith;
            state = record {
              within = sound.state.within;
              full = λ _. all;
              once = λ x.
                  let held = sum_by-set_at (λ (u : View). times x u.held) views id v w at in
                  let done = sum_by-set_at (λ (u : View). times x u.done) views id v w at in
                  let once = sound.state.once x in
                  omega arith;
              least = IsLeast-same plan (λ x. sum_by (λ (u : View). times x u.done) views) (λ x. sum_by (λ (u : View). times x u.done) (set views id w)) least
                  (λ x. let done = sum_by-set_at (λ (u : View). times x u.done) views id v w at in omega arith) sound.state.least;
            };
            each = each_set (Fits plan least) views id w (fits_new least w (omega arith) fits.seen refl some_parts some_parts) (fits_still least (omega arith));
          }

      pub offered_sound : (k code : ℕ) → 0 < times k v.held → (code ≡ no_code) ⊎ IsCodeIn plan k code → NoneBelow plan k (min v.seen code)
          → Sound plan claim (min least code) (set views id (offered k code v))
      offered_sound k code holds found none =
          let w = offered k code v in
          let nones = sum_by-set_at (λ (u : View). u.nones) views id v w at in
          let is = sound.claim_is in
          let mine : times k v.held ≤ sum_by (λ (u : View). times k u.held) views = sum_by-at-le (λ u. times k u.held) views id v at in
          let all = sound.state.once k in
          let one : times k v.held ≡ 1 = omega (arith, once_below-le k sound.given) in
          let lower = fits.seen in
          let now : (x : ℕ) → sum_by (λ (u : View). times x u.done) (set views id w) + times x v.done ≡ sum_by (λ (u : View). times x u.done) views + times x (k ∷ v.done) =
          λ x. sum_by-set_at (λ (u : View). times x u.done) views id v w at
          in
          record {
            given = sound.given;
            few_seats = sound.few_seats;
            few_columns = sound.few_columns;
            claim_is = omega arith;
            whole = let s = sum_by-set_at (λ (u : View). u.parts) views id v w at in let is = sound.whole in omega arith;
            state = record {
              within = sound.state.within;
              full = λ more. sound.state.full (omega arith);
              once = λ x.
                  let held = sum_by-set_at (λ (u : View). times x u.held) views id v w at in
                  let once = sound.state.once x in
                  omega (arith, now x, times-moved x k v.held v.done one);
              least = IsLeast-offered plan (λ x. sum_by (λ (u : View). times x u.done) views) (λ x. sum_by (λ (u : View). times x u.done) (set views id w)) k least v.seen
                  code
                  (λ x more. ⊎_elim (λ (some_here : 0 < times x v.done).
                  let le : times x v.done ≤ sum_by (λ (u : View). times x u.done) views = sum_by-at-le (λ u. times x u.done) views id v at in inr (omega arith))
                  (λ (none_here : times x v.done ≤ 0).
                  ⊎_elim (λ (rest : 0 < sum_by (λ (u : View). times x u.done) views). inr rest)
                  (λ (rest : sum_by (λ (u : View). times x u.done) views ≤ 0).
                  ⊎_elim (λ (e : x ≡ k). inl e) (λ (was : 0 < times x v.done). absurd (omega arith)) (times-new x k v.done (omega (arith, now x))))
                  (swap (le_or_gt (sum_by (λ (u : View). times x u.done) views) 0)))
                  (swap (le_or_gt (times x v.done) 0)))
                  (λ x more. omega (arith, now x, times-cons x k v.done))
                  (omega (arith, now k, times-cons k k v.done, one_if-same k k refl))
                  found none lower sound.state.least;
            };
            each = each_set (Fits plan (min least code)) views id w (fits_new (min least code) w fits.ends (omega arith) refl some_parts some_parts)
                (fits_still (min least code) (omega arith));
          }

      pub glanced_sound : Sound plan claim least (set views id (glanced least v))
      glanced_sound =
          let w = glanced least v in
          let nones = sum_by-set_at (λ (u : View). u.nones) views id v w at in
          let is = sound.claim_is in
          record {
            given = sound.given;
            few_seats = sound.few_seats;
            few_columns = sound.few_columns;
            claim_is = omega arith;
            whole = let s = sum_by-set_at (λ (u : View). u.parts) views id v w at in let is = sound.whole in omega arith;
            state = IsState-same plan (λ x. sum_by (λ (u : View). times x u.held) views) (λ x. sum_by (λ (u : View). times x u.done) views)
                (λ x. sum_by (λ (u : View). times x u.held) (set views id w)) (λ x. sum_by (λ (u : View). times x u.done) (set views id w))
                (sum_by (λ (u : View). u.nones) views) (sum_by (λ (u : View). u.nones) (set views id w)) sound.given least
                (λ x. let held = sum_by-set_at (λ (u : View). times x u.held) views id v w at in omega arith)
                (λ x. let done = sum_by-set_at (λ (u : View). times x u.done) views id v w at in omega arith) (omega arith) sound.state;
            each = each_set (Fits plan least) views id w (fits_new least w fits.ends (omega arith) refl some_parts some_parts) (fits_still least (omega arith));
          }

    pub cut_sound : (l r : View) → IsCut v l r → Sound plan claim least (set views id l ++ r ∷ [])
    cut_sound l r cut =
        let middle = set views id l in
        let parts = cut.parts in
        let some_left = cut.left_part in
        let mine = fits.seen in
        let set_nones = sum_by-set_at (λ (u : View). u.nones) views id v l at in
        let push_nones = sum_by_push (λ (u : View). u.nones) middle r in
        let nones = cut.nones in
        let seen : least ≤ r.seen = ⊎_elim (λ (le : v.seen ≤ r.seen). omega arith) (λ (e : r.seen ≡ no_code). omega (arith, least-small)) cut.right_seen in
        let first = each_set (Fits plan least) views id l
        (fits_new least l cut.left_ends (let le = cut.left_seen in omega arith) cut.left_plan (omega arith) cut.left_part) (fits_still least (omega arith))
        in
        let second : Fits plan least r = fits_new least r cut.right_ends seen cut.right_plan (omega arith) cut.right_part in
        let same : sum_by (λ (u : View). u.nones) (middle ++ r ∷ []) ≡ sum_by (λ (u : View). u.nones) views = omega arith in
        record {
          given = sound.given;
          few_seats = sound.few_seats;
          few_columns = sound.few_columns;
          claim_is = let is = sound.claim_is in omega arith;
          whole =
              let s = sum_by-set_at (λ (u : View). u.parts) views id v l at in
              let is = sound.whole in
              omega (arith, sum_by_push (λ (u : View). u.parts) middle r);
          state = IsState-same plan (λ x. sum_by (λ (u : View). times x u.held) views) (λ x. sum_by (λ (u : View). times x u.done) views)
              (λ x. sum_by (λ (u : View). times x u.held) (middle ++ r ∷ [])) (λ x. sum_by (λ (u : View). times x u.done) (middle ++ r ∷ []))
              (sum_by (λ (u : View). u.nones) views) (sum_by (λ (u : View). u.nones) (middle ++ r ∷ [])) sound.given least
              (λ x.
              let s = sum_by-set_at (λ (u : View). times x u.held) views id v l at in
              omega (arith, sum_by_push (λ (u : View). times x u.held) middle r, cut.held x))
              (λ x.
              let s = sum_by-set_at (λ (u : View). times x u.done) views id v l at in
              omega (arith, sum_by_push (λ (u : View). times x u.done) middle r, cut.done x)) (sym same) sound.state;
          each = λ j u also. ⊎_elim (first j u) (λ (here : r ≡ u). subst (Fits plan least) here second) (at_snoc middle r u j also);
        }

    module _ (other : ℕ) (w : View) (apart : ¬ (other ≡ id)) (also : get_elem? (set views id (joined v w)) other ≡ some w) where
      pub joined_sound : 0 < v.parts → Sound plan claim least (set (set views id (joined v w)) other spent)
      joined_sound some_parts =
          let b = joined v w in
          let middle = set views id b in
          let last = set middle other spent in
          let there : get_elem? views other ≡ some w = ⊎_elim (λ (here : (other ≡ id) × (b ≡ w)). absurd (apart here.0))
          (λ (x : (other ≢ id) × (get_elem? views other ≡ some w)). x.1) (at_set views id other b w also) in
          let theirs = sound.each other w there in
          let mine = fits in
          let ends = mine.ends in
          let their_ends = theirs.ends in
          let seen = mine.seen in
          let their_seen = theirs.seen in
          let nones = sum_by-set_at (λ (u : View). u.nones) views id v b at in
          let nones' = sum_by-set_at (λ (u : View). u.nones) middle other w spent also in
          let same : sum_by (λ (u : View). u.nones) last ≡ sum_by (λ (u : View). u.nones) views = omega arith in
          record {
            given = sound.given;
            few_seats = sound.few_seats;
            few_columns = sound.few_columns;
            claim_is = let is = sound.claim_is in omega arith;
            whole =
                let s = sum_by-set_at (λ (u : View). u.parts) views id v b at in
                let s' = sum_by-set_at (λ (u : View). u.parts) middle other w spent also in
                let is = sound.whole in
                omega arith;
            state = IsState-same plan (λ x. sum_by (λ (u : View). times x u.held) views) (λ x. sum_by (λ (u : View). times x u.done) views)
                (λ x. sum_by (λ (u : View). times x u.held) last) (λ x. sum_by (λ (u : View). times x u.done) last)
                (sum_by (λ (u : View). u.nones) views) (sum_by (λ (u : View). u.nones) last) sound.given least
                (λ x.
                let s = sum_by-set_at (λ (u : View). times x u.held) views id v b at in
                let s' = sum_by-set_at (λ (u : View). times x u.held) middle other w spent also in
                omega (arith, times-append x v.held w.held))
                (λ x.
                let s = sum_by-set_at (λ (u : View). times x u.done) views id v b at in
                let s' = sum_by-set_at (λ (u : View). times x u.done) middle other w spent also in
                omega (arith, times-append x v.done w.done)) (sym same) sound.state;
            each = each_set (Fits plan least) middle other spent
                (record { ends = omega arith; seen = least-small; of_plan = λ more. absurd (omega arith); over = λ _. refl })
                (λ j u _ here. each_set (Fits plan least) views id b (fits_new least b (omega arith) (omega arith) refl some_parts (omega arith))
                (fits_still least (omega arith)) j u here);
          }

    -- a view with all parts has all chunks
    pub whole_state : v.parts ≡ plan.seats → IsState plan (λ x. times x v.held) (λ x. times x v.done) v.nones sound.given least
    whole_state all = IsState-same plan (λ x. sum_by (λ (u : View). times x u.held) views) (λ x. sum_by (λ (u : View). times x u.done) views)
        (λ x. times x v.held) (λ x. times x v.done) (sum_by (λ (u : View). u.nones) views) v.nones sound.given least
        (λ x. alone (λ u. times x u.held) refl) (λ x. alone (λ u. times x u.done) refl) (alone (λ u. u.nones) refl) sound.state
      where
        alone : (f : View → ℕ) → f spent ≡ 0 → sum_by f views ≡ f v
        alone f none = sum_by-alone f (λ u. u.parts) views id v at (sound.whole ∙ sym all)
            (λ j u also no_part. ap f ((sound.each j u also).over no_part) ∙ none)

-- at the start no chunk is given, and no stopper is offered
pub first_sound : (plan : Plan) → 0 < plan.seats → plan.seats < 2 ^ 32 → column_count plan.inst.value < 2 ^ 32 → Sound plan 0 no_code (first_view plan ∷ [])
first_sound plan some_seats few_seats few_columns =
    let v = first_view plan in
    let nones = sum_by-cons (λ (u : View). u.nones) v [] in
    record {
      given = 0;
      few_seats = few_seats;
      few_columns = few_columns;
      claim_is = omega arith;
      whole = omega (arith, sum_by-cons (λ (u : View). u.parts) v []);
      state = record {
        within = omega arith;
        full = λ more. absurd (omega arith);
        once = λ x.
            omega (arith, sum_by-cons (λ (u : View). times x u.held) v [], sum_by-cons (λ (u : View). times x u.done) v [], once_below-out x 0 (omega arith));
        least = record {
          offered = inl refl;
          least = λ chunk more. absurd (omega (arith, sum_by-cons (λ (u : View). times chunk u.done) v []));
        };
      };
      each = alone;
    }
  where
    alone : (j : ℕ) (u : View) → get_elem? (first_view plan ∷ []) j ≡ some u → Fits plan no_code u
    alone zero u at = subst (Fits plan no_code) (some-injective (first_view plan) u at)
        (record { ends = omega arith; seen = omega arith; of_plan = λ _. refl; over = λ none. absurd (omega arith) })
    alone (suc j) u at = absurd (some-ne-none u (sym at))
