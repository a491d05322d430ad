-- What the table asks of each kind of step, from what the step keeps.
use Rattle.std.proofs.Common.{◌≡◌, ℕ, ◌+◌, ◌%◌, ◌^◌, ◌<◌, ◌≤◌, ◌⊎◌, List, [], ◌∷◌, Some, min, refl, sym, ap, ◌∙◌, arith, subst, ⊎_elim, inl, inr}
use Rattle.std.specs.Prelude.{slice_index, sum_by}
use mathlib.Core.Option.{Option, some}
use lib.ListN.{get_elem?}
use Rattle.atomic_table.specs.Table.{Me, Act, keeps, Allows, Splits, Joins, Valid, stepped, carried_after}
use Rattle.counting.specs.Counting.{times}
use Rattle.price_round.specs.declared.view.Plan.{Plan}
use Rattle.price_round.specs.declared.view.View.{View}
use Rattle.price_round.specs.Rounds.{chunk_count, no_code, NoneBelow, IsCodeIn, IsState, claimed, refused, offered, glanced, joined, spent, Claims, Offers, Glances, Sound, Kept}
use Rattle.price_round.specs.Inner.{IsCut}
use Rattle.price_round.proofs.Codes.{le_or_gt, some_same}
use Rattle.price_round.proofs.Steps.{fits, mine_below, given_is, claimed_sound, refused_sound, offered_sound, glanced_sound, cut_sound, joined_sound, whole_state}

module _ {S : Type 0} (plan : Plan) where
  module _ (slots id : ℕ) (me : Me S View) where
    -- a step from words that are known
    from_known : (i : ℕ) (f : ℕ → ℕ) (then : ℕ → Me S View → Type 0)
        → ((claim least : ℕ) (homes : List (Option S)) (views : List View) → Sound plan claim least views → get_elem? views id ≡ some me.0
        → (w : View) × (a : Act S) × Valid homes me.1 a
        × Kept plan (stepped (record { words = claim ∷ least ∷ []; homes = homes; views = views }) i (f (slice_index (claim ∷ least ∷ []) i)) id me.1 w a)
        × then (slice_index (claim ∷ least ∷ []) i) (w, carried_after me.1 a))
        → Allows (Kept plan) slots id me i f then
    from_known i f then step s kept len at small =
        let Goal : List ℕ → Type 0 = λ ws.
        (w : View) × (a : Act S) × Valid s.homes me.1 a
        × Kept plan (stepped (record { words = ws; homes = s.homes; views = s.views }) i (f (slice_index ws i)) id me.1 w a)
        × then (slice_index ws i) (w, carried_after me.1 a)
        in
        subst Goal (sym kept.words) (step kept.claim kept.least s.homes s.views kept.sound at)

    module _ (some_parts : 0 < me.0.parts) (of_plan : me.0.plan ≡ Some plan) where
      pub claims : me.0.nones < me.0.parts → Allows (Kept plan) slots id me 0 (λ n. (n + 1) % 2 ^ 64) (Claims me)
      claims first = from_known 0 _ (Claims me) λ claim least homes views sound at.
          ⊎_elim
          (λ (passed : chunk_count plan.inst.value ≤ claim). (
            refused me.0,
            keeps,
            tt,
            record {
              claim = (claim + 1) % 2 ^ 64;
              least = least;
              words = refl;
              sound = refused_sound plan claim least views sound id me.0 at some_parts passed first;
            },
            λ p is. let same : p ≡ plan = some_same (sym is ∙ of_plan) in
                let count : chunk_count p.inst.value ≡ chunk_count plan.inst.value = ap (λ (q : Plan). chunk_count q.inst.value) same in
                (λ less. absurd (omega arith), λ _. refl),
          ))
          (λ (less : claim < chunk_count plan.inst.value).
          let given = given_is plan claim least views sound less in (
            claimed claim me.0,
            keeps,
            tt,
            record {
              claim = (claim + 1) % 2 ^ 64;
              least = least;
              words = refl;
              sound = claimed_sound plan claim least views sound id me.0 at some_parts less;
            },
            λ p is. let same : p ≡ plan = some_same (sym is ∙ of_plan) in
                let count : chunk_count p.inst.value ≡ chunk_count plan.inst.value = ap (λ (q : Plan). chunk_count q.inst.value) same in
                (λ _. (refl, λ x more. let below = mine_below plan claim least views sound id me.0 at x more in omega arith), λ passed. absurd (omega arith)),
          ))
          (le_or_gt (chunk_count plan.inst.value) claim)

      pub offers : (k code : ℕ) → 0 < times k me.0.held → (code ≡ no_code) ⊎ IsCodeIn plan k code → NoneBelow plan k (min me.0.seen code)
          → Allows (Kept plan) slots id me 1 (λ n. min n code) (λ n m'. Offers k code me m')
      offers k code holds found clear = from_known 1 _ (λ n m'. Offers k code me m') λ claim least homes views sound at. (
        offered k code me.0,
        keeps,
        tt,
        record {
          claim = claim;
          least = min least code;
          words = refl;
          sound = offered_sound plan claim least views sound id me.0 at some_parts k code holds found clear;
        },
        refl,
      )

      pub glances : Allows (Kept plan) slots id me 1 (λ n. n) (Glances me)
      glances = from_known 1 (λ n. n) (Glances me) λ claim least homes views sound at. (
        glanced least me.0,
        keeps,
        tt,
        record {
          claim = claim;
          least = least;
          words = refl;
          sound = glanced_sound plan claim least views sound id me.0 at some_parts;
        },
        record {
          view = refl;
          lower = (fits plan claim least views sound id me.0 at).seen;
          code = λ p is.
              subst (λ (q : Plan). (least ≡ no_code) ⊎ ((chunk : ℕ) × IsCodeIn q chunk least)) (some_same (sym of_plan ∙ is))
              (⊎_elim (λ (e : least ≡ no_code). inl e)
              (λ (c : (chunk : ℕ) × (0 < sum_by (λ (u : View). times chunk u.done) views) × IsCodeIn plan chunk least). inr (c.0, c.2)) sound.state.least.offered);
          whole = λ p is.
              subst (λ (q : Plan). me.0.parts ≡ q.seats
              → (given : ℕ) × IsState q (λ x. times x me.0.held) (λ x. times x me.0.done) me.0.nones given least) (some_same (sym of_plan ∙ is))
              (λ all. (sound.given, whole_state plan claim least views sound id me.0 at all));
        },
      )

  pub cuts : (id : ℕ) (v l r : View) → IsCut v l r → Splits (Kept {S = S} plan) id v l r
  cuts id v l r cut s kept at = record {
    claim = kept.claim;
    least = kept.least;
    words = kept.words;
    sound = cut_sound plan kept.claim kept.least s.views kept.sound id v at l r cut;
  }

  pub joins : (id : ℕ) (v : View) (other : ℕ) (w : View) → 0 < v.parts → Joins (Kept {S = S} plan) id v other w (joined v w) spent
  joins id v other w some_parts s kept at apart also = record {
    claim = kept.claim;
    least = kept.least;
    words = kept.words;
    sound = joined_sound plan kept.claim kept.least s.views kept.sound id v at other w apart also some_parts;
  }
