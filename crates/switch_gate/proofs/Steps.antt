-- Each kind of step keeps the rule.
use Rattle.std.proofs.Common.{◌≡◌, ◌≢◌, ℕ, zero, suc, ◌+◌, ◌%◌, ◌^◌, ◌<◌, ◌≤◌, ◌⊎◌, List, [], ◌∷◌, ◌++◌, Some, None, set, refl, sym, ap, ◌∙◌, arith, subst, ⊎_elim, inl, inr}
use Rattle.std.specs.Prelude.{Option as Optional}
use Rattle.std.specs.List.{sum_by, range_with_len}
use Rattle.std.proofs.lemmas.List.Sums.{sum_by_push}
use mathlib.Core.Option.{Option, none, some}
use lib.ListN.{get_elem?}
use Rattle.atomic_table.proofs.Lists.{at_set, at_snoc, one_turn}
use Rattle.counting.specs.Counting.{one_if, times, once_below}
use Rattle.counting.proofs.Sums.{sum_by-set_at, sum_by-at-le, sum_by-at_both-le, sum_by-le-each, sum_by-lt-each, sum_by-alone}
use Rattle.counting.proofs.Times.{one_if-same, once_below-in, once_below-out, once_below-le, once_below-next, times-append, times-range_with_len}
use Rattle.switch_gate.specs.declared.view.Place.TheVariants.{Idle, Waits, Called, Holds}
use Rattle.switch_gate.specs.declared.view.View.{View}
use Rattle.switch_gate.specs.Gates.{is_out, turn_at, has_slot, after_look, IsServed, placed, looked, taken, added, kept_part, given_part, joined, spent, Fits, Rests, Sound}
use Rattle.switch_gate.proofs.Places.{is_out-le, is_out-after_look, turn_at-after_look, has_slot-after_look, IsServed-after_look, has_slot-le-turn_at, IsServed-apart}

zero_or_more : (n : ℕ) → (n ≡ 0) ⊎ (0 < n)
zero_or_more zero = inl refl
zero_or_more (suc n) = inr (omega arith)

le_or_gt : (m n : ℕ) → (m ≤ n) ⊎ (n < m)
le_or_gt m n = grind arith

-- what holds of each view, after one changed
each_set : {V : Type 0} (P : V → Type 0) (views : List V) (id : ℕ) (w : V) → P w → ((j : ℕ) (u : V) → j ≢ id → get_elem? views j ≡ some u → P u)
    → (j : ℕ) (u : V) → get_elem? (set views id w) j ≡ some u → P u
each_set P views id w new others j u at =
    ⊎_elim (λ (here : (j ≡ id) × (w ≡ u)). subst P here.1 new)
    (λ (there : (j ≢ id) × (get_elem? views j ≡ some u)). others j u there.0 there.1) (at_set views id j w u at)

-- a turn that is out belongs to a view with a part
out_part : {L : Type 0} (base count : ℕ) (line : L) (v : View L) → Fits base count line v → is_out v.place ≤ v.parts
out_part {L = L} base count line v fits =
    ⊎_elim
    (λ (none : v.parts ≡ 0). let idle : is_out v.place ≡ 0 = ap (λ (u : View L). is_out u.place) (fits.over none) in omega arith)
    (λ (more : 0 < v.parts). omega (arith, is_out-le v.place))
    (zero_or_more v.parts)

some_lineage : {L : Type 0} {a b : L} → Some a ≡ Some b → a ≡ b
some_lineage e = cc

module _ {T L : Type 0} (number : T → ℕ) (lineage : T → L) (count : ℕ) (line : L) (holders : ℕ) where
  -- where nobody has the value it is in the slot
  rests_home : (home : Option (Optional T)) → Rests number lineage count line holders home → holders ≡ 0
      → (x : T) × (home ≡ some (Some x)) × (number x ≡ count) × (lineage x ≡ line)
  rests_home none rests nobody = absurd (omega arith)
  rests_home (some None) rests nobody = absurd rests
  rests_home (some (Some x)) rests nobody = (x, refl, rests.1, rests.2)

  -- and where somebody has it, it is not
  rests_none : (home : Option (Optional T)) → Rests number lineage count line holders home → holders ≡ 1 → home ≡ none
  rests_none none rests one = refl
  rests_none (some None) rests one = absurd rests
  rests_none (some (Some x)) rests one = absurd (omega (arith, rests.0))

module _ {T L : Type 0} (number : T → ℕ) (lineage : T → L) (parts : ℕ) (line : L) (turn serving count : ℕ) (home : Option (Optional T)) (views : List (View L))
    (sound : Sound number lineage parts line turn serving count home views) where
  -- fewer turns are out than a word has values
  few_out : sum_by (λ (v : View L). is_out v.place) views < 2 ^ 64
  few_out =
      let one_each : sum_by (λ (v : View L). is_out v.place) views ≤ sum_by (λ (v : View L). v.parts) views =
      sum_by-le-each (λ v. is_out v.place) (λ v. v.parts) views (λ j v at. out_part sound.base count line v (sound.each j v at))
      in
      let wide = sound.wide in
      let whole = sound.whole in
      omega arith

  -- a turn that is out lies from the one that is served up to below the next one
  turn_range : (id : ℕ) (v : View L) (t : ℕ) → get_elem? views id ≡ some v → turn_at t v.place ≡ 1 → (sound.base ≤ t) × (t < sound.drawn)
  turn_range id v t at here =
      let one : turn_at t v.place ≤ sum_by (λ (u : View L). turn_at t u.place) views = sum_by-at-le (λ u. turn_at t u.place) views id v at in
      let once = sound.turns t in
      let below : sound.base ≤ t = ⊎_elim (λ (le : sound.base ≤ t). le)
      (λ (gt : t < sound.base). absurd (omega (arith, once_below-in t sound.base gt, once_below-le t sound.drawn))) (le_or_gt sound.base t) in
      let above : t < sound.drawn = ⊎_elim (λ (le : sound.drawn ≤ t). absurd (omega (arith, once_below-out t sound.drawn le)))
      (λ (gt : t < sound.drawn). gt) (le_or_gt sound.drawn t) in
      (below, above)

  -- whoever is served is alone
  others_apart : (id j : ℕ) (v u : View L) → j ≢ id → get_elem? views id ≡ some v → get_elem? views j ≡ some u → turn_at sound.base v.place ≡ 1
      → turn_at sound.base u.place ≡ 0
  others_apart id j v u apart at also here =
      let both : turn_at sound.base u.place + turn_at sound.base v.place ≤ sum_by (λ (u : View L). turn_at sound.base u.place) views =
      sum_by-at_both-le (λ u. turn_at sound.base u.place) views j id u v apart also at
      in
      let once = sound.turns sound.base in
      omega (arith, once_below-le sound.base sound.drawn)

  -- while a view is called, nobody has the value
  nobody_has : (id : ℕ) (v : View L) → get_elem? views id ≡ some v → turn_at sound.base v.place ≡ 1 → has_slot v.place ≡ 0
      → sum_by (λ (u : View L). has_slot u.place) views ≡ 0
  nobody_has id v at here free =
      let less : sum_by (λ (u : View L). has_slot u.place) views < sum_by (λ (u : View L). turn_at sound.base u.place) views =
      sum_by-lt-each (λ u. has_slot u.place) (λ u. turn_at sound.base u.place) views id v at (omega arith)
      (λ j u also. has_slot-le-turn_at sound.base count u.seen u.place (sound.each j u also).served)
      in
      let once = sound.turns sound.base in
      omega (arith, once_below-le sound.base sound.drawn)

  -- the value is out with at most one view
  one_has : sum_by (λ (u : View L). has_slot u.place) views ≤ 1
  one_has =
      let le : sum_by (λ (u : View L). has_slot u.place) views ≤ sum_by (λ (u : View L). turn_at sound.base u.place) views =
      sum_by-le-each (λ u. has_slot u.place) (λ u. turn_at sound.base u.place) views
      (λ j u also. has_slot-le-turn_at sound.base count u.seen u.place (sound.each j u also).served)
      in
      let once = sound.turns sound.base in
      omega (arith, once_below-le sound.base sound.drawn)

  module _ (id : ℕ) (v : View L) (at : get_elem? views id ≡ some v) (some_parts : 0 < v.parts) where
    fits : Fits sound.base count line v
    fits = sound.each id v at

    -- a changed view that still has parts
    fits_new : (base' count' : ℕ) (w : View L) → w.seen ≤ count' → IsServed base' count' w.seen w.place → v.lineage ≡ w.lineage → 0 < w.parts
        → Fits base' count' line w
    fits_new base' count' w within served same more = record {
      within = within;
      served = served;
      of_line = λ _. sym same ∙ (sound.each id v at).of_line some_parts;
      over = λ none. absurd (omega arith);
    }

    -- another view, where this one is served
    fits_still : (base' count' : ℕ) → count ≤ count' → turn_at sound.base v.place ≡ 1 → (j : ℕ) (u : View L) → j ≢ id
        → get_elem? views j ≡ some u → Fits base' count' line u
    fits_still base' count' more here j u apart also =
        let was = sound.each j u also in record {
          within = omega (arith, was.within);
          served = IsServed-apart sound.base base' count count' u.seen u.place (others_apart id j v u apart at also here) was.served;
          of_line = was.of_line;
          over = was.over;
        }

    pub drawn_sound : v.place ≡ Idle
        → Sound number lineage parts line ((turn + 1) % 2 ^ 64) serving count home (set views id (placed v (Waits sound.drawn)))
    drawn_sound idle =
        let w = placed v (Waits sound.drawn) in record {
          base = sound.base;
          drawn = sound.drawn + 1;
          serving_is = sound.serving_is;
          turn_is = let is = sound.turn_is in omega arith;
          wide = sound.wide;
          whole = let s = sum_by-set_at (λ (u : View L). u.parts) views id v w at in let is = sound.whole in omega arith;
          out =
              let s = sum_by-set_at (λ (u : View L). is_out u.place) views id v w at in
              let is = sound.out in
              let was : is_out v.place ≡ 0 = ap is_out idle in
              omega arith;
          turns = λ x.
              let s = sum_by-set_at (λ (u : View L). turn_at x u.place) views id v w at in
              let is = sound.turns x in
              let was : turn_at x v.place ≡ 0 = ap (turn_at x) idle in
              omega (arith, once_below-next x sound.drawn);
          numbers = λ x. let s = sum_by-set_at (λ (u : View L). times x u.mine) views id v w at in let is = sound.numbers x in omega arith;
          rests =
              let s = sum_by-set_at (λ (u : View L). has_slot u.place) views id v w at in
              let was : has_slot v.place ≡ 0 = ap has_slot idle in
              let same : sum_by (λ (u : View L). has_slot u.place) views ≡ sum_by (λ (u : View L). has_slot u.place) (set views id w) = omega arith in
              subst (λ n. Rests number lineage count line n home) same sound.rests;
          each = each_set (Fits sound.base count line) views id w (fits_new sound.base count w fits.within tt refl some_parts)
              (λ j u _ also. sound.each j u also);
        }

    pub looked_sound : Sound number lineage parts line turn serving count home (set views id (looked serving v))
    looked_sound =
        let p = after_look serving v.place in
        let w = placed v p in
        let only : (t : ℕ) → v.place ≡ Waits t → t % 2 ^ 64 ≡ serving → t ≡ sound.base = λ t waits here.
        let mine : turn_at t v.place ≡ 1 = ap (turn_at t) waits ∙ one_if-same t t refl in
        let range = turn_range id v t at mine in
        let few = few_out in
        let out = sound.out in
        let is = sound.serving_is in
        sym (one_turn sound.base t (2 ^ 64) range.0 (omega arith) (sym is ∙ sym here))
        in record {
          base = sound.base;
          drawn = sound.drawn;
          serving_is = sound.serving_is;
          turn_is = sound.turn_is;
          wide = sound.wide;
          whole = let s = sum_by-set_at (λ (u : View L). u.parts) views id v w at in let is = sound.whole in omega arith;
          out = let s = sum_by-set_at (λ (u : View L). is_out u.place) views id v w at in let is = sound.out in omega (arith, is_out-after_look serving v.place);
          turns = λ x.
              let s = sum_by-set_at (λ (u : View L). turn_at x u.place) views id v w at in
              let is = sound.turns x in
              omega (arith, turn_at-after_look x serving v.place);
          numbers = λ x. let s = sum_by-set_at (λ (u : View L). times x u.mine) views id v w at in let is = sound.numbers x in omega arith;
          rests =
              let s = sum_by-set_at (λ (u : View L). has_slot u.place) views id v w at in
              let same : sum_by (λ (u : View L). has_slot u.place) views ≡ sum_by (λ (u : View L). has_slot u.place) (set views id w) =
              omega (arith, has_slot-after_look serving v.place) in
              subst (λ n. Rests number lineage count line n home) same sound.rests;
          each = each_set (Fits sound.base count line) views id w
              (fits_new sound.base count w (fits.within) (IsServed-after_look sound.base count v.seen serving v.place only fits.served) refl some_parts)
              (λ j u _ also. sound.each j u also);
        }

    module _ (t : ℕ) (called : v.place ≡ Called t) where
      called_served : t ≡ sound.base
      called_served = subst (λ p. IsServed sound.base count v.seen p) called fits.served

      called_here : turn_at sound.base v.place ≡ 1
      called_here = ap (turn_at sound.base) called ∙ one_if-same sound.base t (sym called_served)

      -- the value is in the slot, with the count for its number
      pub called_rests : (x : T) × (home ≡ some (Some x)) × (number x ≡ count) × (lineage x ≡ line)
      called_rests = rests_home number lineage count line _ home sound.rests (nobody_has id v at called_here (ap has_slot called))

      pub taken_sound : Sound number lineage parts line turn serving count none (set views id (taken t count v))
      taken_sound =
          let w = taken t count v in record {
            base = sound.base;
            drawn = sound.drawn;
            serving_is = sound.serving_is;
            turn_is = sound.turn_is;
            wide = sound.wide;
            whole = let s = sum_by-set_at (λ (u : View L). u.parts) views id v w at in let is = sound.whole in omega arith;
            out =
                let s = sum_by-set_at (λ (u : View L). is_out u.place) views id v w at in
                let is = sound.out in
                let was : is_out v.place ≡ 1 = ap is_out called in
                omega arith;
            turns = λ x.
                let s = sum_by-set_at (λ (u : View L). turn_at x u.place) views id v w at in
                let is = sound.turns x in
                let was : turn_at x v.place ≡ one_if x t = ap (turn_at x) called in
                omega arith;
            numbers = λ x. let s = sum_by-set_at (λ (u : View L). times x u.mine) views id v w at in let is = sound.numbers x in omega arith;
            rests =
                let s = sum_by-set_at (λ (u : View L). has_slot u.place) views id v w at in
                let was : has_slot v.place ≡ 0 = ap has_slot called in
                let nobody = nobody_has id v at called_here was in
                omega arith;
            each = each_set (Fits sound.base count line) views id w (fits_new sound.base count w (omega arith) (called_served, refl) refl some_parts)
                (λ j u _ also. sound.each j u also);
          }

    module _ (t : ℕ) (holding : v.place ≡ Holds t) where
      holding_served : (t ≡ sound.base) × (v.seen ≡ count)
      holding_served = subst (λ p. IsServed sound.base count v.seen p) holding fits.served

      holding_here : turn_at sound.base v.place ≡ 1
      holding_here = ap (turn_at sound.base) holding ∙ one_if-same sound.base t (sym holding_served.0)

      -- the slot is empty, and nobody else has the value
      holding_alone : sum_by (λ (u : View L). has_slot u.place) views ≡ 1
      holding_alone =
          let mine : has_slot v.place ≡ 1 = ap has_slot holding in
          let le : has_slot v.place ≤ sum_by (λ (u : View L). has_slot u.place) views = sum_by-at-le (λ u. has_slot u.place) views id v at in
          let most = one_has in
          omega arith

      pub added_sound : (k : ℕ) → v.seen + k < 2 ^ 64
          → Sound number lineage parts line turn serving ((count + k) % 2 ^ 64) home (set views id (added k v))
      added_sound k fit =
          let w = added k v in
          let seen = holding_served.1 in
          let more : (count + k) % 2 ^ 64 ≡ v.seen + k = omega arith in
          record {
            base = sound.base;
            drawn = sound.drawn;
            serving_is = sound.serving_is;
            turn_is = sound.turn_is;
            wide = sound.wide;
            whole = let s = sum_by-set_at (λ (u : View L). u.parts) views id v w at in let is = sound.whole in omega arith;
            out = let s = sum_by-set_at (λ (u : View L). is_out u.place) views id v w at in let is = sound.out in omega arith;
            turns = λ x. let s = sum_by-set_at (λ (u : View L). turn_at x u.place) views id v w at in let is = sound.turns x in omega arith;
            numbers = λ x.
                let s = sum_by-set_at (λ (u : View L). times x u.mine) views id v w at in
                let is = sound.numbers x in
                let here : once_below x v.seen ≡ once_below x count = ap (once_below x) seen in
                let there : once_below x ((count + k) % 2 ^ 64) ≡ once_below x (v.seen + k) = ap (once_below x) more in
                omega (arith, times-append x v.mine (range_with_len v.seen k), times-range_with_len x v.seen k);
            rests =
                let s = sum_by-set_at (λ (u : View L). has_slot u.place) views id v w at in
                let same : sum_by (λ (u : View L). has_slot u.place) (set views id w) ≡ 1 = let alone = holding_alone in omega arith in
                subst (λ h. Rests number lineage ((count + k) % 2 ^ 64) line (sum_by (λ (u : View L). has_slot u.place) (set views id w)) h)
                (sym (rests_none number lineage count line _ home sound.rests holding_alone)) same;
            each = each_set (Fits sound.base ((count + k) % 2 ^ 64) line) views id w
                (fits_new sound.base _ w (omega arith) (subst (λ p. IsServed sound.base ((count + k) % 2 ^ 64) (v.seen + k) p)
                (sym holding) (holding_served.0, sym more)) refl some_parts)
                (fits_still sound.base _ (omega arith) holding_here);
          }

      pub advanced_sound : (x : T) → number x ≡ v.seen → Some (lineage x) ≡ v.lineage
          → Sound number lineage parts line turn ((serving + 1) % 2 ^ 64) count (some (Some x)) (set views id (placed v Idle))
      advanced_sound x numbered of =
          let w = placed v Idle in
          let base_is = holding_served.0 in record {
            base = sound.base + 1;
            drawn = sound.drawn;
            serving_is = let is = sound.serving_is in omega arith;
            turn_is = sound.turn_is;
            wide = sound.wide;
            whole = let s = sum_by-set_at (λ (u : View L). u.parts) views id v w at in let is = sound.whole in omega arith;
            out =
                let s = sum_by-set_at (λ (u : View L). is_out u.place) views id v w at in
                let is = sound.out in
                let was : is_out v.place ≡ 1 = ap is_out holding in
                omega arith;
            turns = λ y.
                let s = sum_by-set_at (λ (u : View L). turn_at y u.place) views id v w at in
                let is = sound.turns y in
                let was : turn_at y v.place ≡ one_if y sound.base = ap (turn_at y) holding ∙ ap (one_if y) base_is in
                omega (arith, once_below-next y sound.base);
            numbers = λ y. let s = sum_by-set_at (λ (u : View L). times y u.mine) views id v w at in let is = sound.numbers y in omega arith;
            rests =
                let s = sum_by-set_at (λ (u : View L). has_slot u.place) views id v w at in
                let was : has_slot v.place ≡ 1 = ap has_slot holding in
                let alone = holding_alone in
                (omega arith, numbered ∙ holding_served.1, some_lineage (of ∙ fits.of_line some_parts));
            each = each_set (Fits (sound.base + 1) count line) views id w (fits_new (sound.base + 1) count w fits.within tt refl some_parts)
                (fits_still (sound.base + 1) count (omega arith) holding_here);
          }

    pub split_sound : (k : ℕ) → v.place ≡ Idle → 0 < k → k < v.parts
        → Sound number lineage parts line turn serving count home (set views id (kept_part k v) ++ given_part k v ∷ [])
    split_sound k idle given fewer =
        let w = kept_part k v in
        let g = given_part k v in
        record {
          base = sound.base;
          drawn = sound.drawn;
          serving_is = sound.serving_is;
          turn_is = sound.turn_is;
          wide = sound.wide;
          whole =
              let s = sum_by-set_at (λ (u : View L). u.parts) views id v w at in
              let is = sound.whole in
              omega (arith, sum_by_push (λ (u : View L). u.parts) (set views id w) g);
          out =
              let s = sum_by-set_at (λ (u : View L). is_out u.place) views id v w at in
              let is = sound.out in
              omega (arith, sum_by_push (λ (u : View L). is_out u.place) (set views id w) g);
          turns = λ x.
              let s = sum_by-set_at (λ (u : View L). turn_at x u.place) views id v w at in
              let is = sound.turns x in
              omega (arith, sum_by_push (λ (u : View L). turn_at x u.place) (set views id w) g);
          numbers = λ x.
              let s = sum_by-set_at (λ (u : View L). times x u.mine) views id v w at in
              let is = sound.numbers x in
              omega (arith, sum_by_push (λ (u : View L). times x u.mine) (set views id w) g);
          rests =
              let s = sum_by-set_at (λ (u : View L). has_slot u.place) views id v w at in
              let same : sum_by (λ (u : View L). has_slot u.place) views ≡ sum_by (λ (u : View L). has_slot u.place) (set views id w ++ g ∷ []) =
              omega (arith, sum_by_push (λ (u : View L). has_slot u.place) (set views id w) g)
              in
              subst (λ n. Rests number lineage count line n home) same sound.rests;
          each =
              let first = each_set (Fits sound.base count line) views id w
              (fits_new sound.base count w fits.within (subst (λ p. IsServed sound.base count v.seen p) (sym idle) tt) refl (omega arith))
              (λ j u _ also. sound.each j u also)
              in
              let second : Fits sound.base count line g = fits_new sound.base count g fits.within tt refl given in
              λ j u also. ⊎_elim (first j u) (λ (here : g ≡ u). subst (Fits sound.base count line) here second) (at_snoc (set views id w) g u j also);
        }

    module _ (other : ℕ) (w : View L) (apart : ¬ (other ≡ id)) (also : get_elem? (set views id (joined v w)) other ≡ some w) where
      pub joined_sound : v.place ≡ Idle → w.place ≡ Idle
          → Sound number lineage parts line turn serving count home (set (set views id (joined v w)) other spent)
      joined_sound idle free =
          let b = joined v w in
          let middle = set views id b in
          let there : get_elem? views other ≡ some w = ⊎_elim (λ (here : (other ≡ id) × (b ≡ w)). absurd (apart here.0))
          (λ (x : (other ≢ id) × (get_elem? views other ≡ some w)). x.1) (at_set views id other b w also) in
          let theirs = sound.each other w there in
          let spent' : View L = spent in
          record {
            base = sound.base;
            drawn = sound.drawn;
            serving_is = sound.serving_is;
            turn_is = sound.turn_is;
            wide = sound.wide;
            whole =
                let s = sum_by-set_at (λ (u : View L). u.parts) views id v b at in
                let s' = sum_by-set_at (λ (u : View L). u.parts) middle other w spent' also in
                let is = sound.whole in
                omega arith;
            out =
                let s = sum_by-set_at (λ (u : View L). is_out u.place) views id v b at in
                let s' = sum_by-set_at (λ (u : View L). is_out u.place) middle other w spent' also in
                let none : is_out w.place ≡ 0 = ap is_out free in
                let is = sound.out in
                omega arith;
            turns = λ x.
                let s = sum_by-set_at (λ (u : View L). turn_at x u.place) views id v b at in
                let s' = sum_by-set_at (λ (u : View L). turn_at x u.place) middle other w spent' also in
                let none : turn_at x w.place ≡ 0 = ap (turn_at x) free in
                let is = sound.turns x in
                omega arith;
            numbers = λ x.
                let s = sum_by-set_at (λ (u : View L). times x u.mine) views id v b at in
                let s' = sum_by-set_at (λ (u : View L). times x u.mine) middle other w spent' also in
                let is = sound.numbers x in
                omega (arith, times-append x v.mine w.mine);
            rests =
                let s = sum_by-set_at (λ (u : View L). has_slot u.place) views id v b at in
                let s' = sum_by-set_at (λ (u : View L). has_slot u.place) middle other w spent' also in
                let none : has_slot w.place ≡ 0 = ap has_slot free in
                let same : sum_by (λ (u : View L). has_slot u.place) views ≡ sum_by (λ (u : View L). has_slot u.place) (set middle other spent') = omega arith in
                subst (λ n. Rests number lineage count line n home) same sound.rests;
            each = each_set (Fits sound.base count line) middle other spent'
                (record { within = omega arith; served = tt; of_line = λ more. absurd (omega arith); over = λ _. refl })
                (λ j u _ here. each_set (Fits sound.base count line) views id b
                (fits_new sound.base count b (let mine = fits.within in let their = theirs.within in omega arith)
                (subst (λ p. IsServed sound.base count (joined v w).seen p) (sym idle) tt) refl (omega arith))
                (λ k x _ seen. sound.each k x seen) j u here);
          }

    -- with all parts, it has all numbers, and the value rests in the slot
    module _ (idle : v.place ≡ Idle) (all : v.parts ≡ parts) where
      pub alone_numbers : (x : ℕ) → times x v.mine ≡ once_below x count
      alone_numbers x =
          let one : sum_by (λ (u : View L). times x u.mine) views ≡ times x v.mine =
          sum_by-alone (λ u. times x u.mine) (λ u. u.parts) views id v at (sound.whole ∙ sym all)
          (λ j u also none. ap (λ (y : View L). times x y.mine) ((sound.each j u also).over none))
          in sym one ∙ sound.numbers x

      pub alone_rests : (x : T) × (home ≡ some (Some x)) × (number x ≡ count) × (lineage x ≡ line)
      alone_rests =
          let one : sum_by (λ (u : View L). has_slot u.place) views ≡ has_slot v.place =
          sum_by-alone (λ u. has_slot u.place) (λ u. u.parts) views id v at (sound.whole ∙ sym all)
          (λ j u also none. ap (λ (y : View L). has_slot y.place) ((sound.each j u also).over none))
          in rests_home number lineage count line _ home sound.rests (one ∙ ap has_slot idle)
