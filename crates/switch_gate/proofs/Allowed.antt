-- What the table asks of each kind of step, from what the step keeps.
use Rattle.std.proofs.Common.{◌≡◌, ℕ, ◌+◌, ◌%◌, ◌^◌, ◌<◌, ◌≤◌, List, [], ◌∷◌, Some, refl, sym, ap, ◌∙◌, arith, subst}
use Rattle.std.specs.Prelude.{Option as Optional, slice_index, slice_set}
use mathlib.Core.Option.{Option, none, some, some-injective}
use lib.ListN.{get_elem?}
use Rattle.atomic_table.specs.Table.{Me, Act, keeps, takes, gives, put_back, Final, Seen, Allows, Splits, Joins, Valid, stepped, carried_after}
use Rattle.counting.specs.Counting.{once_below, HasEachOnce}
use Rattle.switch_gate.specs.declared.view.Place.TheVariants.{Idle, Waits, Called, Holds}
use Rattle.switch_gate.specs.declared.view.View.{View}
use Rattle.switch_gate.specs.declared.view.Start.{Start}
use Rattle.switch_gate.specs.Gates.{placed, looked, taken, added, kept_part, given_part, joined, spent, Draws, Looks, Adds, Advances, Takes, Sound, Kept}
use Rattle.switch_gate.proofs.Steps.{drawn_sound, looked_sound, called_rests, taken_sound, added_sound, advanced_sound, split_sound, joined_sound, alone_numbers, alone_rests}

module _ {T L : Type 0} (number : T → ℕ) (lineage : T → L) (start : Start T) where
  module _ (slots id : ℕ) (me : Me (Optional T) (View L)) where
    -- a step from words and a slot that are known
    from_known : (i : ℕ) (f : ℕ → ℕ) (then : ℕ → Me (Optional T) (View L) → Type 0)
        → ((turn serving count : ℕ) (home : Option (Optional T)) (views : List (View L))
        → Sound number lineage start.parts (lineage start.value.value) turn serving count home views → get_elem? views id ≡ some me.0
        → (w : View L) × (a : Act (Optional T)) × Valid (home ∷ []) me.1 a
        × Kept number lineage start (stepped (record { words = turn ∷ serving ∷ count ∷ []; homes = home ∷ []; views = views })
        i (f (slice_index (turn ∷ serving ∷ count ∷ []) i)) id me.1 w a)
        × then (slice_index (turn ∷ serving ∷ count ∷ []) i) (w, carried_after me.1 a))
        → Allows (Kept number lineage start) slots id me i f then
    from_known i f then step s kept len at small =
        let Goal : List ℕ → List (Option (Optional T)) → Type 0 = λ ws hs.
        (w : View L) × (a : Act (Optional T)) × Valid hs me.1 a
        × Kept number lineage start (stepped (record { words = ws; homes = hs; views = s.views }) i (f (slice_index ws i)) id me.1 w a)
        × then (slice_index ws i) (w, carried_after me.1 a)
        in
        subst (λ hs. Goal s.words hs) (sym kept.homes)
        (subst (λ ws. Goal ws (kept.home ∷ [])) (sym kept.words) (step kept.turn kept.serving kept.count kept.home s.views kept.sound at))

    module _ (some_parts : 0 < me.0.parts) where
      pub draws : me.0.place ≡ Idle → Allows (Kept number lineage start) slots id me 0 (λ n. (n + 1) % 2 ^ 64) (Draws me)
      draws idle = from_known 0 _ (Draws me) λ turn serving count home views sound at. (
        placed me.0 (Waits sound.drawn),
        keeps,
        tt,
        record {
          turn = (turn + 1) % 2 ^ 64;
          serving = serving;
          count = count;
          home = home;
          words = refl;
          homes = refl;
          sound = drawn_sound number lineage _ _ turn serving count home views sound id me.0 at some_parts idle;
        },
        (sound.drawn, sym sound.turn_is, refl),
      )

      pub looks : Allows (Kept number lineage start) slots id me 1 (λ n. n) (Looks me)
      looks = from_known 1 (λ n. n) (Looks me) λ turn serving count home views sound at. (
        looked serving me.0,
        keeps,
        tt,
        record {
          turn = turn;
          serving = serving;
          count = count;
          home = home;
          words = refl;
          homes = refl;
          sound = looked_sound number lineage _ _ turn serving count home views sound id me.0 at some_parts;
        },
        refl,
      )

      pub takes_value : (t : ℕ) → me.0.place ≡ Called t → Allows (Kept number lineage start) slots id me 2 (λ n. n) (Takes number lineage me)
      takes_value t called = from_known 2 (λ n. n) (Takes number lineage me) λ turn serving count home views sound at.
          let rests = called_rests number lineage _ _ turn serving count home views sound id me.0 at some_parts t called in
          let fits = sound.each id me.0 at in (
            taken t count me.0,
            takes 0 (Some rests.0),
            ap some rests.1,
            record {
              turn = turn;
              serving = serving;
              count = count;
              home = none;
              words = refl;
              homes = refl;
              sound = taken_sound number lineage _ _ turn serving count home views sound id me.0 at some_parts t called;
            },
            (t, rests.0, called, rests.2, ap Some rests.3 ∙ sym (fits.of_line some_parts), fits.within, refl),
          )

      pub adds : (t k : ℕ) → me.0.place ≡ Holds t → me.0.seen + k < 2 ^ 64
          → Allows (Kept number lineage start) slots id me 2 (λ n. (n + k) % 2 ^ 64) (λ n m'. Adds k me m')
      adds t k holding fit = from_known 2 _ (λ n m'. Adds k me m') λ turn serving count home views sound at. (
        added k me.0,
        keeps,
        tt,
        record {
          turn = turn;
          serving = serving;
          count = (count + k) % 2 ^ 64;
          home = home;
          words = refl;
          homes = refl;
          sound = added_sound number lineage _ _ turn serving count home views sound id me.0 at some_parts t holding k fit;
        },
        refl,
      )

      pub advances : (t : ℕ) (x : T) → me.0.place ≡ Holds t → me.1 ≡ (0, Some x) ∷ [] → number x ≡ me.0.seen → Some (lineage x) ≡ me.0.lineage
          → Allows (Kept number lineage start) slots id me 1 (λ n. (n + 1) % 2 ^ 64) (λ n m'. Advances me m')
      advances t x holding slot numbered of = from_known 1 _ (λ n m'. Advances me m') λ turn serving count home views sound at.
          let given : slice_set (home ∷ []) 0 (some (Some x)) ≡ put_back (home ∷ []) me.1 = ap (put_back (home ∷ [])) (sym slot) in (
            placed me.0 Idle,
            gives,
            tt,
            record {
              turn = turn;
              serving = (serving + 1) % 2 ^ 64;
              count = count;
              home = some (Some x);
              words = refl;
              homes = sym given;
              sound = advanced_sound number lineage _ _ turn serving count home views sound id me.0 at some_parts t holding x numbered of;
            },
            refl,
          )

  pub splits : (k id : ℕ) (v : View L) → v.place ≡ Idle → 0 < k → k < v.parts
      → Splits (Kept number lineage start) id v (kept_part k v) (given_part k v)
  splits k id v idle given fewer s kept at = record {
    turn = kept.turn;
    serving = kept.serving;
    count = kept.count;
    home = kept.home;
    words = kept.words;
    homes = kept.homes;
    sound = split_sound number lineage _ _ kept.turn kept.serving kept.count kept.home s.views kept.sound id v at (omega arith) k idle given fewer;
  }

  pub joins : (id : ℕ) (v : View L) (other : ℕ) (w : View L) → v.place ≡ Idle → w.place ≡ Idle → 0 < v.parts
      → Joins (Kept number lineage start) id v other w (joined v w) spent
  joins id v other w idle free some_parts s kept at apart also = record {
    turn = kept.turn;
    serving = kept.serving;
    count = kept.count;
    home = kept.home;
    words = kept.words;
    homes = kept.homes;
    sound = joined_sound number lineage _ _ kept.turn kept.serving kept.count kept.home s.views kept.sound id v at some_parts other w apart also idle free;
  }

  -- what the pass with all parts knows at the end of what is in the slot
  module _ (id : ℕ) (v : View L) (words : List ℕ) (slots : List (Optional T))
      (final : Final (Seen (Kept number lineage start) id v) words slots) (idle : v.place ≡ Idle) (some_parts : 0 < v.parts) (all : v.parts ≡ start.parts) where
    pub ends : (left : Optional T) → get_elem? slots 0 ≡ some left
        → (x : T) × (left ≡ Some x) × (lineage x ≡ lineage start.value.value) × (v.seen ≤ number x) × HasEachOnce v.mine (number x)
    ends left there =
        let s = final.0 in
        let kept = final.1.0 in
        let at = final.1.1 in
        let rests = alone_rests number lineage _ _ kept.turn kept.serving kept.count kept.home s.views kept.sound id v at some_parts idle all in
        let home : get_elem? s.homes 0 ≡ some (some (Some rests.0)) = ap (λ hs. get_elem? hs 0) kept.homes ∙ ap some rests.1 in
        let within = (kept.sound.each id v at).within in
        let numbered = rests.2 in (
          rests.0,
          some-injective left (Some rests.0) (sym there ∙ final.4 0 (Some rests.0) home),
          rests.3,
          omega arith,
          λ x. alone_numbers number lineage _ _ kept.turn kept.serving kept.count kept.home s.views kept.sound id v at some_parts idle all x
              ∙ ap (once_below x) (sym rests.2),
        )
