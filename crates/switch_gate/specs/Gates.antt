-- What passes know of a gate, the rule of its table, and what each kind of step changes.
use Rattle.std.specs.Prelude.{◌≡◌, ℕ, ◌+◌, ◌-◌, ◌%◌, ◌^◌, ◌<◌, ◌≤◌, ◌==◌, if◌then◌else◌, List, [], ◌∷◌, ◌++◌, Some, None, max, sum_by}
use Rattle.std.specs.Prelude.{Option as Optional}
use Rattle.std.specs.List.{range_with_len}
use mathlib.Core.Option.{Option, none, some}
use lib.ListN.{get_elem?}
use Rattle.atomic_table.specs.Table.{State, Me, rest}
use Rattle.counting.specs.Counting.{one_if, times, once_below}
use Rattle.switch_gate.specs.declared.view.Place.{Place}
use Rattle.switch_gate.specs.declared.view.Place.TheVariants.{Idle, Waits, Called, Holds}
use Rattle.switch_gate.specs.declared.view.View.{View}
use Rattle.switch_gate.specs.declared.view.Start.{Start}

-- 1 where a turn is out
abbrev pub is_out : Place → ℕ
is_out Idle = 0
is_out (Waits t) = 1
is_out (Called t) = 1
is_out (Holds t) = 1

-- 1 where the turn x is out
abbrev pub turn_at : ℕ → Place → ℕ
turn_at x Idle = 0
turn_at x (Waits t) = one_if x t
turn_at x (Called t) = one_if x t
turn_at x (Holds t) = one_if x t

-- 1 where the value is out
abbrev pub has_slot : Place → ℕ
has_slot Idle = 0
has_slot (Waits t) = 0
has_slot (Called t) = 0
has_slot (Holds t) = 1

-- the turn is called where it is the one that is served
abbrev pub after_look : ℕ → Place → Place
after_look found Idle = Idle
after_look found (Waits t) = if t % 2 ^ 64 == found then Called t else Waits t
after_look found (Called t) = Called t
after_look found (Holds t) = Holds t

-- what the rule says of a place: a turn that is called is the one that is served, and who has the value has seen the count
abbrev pub IsServed : (base count seen : ℕ) → Place → Type 0
IsServed base count seen Idle = Unit {0}
IsServed base count seen (Waits t) = Unit {0}
IsServed base count seen (Called t) = t ≡ base
IsServed base count seen (Holds t) = (t ≡ base) × (seen ≡ count)

module _ {L : Type 0} where
  abbrev pub placed : View L → Place → View L
  placed v p = record { parts = v.parts; seen = v.seen; mine = v.mine; place = p; lineage = v.lineage }

  abbrev pub looked : ℕ → View L → View L
  looked found v = placed v (after_look found v.place)

  -- the value is out with the view, at its turn t and this number
  abbrev pub taken : ℕ → ℕ → View L → View L
  taken t number v = record { parts = v.parts; seen = number; mine = v.mine; place = Holds t; lineage = v.lineage }

  -- k numbers more
  abbrev pub added : ℕ → View L → View L
  added k v = record { parts = v.parts; seen = v.seen + k; mine = v.mine ++ range_with_len v.seen k; place = v.place; lineage = v.lineage }

  abbrev pub kept_part : ℕ → View L → View L
  kept_part k v = record { parts = v.parts - k; seen = v.seen; mine = v.mine; place = v.place; lineage = v.lineage }

  abbrev pub given_part : ℕ → View L → View L
  given_part k v = record { parts = k; seen = v.seen; mine = []; place = Idle; lineage = v.lineage }

  abbrev pub joined : View L → View L → View L
  joined v w = record { parts = v.parts + w.parts; seen = max v.seen w.seen; mine = v.mine ++ w.mine; place = v.place; lineage = v.lineage }

  abbrev pub spent : View L
  spent = record { parts = 0; seen = 0; mine = []; place = Idle; lineage = None }

  module _ {S : Type 0} where
    -- a turn is drawn, which is the word found modulo 2^64
    abbrev pub Draws : Me S (View L) → ℕ → Me S (View L) → Type 0
    Draws m found m' = (t : ℕ) × (t % 2 ^ 64 ≡ found) × (m' ≡ (placed m.0 (Waits t), m.1))

    abbrev pub Looks : Me S (View L) → ℕ → Me S (View L) → Type 0
    Looks m found m' = m' ≡ (looked found m.0, m.1)

    abbrev pub Adds : ℕ → Me S (View L) → Me S (View L) → Type 0
    Adds k m m' = m' ≡ (added k m.0, m.1)

    -- the turn is over, and the slot is given back
    abbrev pub Advances : Me S (View L) → Me S (View L) → Type 0
    Advances m m' = m' ≡ (placed m.0 Idle, rest m.1)

  -- a view under the rule: `base` is the turn that is served
  pub record Fits (base count : ℕ) (line : L) (v : View L) : Type 0 where
    pub within : v.seen ≤ count
    pub served : IsServed base count v.seen v.place
    pub of_line : 0 < v.parts → v.lineage ≡ Some line
    pub over : v.parts ≡ 0 → v ≡ spent

-- all parts, and nothing seen
abbrev pub first_view : {T L : Type 0} → (T → L) → Start T → View L
first_view lineage start = record { parts = start.parts; seen = 0; mine = []; place = Idle; lineage = Some (lineage start.value.value) }

module _ {T L : Type 0} (number : T → ℕ) (lineage : T → L) where
  -- the value is taken out of the slot, its number is the count that was found, and it is of the gate's lineage
  abbrev pub Takes : Me (Optional T) (View L) → ℕ → Me (Optional T) (View L) → Type 0
  Takes m found m' =
      (t : ℕ) × (x : T) × (m.0.place ≡ Called t) × (number x ≡ found) × (Some (lineage x) ≡ m.0.lineage) × (m.0.seen ≤ found) × (m' ≡ (taken t found m.0, (0, Some x) ∷ m.1))

  -- what is in the slot, where this many views hold the value
  abbrev pub Rests : ℕ → L → ℕ → Option (Optional T) → Type 0
  Rests count line holders none = holders ≡ 1
  Rests count line holders (some None) = ⊥
  Rests count line holders (some (Some x)) = (holders ≡ 0) × (number x ≡ count) × (lineage x ≡ line)

  -- Turns are counted without an end: `base` is served, and `drawn` is drawn next
  pub record Sound (parts : ℕ) (line : L) (turn serving count : ℕ) (home : Option (Optional T)) (views : List (View L)) : Type 0 where
    pub base : ℕ
    pub drawn : ℕ
    pub serving_is : serving ≡ base % 2 ^ 64
    pub turn_is : turn ≡ drawn % 2 ^ 64
    pub wide : parts < 2 ^ 64
    pub whole : sum_by (λ v. v.parts) views ≡ parts
    pub out : drawn ≡ base + sum_by (λ v. is_out v.place) views
    -- each turn from `base` up to below `drawn` is out with one view, and no other turn is out
    pub turns : (x : ℕ) → sum_by (λ v. turn_at x v.place) views + once_below x base ≡ once_below x drawn
    -- each number below the count was added by one view, once, and no other number was added
    pub numbers : (x : ℕ) → sum_by (λ v. times x v.mine) views ≡ once_below x count
    pub rests : Rests count line (sum_by (λ v. has_slot v.place) views) home
    pub each : (j : ℕ) (v : View L) → get_elem? views j ≡ some v → Fits base count line v

  -- the rule
  pub record Kept (start : Start T) (s : State (Optional T) (View L)) : Type 0 where
    pub turn : ℕ
    pub serving : ℕ
    pub count : ℕ
    pub home : Option (Optional T)
    pub words : s.words ≡ turn ∷ serving ∷ count ∷ []
    pub homes : s.homes ≡ home ∷ []
    pub sound : Sound start.parts (lineage start.value.value) turn serving count home s.views
