-- Cards of the bounds.
use Rattle.std.specs.Prelude.{ℕ, ◌^◌, List, [], ◌∷◌, Option, Some, None, Result, Ok, Err, Bool, true, false, ◌&&◌, ◌||◌, ◌==◌, not, pos, if◌then◌else◌, codes}
use Rattle.std.specs.List.{list_any}
use Rattle.rational.specs.Rational.{ℚ, le_ℚ, lt_ℚ, neg_ℚ, whole, zero_ℚ}
use Rattle.lp_model.specs.Deck.{Interval, column}
use Rattle.lp_model.specs.Edit.{find_column, same_bytes, with_bounds}
use Rattle.lp_text.specs.Cards.{field_of}
use Rattle.lp_text.specs.declared.LineFault.{LineFault}
use Rattle.lp_text.specs.declared.LineFault.TheVariants as fault
use Rattle.mps_model.specs.declared.BoundKind.{BoundKind}
use Rattle.mps_model.specs.declared.BoundKind.TheVariants.{Fixed, Free, Lower, Minus, Plus, Upper}
use Rattle.mps_model.specs.PairCards.{number_in}
use Rattle.mps_model.specs.DeckSoFar.{DeckSoFar, and_then, is_among}

-- ── kinds ──

-- the kinds of integer and semicontinuous columns
abbrev pub integer_kinds : List (List ℕ)
integer_kinds = codes "BV" ∷ codes "LI" ∷ codes "UI" ∷ codes "SC" ∷ []

-- the kind of a word: an integer one is a fault of its own
abbrev pub kind_of : List ℕ → Result BoundKind LineFault
kind_of word =
    if same_bytes word (codes "UP") then Ok Upper
    else if same_bytes word (codes "LO") then Ok Lower
    else if same_bytes word (codes "FX") then Ok Fixed
    else if same_bytes word (codes "FR") then Ok Free
    else if same_bytes word (codes "MI") then Ok Minus
    else if same_bytes word (codes "PL") then Ok Plus
    else if is_among word integer_kinds then Err fault.Integer
    else Err fault.Bound

-- whether a bound of the kind has a number
abbrev pub has_number : BoundKind → Bool
has_number Upper = true
has_number Lower = true
has_number Fixed = true
has_number Free = false
has_number Minus = false
has_number Plus = false

-- whether a bound of the kind sets the lower end
abbrev pub sets_lower : BoundKind → Bool
sets_lower Upper = false
sets_lower Lower = true
sets_lower Fixed = true
sets_lower Free = true
sets_lower Minus = true
sets_lower Plus = false

-- ── ends ──

-- a number from 10^30 on is infinite, and one from -10^30 down is
abbrev pub infinity : ℚ
infinity = whole (pos (10 ^ 30))

-- 10^30 or more
abbrev pub is_plus_infinity : ℚ → Bool
is_plus_infinity v = le_ℚ infinity v

-- -10^30 or less
abbrev pub is_minus_infinity : ℚ → Bool
is_minus_infinity v = le_ℚ v (neg_ℚ infinity)

-- an upper end at the number, absent where that is ∞
abbrev pub upper_end : ℚ → Option ℚ
upper_end v = if is_plus_infinity v then None else Some v

-- a lower end at the number, absent where that is -∞
abbrev pub lower_end : ℚ → Option ℚ
lower_end v = if is_minus_infinity v then None else Some v

-- an infinity that the kind does not admit
abbrev pub is_wrong_infinity : BoundKind → ℚ → Bool
is_wrong_infinity Upper v = is_minus_infinity v
is_wrong_infinity Lower v = is_plus_infinity v
is_wrong_infinity Fixed v = is_minus_infinity v || is_plus_infinity v
is_wrong_infinity Free v = false
is_wrong_infinity Minus v = false
is_wrong_infinity Plus v = false

-- the bounds of a column after a bound of the kind with the number; an upper end below 0 takes away a lower end that no bound has set
abbrev pub bounds_after : BoundKind → ℚ → Bool → Interval → Interval
bounds_after Upper v has_lower before = record { lower = if lt_ℚ v zero_ℚ && not has_lower then None else before.lower; upper = upper_end v }
bounds_after Lower v has_lower before = record before { lower = lower_end v }
bounds_after Fixed v has_lower before = record { lower = Some v; upper = Some v }
bounds_after Free v has_lower before = record { lower = None; upper = None }
bounds_after Minus v has_lower before = record before { lower = None }
bounds_after Plus v has_lower before = record before { upper = None }

-- ── cards ──

-- the number of a bound, which may not be a wrong infinity; a kind without a number leaves the field unread
abbrev pub bound_number : BoundKind → List ℕ → Result ℚ LineFault
bound_number kind text =
    if has_number kind then and_then (number_in text) (λ v. if is_wrong_infinity kind v then Err fault.Bound else Ok v)
    else Ok zero_ℚ

-- the deck so far with a bound of column j
abbrev pub with_bound : DeckSoFar → BoundKind → ℕ → ℚ → DeckSoFar
with_bound s kind j v = record s {
  deck = with_bounds s.deck j (bounds_after kind v (list_any (λ k. k == j) s.lowered) (column s.deck j).bounds);
  lowered = if sets_lower kind then j ∷ s.lowered else s.lowered;
}

-- a bound of a known kind
abbrev pub judge_bound_of : DeckSoFar → BoundKind → List (List ℕ) → Result DeckSoFar LineFault
judge_bound_of s kind fields =
    elim (find_column s.deck (field_of fields 3)) [
      | None ↦ Err fault.UnknownColumn
      | Some j ↦ and_then (bound_number kind (field_of fields 4)) (λ v. Ok (with_bound s kind j v))
    ]

-- a bound: its kind, a column that is unknown, a number that is none, then a wrong infinity
abbrev pub judge_bound : DeckSoFar → List (List ℕ) → Result DeckSoFar LineFault
judge_bound s fields = and_then (kind_of (field_of fields 1)) (λ kind. judge_bound_of s kind fields)
