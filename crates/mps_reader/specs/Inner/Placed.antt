-- A number at a place: the deck that it leaves, and the room that it wants.
use Rattle.std.specs.Prelude.{◌≡◌, ◌-◌, ◌<◌, length, Option, Some, None, Result, Ok, Err, Bool, true, false, ◌||◌, nat_lt}
use Rattle.rational.specs.Rational.{ℚ, eq_ℚ, neg_ℚ, zero_ℚ}
use Rattle.lp_model.specs.Deck.{Deck, column}
use Rattle.lp_model.specs.Edit.{entry_count, has_entry, with_constant, with_cost, with_entry, with_range, with_right}
use Rattle.lp_text.specs.Limits.{entry_limit}
use Rattle.lp_text.specs.declared.LineFault.{LineFault}
use Rattle.lp_text.specs.declared.LineFault.TheVariants as fault
use Rattle.lp_text.specs.declared.Counted.TheVariants as counted
use Rattle.mps_reader.specs.declared.draft.Place.{Place}
use Rattle.mps_reader.specs.declared.draft.Place.TheVariants.{Dropped, Objective, Row}
use Rattle.mps_reader.specs.declared.pairs.Use.{Use}
use Rattle.mps_reader.specs.declared.pairs.Use.TheVariants.{InColumn, AsRight, AsRange}
use Rattle.mps_reader.specs.declared.refusal.Refusal.{Refusal}
use Rattle.mps_reader.specs.Inner.Refusals.{line_fault}

-- the row at the place, where it is one that the deck keeps, is among the rows
abbrev pub IsAmongRows : Deck → Place → Type 0
IsAmongRows d Objective = Unit {0}
IsAmongRows d (Row i) = i < length d.rows
IsAmongRows d (Dropped k) = Unit {0}

-- the last column has no entry at the place
abbrev pub IsVacant : Deck → Place → Type 0
IsVacant d Objective = Unit {0}
IsVacant d (Row i) = has_entry (column d (length d.columns - 1)).entries i ≡ false
IsVacant d (Dropped k) = Unit {0}

-- a number of the last column wants the place vacant
abbrev pub IsVacantFor : Use → Deck → Place → Type 0
IsVacantFor InColumn d place = IsVacant d place
IsVacantFor AsRight d place = Unit {0}
IsVacantFor AsRange d place = Unit {0}

-- the deck with a number of the last column
abbrev pub with_number : Deck → Place → ℚ → Deck
with_number d Objective v = with_cost d (length d.columns - 1) v
with_number d (Row i) v = with_entry d (length d.columns - 1) i v
with_number d (Dropped k) v = d

-- the deck with a right side; on the objective its negative is the constant
abbrev pub with_right_at : Deck → Place → ℚ → Deck
with_right_at d Objective v = with_constant d (neg_ℚ v)
with_right_at d (Row i) v = with_right d i v
with_right_at d (Dropped k) v = d

-- the deck with a range
abbrev pub with_range_at : Deck → Place → ℚ → Deck
with_range_at d Objective v = d
with_range_at d (Row i) v = with_range d i v
with_range_at d (Dropped k) v = d

-- the deck after a use of a number
abbrev pub deck_after : Use → Deck → Place → ℚ → Deck
deck_after InColumn d place v = with_number d place v
deck_after AsRight d place v = with_right_at d place v
deck_after AsRange d place v = with_range_at d place v

-- a number that is not 0 wants room for one more
abbrev pub has_room_in : Deck → ℚ → Bool
has_room_in d v = eq_ℚ v zero_ℚ || nat_lt (entry_count d) entry_limit

-- a number of a column wants that room, unless it is dropped
abbrev pub has_room_at : Deck → Place → ℚ → Bool
has_room_at d Objective v = has_room_in d v
has_room_at d (Row i) v = has_room_in d v
has_room_at d (Dropped k) v = true

-- a right side or a range wants none
abbrev pub has_room_for : Use → Deck → Place → ℚ → Bool
has_room_for InColumn d place v = has_room_at d place v
has_room_for AsRight d place v = true
has_room_for AsRange d place v = true

-- want of room is the one fault that is found; want of memory is none
abbrev pub IsFull : Bool → Option LineFault → Type 0
IsFull room None = Unit {0}
IsFull room (Some found) = (room ≡ false) × (found ≡ fault.Limit counted.Entries)

-- there was room, or the refusal says that there was none
abbrev pub IsRoom : Bool → Result (Unit {0}) Refusal → Type 0
IsRoom room (Ok u) = room ≡ true
IsRoom room (Err refusal) = IsFull room (line_fault refusal)
