-- The ends of a column's bounds, and the interval between two of them.
use Rattle.std.specs.Prelude.{Option, Some, None}
use Rattle.deck_model.specs.declared.end.End.{End}
use Rattle.deck_model.specs.declared.end.End.TheVariants.{Minus, At, Plus}
use Rattle.lp_model.specs.Deck.{Interval}
use Rattle.rational.specs.Rational.{ℚ}

-- the number of an end; an end at infinity has none
abbrev pub finite_end : End → Option ℚ
finite_end Minus = None
finite_end (At x) = Some x
finite_end Plus = None

-- the numbers between two ends
abbrev pub interval : End → End → Interval
interval lower upper = record { lower = finite_end lower; upper = finite_end upper }

-- the lower end, and the upper end, of an interval that has this number there
abbrev pub lower_end : Option ℚ → End
lower_end None = Minus
lower_end (Some x) = At x

abbrev pub upper_end : Option ℚ → End
upper_end None = Plus
upper_end (Some x) = At x

-- both ends of an interval
abbrev pub ends_of : Interval → End × End
ends_of bounds = (lower_end bounds.lower, upper_end bounds.upper)
