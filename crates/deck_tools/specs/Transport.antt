-- The transport deck of a size: sources and sinks, and what it costs to send from each source to each sink.
use Rattle.std.specs.Prelude.{ℕ, ◌+◌, ◌*◌, ◌/◌, ◌%◌, [], ◌∷◌, ◌++◌, map, None, codes, pos}
use Rattle.std.specs.Fmt.{decimal}
use Rattle.rational.specs.Rational.{ℚ, one_ℚ, ratio, zero_ℚ}
use Rattle.rational.specs.Sparse.{upto}
use Rattle.lp_model.specs.declared.RowKind.TheVariants.{L, G}
use Rattle.lp_model.specs.declared.Sense.TheVariants.{Min}
use Rattle.lp_model.specs.Deck.{Column, Deck, Row, nonnegative}

-- a whole number as a fraction
abbrev pub number : ℕ → ℚ
number n = ratio (pos n) 1

-- what source k + 1 can send: S1, S2, ..
abbrev pub source : ℕ → Row
source k = record { name = 83 ∷ decimal (k + 1); kind = L; right = number (20 + (k + 1) % 5); range = None }

-- what sink k + 1 needs: D1, D2, ..
abbrev pub sink : ℕ → Row
sink k = record { name = 68 ∷ decimal (k + 1); kind = G; right = number (15 + (k + 1) % 4); range = None }

-- what it costs to send from source i to sink j
abbrev pub cost_of : ℕ → ℕ → ℕ
cost_of i j = (7 * i + 13 * j + 5 * i * j) % 97 + 1

-- what goes from source i + 1 to sink j + 1, of n sources and n sinks: X1_1, X1_2, ..
abbrev pub route_between : ℕ → ℕ → ℕ → Column
route_between n i j = record {
  name = 88 ∷ decimal (i + 1) ++ 95 ∷ decimal (j + 1);
  cost = number (cost_of (i + 1) (j + 1));
  entries = (i, one_ℚ) ∷ (n + j, one_ℚ) ∷ [];
  bounds = nonnegative;
}

-- the routes in the order of their sources, and then of their sinks
abbrev pub route : ℕ → ℕ → Column
route n k = route_between n (k / n) (k % n)

-- the transport deck of n sources and n sinks
abbrev pub transport : ℕ → Deck
transport n = record {
  name = codes "MAKE";
  objective = codes "COST";
  sense = Min;
  rows = map source (upto n) ++ map sink (upto n);
  columns = map (route n) (upto (n * n));
  constant = zero_ℚ;
}
