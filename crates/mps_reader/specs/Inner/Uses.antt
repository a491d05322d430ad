-- The uses of a number, as the definitions have them.
use Rattle.mps_model.specs.PairCards.{UseOfNumber, use_as_range, use_as_right, use_in_column}
use Rattle.mps_reader.specs.declared.pairs.Use.{Use}
use Rattle.mps_reader.specs.declared.pairs.Use.TheVariants.{AsRange, AsRight, InColumn}

-- what a number of a pair is used for
abbrev pub use_is : Use → UseOfNumber
use_is InColumn = use_in_column
use_is AsRight = use_as_right
use_is AsRange = use_as_range
