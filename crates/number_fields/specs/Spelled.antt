-- Exponents within the limit.
use Rattle.std.specs.Prelude.{ℕ, List, Some, None, Result, Ok, Err, ℤ, nat_lt, nat_abs, if◌then◌else◌}
use Rattle.mps_model.specs.declared.FieldFault.{FieldFault}
use Rattle.mps_model.specs.declared.FieldFault.TheVariants.{Exponent, Malformed}
use Rattle.mps_model.specs.NumberField.{exponent_of}

-- the exponent that follows the digits, or its fault
abbrev pub exponent_within : List ℕ → Result ℤ FieldFault
exponent_within text = elim (exponent_of text) [ None ↦ Err Malformed | Some e ↦ if nat_lt 30 (nat_abs e) then Err Exponent else Ok e ]
