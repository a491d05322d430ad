-- The lines of values that do not fit.
use Rattle.std.specs.Prelude.{ℕ, List, ◌++◌, Option, Some, None, codes}
use Rattle.std.specs.Fmt.{decimal}
use Rattle.lp_model.specs.declared.Kind.{Kind}
use Rattle.lp_model.specs.declared.Kind.TheVariants as kind
use Rattle.lp_model.specs.declared.Place.{Place}
use Rattle.ranging.specs.declared.fault.RangePlace.{RangePlace}
use Rattle.ranging.specs.declared.fault.RangePlace.TheVariants as range_place
use Rattle.lp_main.specs.Refusals.{ended}

abbrev pub value_word : Kind → List ℕ
value_word kind.Start = codes "start"
value_word kind.Entry = codes "entry"
value_word kind.Value = codes "value"
value_word kind.Cost = codes "cost"
value_word kind.Ratio = codes "ratio"
value_word kind.Total = codes "total"

-- a row or a column, or a dash where the place has none
abbrev pub index_word : Option ℕ → List ℕ
index_word None = codes "-"
index_word (Some i) = decimal i

abbrev pub overflow_line : Place → List ℕ
overflow_line here =
    ended (codes "lp: overflow at number " ++ decimal here.number ++ codes ", " ++ value_word here.kind ++ codes ", row " ++ index_word here.row ++ codes ", column " ++ index_word here.column)

-- the word of a range, with the blank before its name
abbrev pub range_word : RangePlace → List ℕ
range_word (range_place.Cost j) = codes "COST "
range_word (range_place.Right i) = codes "RIGHT "

-- a value of the ranges that does not fit, by its column or row
abbrev pub range_unfit_line : RangePlace → List ℕ → List ℕ
range_unfit_line place name = ended (codes "lp: range overflow at " ++ range_word place ++ name)
