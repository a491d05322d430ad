-- Worked lines: the cards that they are, or their faults.
use Rattle.std.proofs.Common.{◌≡◌, [], ◌∷◌, ◌++◌, Some, None, Ok, Err, true, false, replicate, refl}
use Rattle.std.specs.Prelude.{codes}
use Rattle.lp_text.specs.Cards.{card_of}
use Rattle.lp_text.specs.declared.LineFault.TheVariants.{Columns, NotAscii}

row : card_of (codes " L  R1") ≡ Ok (Some (record { is_section = false; fields = codes "L" ∷ codes "R1" ∷ [] ∷ [] ∷ [] ∷ [] ∷ [] }))
row = refl

-- names with inner blanks, two pairs, and columns past 61, among them a byte that does not print
two_pairs : card_of (codes "    COL A     ROW 1      -12.5           R  2      3E4       past" ++ 200 ∷ 13 ∷ [])
    ≡ Ok (Some (record { is_section = false; fields = [] ∷ codes "COL A" ∷ codes "ROW 1" ∷ codes "-12.5" ∷ codes "R  2" ∷ codes "3E4" ∷ [] }))
two_pairs = refl

title : card_of (codes "NAME          TRANSP 1  and more" ++ 13 ∷ []) ≡ Ok (Some (record { is_section = true; fields = codes "NAME" ∷ codes "TRANSP" ∷ codes "TRANSP 1" ∷ [] ∷ [] ∷ [] ∷ [] }))
title = refl

section : card_of (codes "ROWS") ≡ Ok (Some (record { is_section = true; fields = codes "ROWS" ∷ [] ∷ [] ∷ [] ∷ [] ∷ [] ∷ [] }))
section = refl

-- 80 columns, the last 19 of which do not print
long_section : card_of (codes "ENDATA" ++ replicate 55 32 ++ replicate 19 200) ≡ Ok (Some (record { is_section = true; fields = codes "ENDATA" ∷ [] ∷ [] ∷ [] ∷ [] ∷ [] ∷ [] }))
long_section = refl

comment : card_of (42 ∷ 9 ∷ 200 ∷ []) ≡ Ok None
comment = refl

blank : card_of (codes "      " ++ 13 ∷ []) ≡ Ok None
blank = refl

empty : card_of [] ≡ Ok None
empty = refl

-- a tab, a byte past 126, a carriage return before the line's end
tab : card_of (codes " L" ++ 9 ∷ codes "R1") ≡ Err NotAscii
tab = refl

high_byte : card_of (codes "ROWS" ++ 200 ∷ []) ≡ Err NotAscii
high_byte = refl

inner_return : card_of (codes "ROWS" ++ 13 ∷ 13 ∷ []) ≡ Err NotAscii
inner_return = refl

-- a byte in column 4, and the least of two
fourth_column : card_of (codes "   X") ≡ Err (Columns 4)
fourth_column = refl

least_column : card_of (codes "    COST    XX  Y") ≡ Err (Columns 13)
least_column = refl

-- a byte that does not print comes before a column that is not blank
fault_order : card_of (codes "   X " ++ 127 ∷ []) ≡ Err NotAscii
fault_order = refl
