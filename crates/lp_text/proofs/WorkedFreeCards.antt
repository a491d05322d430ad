-- Worked lines in free form: the cards that they are, or their faults. And worked words of a sense.
use Rattle.std.proofs.Common.{◌≡◌, [], ◌∷◌, ◌++◌, Some, None, Ok, Err, true, false, replicate, refl}
use Rattle.std.specs.Prelude.{codes}
use Rattle.lp_model.specs.declared.Sense.TheVariants.{Max, Min}
use Rattle.lp_text.specs.FreeCards.{free_card}
use Rattle.lp_text.specs.Senses.{sense_of}
use Rattle.lp_text.specs.declared.LineFault.TheVariants.{NotAscii, Token}

title : free_card (codes "NAME  LONG-NAME-OF-A-DECK more" ++ 13 ∷ [])
    ≡ Ok (Some (record { is_section = true; tokens = codes "NAME" ∷ codes "LONG-NAME-OF-A-DECK" ∷ codes "more" ∷ [] }))
title = refl

data_card : free_card (codes "  X COST   3 R1 1  ") ≡ Ok (Some (record { is_section = false; tokens = codes "X" ∷ codes "COST" ∷ codes "3" ∷ codes "R1" ∷ codes "1" ∷ [] }))
data_card = refl

comment : free_card (42 ∷ 9 ∷ replicate 300 200) ≡ Ok None
comment = refl

blank : free_card (replicate 255 32) ≡ Ok None
blank = refl

empty : free_card [] ≡ Ok None
empty = refl

-- 256 bytes are too many, blanks too; a carriage return at the end is not among them
blank-long : free_card (replicate 256 32) ≡ Err Token
blank-long = refl

long : free_card (codes "ROWS" ++ replicate 252 32) ≡ Err Token
long = refl

return-last : free_card (replicate 255 32 ++ 13 ∷ []) ≡ Ok None
return-last = refl

-- a token of 64 bytes, and one of 65
token : free_card (32 ∷ replicate 64 88) ≡ Ok (Some (record { is_section = false; tokens = replicate 64 88 ∷ [] }))
token = refl

token-long : free_card (32 ∷ replicate 65 88) ≡ Err Token
token-long = refl

-- a byte that does not print among the first 255 comes before the length, and one past them is not looked at
tab : free_card (codes " L" ++ 9 ∷ replicate 65 88) ≡ Err NotAscii
tab = refl

tab-last : free_card (replicate 254 32 ++ 9 ∷ 88 ∷ []) ≡ Err NotAscii
tab-last = refl

tab-past : free_card (replicate 255 32 ++ 9 ∷ []) ≡ Err Token
tab-past = refl

-- ── words of a sense ──

greatest : sense_of (codes "MaXimISe") ≡ Some Max
greatest = refl

least : sense_of (codes "min") ≡ Some Min
least = refl

no_sense : sense_of (codes "MAXI") ≡ None
no_sense = refl

no_word : sense_of [] ≡ None
no_word = refl
