-- The spelling of a number on a card of a deck, which has 12 bytes for it.
use Rattle.std.specs.Prelude.{◌≡◌, ℕ, ⊤, ◌+◌, ◌-◌, ◌*◌, ◌/◌, ◌%◌, ◌^◌, List, ◌∷◌, ◌++◌, Bool, not, ◌&&◌, ◌==◌, Option, Some, None}
use Rattle.std.specs.Prelude.{option_and_then, nat_lt, nat_le, nat_abs, codes, drop, take, length, replicate, if◌then◌else◌}
use Rattle.std.specs.Prelude.{int_lt, pos}
use Rattle.std.specs.Fmt.{decimal}
use Rattle.std.specs.List.{position_or_len}
use Rattle.rational.specs.Rational.{ℚ}
use Rattle.rational.specs.Sparse.{upto}
use Rattle.frac_text.specs.declared.spelling.SpellFault.{SpellFault}
use Rattle.frac_text.specs.declared.spelling.SpellFault.TheVariants.{Memory, Wide}

abbrev pub signed_text : Bool → List ℕ → List ℕ
signed_text negative text = if negative then 45 ∷ text else text

-- the first of two spellings that has at most 12 bytes
abbrev pub shorter : List ℕ → List ℕ → Option (List ℕ)
shorter plain scaled = if nat_le (length plain) 12 then Some plain else if nat_le (length scaled) 12 then Some scaled else None

-- ── whole numbers ──

-- how many zeros a number, not 0 and below 10^39, ends in: the first z at which 10^(z + 1) does not divide it
unfoldable pub zeros_of : ℕ → ℕ
zeros_of n = position_or_len (λ z. not (n % 10 ^ (z + 1) == 0)) (upto 39)

-- what tells so many zeros behind digits: E and their number, of which E30 is the most
abbrev pub zeros_text : ℕ → List ℕ
zeros_text z = if nat_le z 30 then 69 ∷ decimal z else replicate (z - 30) 48 ++ codes "E30"

abbrev pub whole_card : Bool → ℕ → Option (List ℕ)
whole_card negative n =
    let z = zeros_of n in
    shorter (signed_text negative (decimal n)) (signed_text negative (decimal (n / 10 ^ z) ++ zeros_text z))

-- ── numbers with decimal places ──

-- how many places n over d needs: the first k at which 10^k times it is whole; 38 where no k below 38 will do
unfoldable pub places_of : ℕ → ℕ → ℕ
places_of n d = position_or_len (λ k. (n * 10 ^ k) % d == 0) (upto 38)

-- the whole number that n over d is with its point taken out, and its places; none where it needs 38 places or more, or 13 digits
abbrev pub decimal_of : ℕ → ℕ → Option (ℕ × ℕ)
decimal_of n d =
    let k = places_of n d in
    let m = n * 10 ^ k / d in
    if nat_lt k 38 && nat_lt m (10 ^ 12) then Some (m, k) else None

-- digits with a point before the last k; zeros in front where they are too few
abbrev pub pointed : List ℕ → ℕ → List ℕ
pointed digits k =
    if nat_lt k (length digits) then take (length digits - k) digits ++ 46 ∷ drop (length digits - k) digits
    else 46 ∷ replicate (k - length digits) 48 ++ digits

-- digits of which the last k are places: E- and their number, of which E-30 is the most
abbrev pub with_places : List ℕ → ℕ → List ℕ
with_places digits k = if nat_le k 30 then digits ++ codes "E-" ++ decimal k else pointed digits (k - 30) ++ codes "E-30"

abbrev pub places_card : Bool → ℕ × ℕ → Option (List ℕ)
places_card negative p = shorter (signed_text negative (pointed (decimal p.0) p.1)) (signed_text negative (with_places (decimal p.0) p.1))

-- ── all numbers ──

-- the spelling of a number on a card; none where it is no decimal fraction, or has no spelling of at most 12 bytes
abbrev pub card_text : ℚ → Option (List ℕ)
card_text v =
    let negative = int_lt v.numerator (pos 0) in
    let n = nat_abs v.numerator in
    if n % v.denominator == 0 then whole_card negative (n / v.denominator) else option_and_then (places_card negative) (decimal_of n v.denominator)

-- why a spelling is refused: there is none; of want of memory nothing is said
abbrev pub IsNoText : Option (List ℕ) → SpellFault → Type 0
IsNoText text Wide = text ≡ None
IsNoText text Memory = ⊤
