-- The sizes of the transport decks that words ask for.
use Rattle.std.proofs.Common.{◌≡◌, ℕ, ◌≤◌, List, [], ◌∷◌, Option, Some, None, Bool, true, false, nat_le, refl, ap, arith}
use Rattle.std.specs.Prelude.{◌&&◌, codes, if◌then◌else◌, option_map}
use Rattle.std.specs.Str.{bytes_eq}
use Rattle.std.proofs.lemmas.Bool.Decides.{nat_tests}
use Rattle.lp_text.specs.Digits.{digits_value}
use Rattle.lp_words.specs.declared.given.Given.{Given}
use Rattle.lp_words.specs.declared.wishes.Wish.TheVariants.{Audit, Check, Deck, Make, Range}
use Rattle.lp_words.specs.Words.{free_of, given_of, is_number, size_of, solve, wish_of}

within : (v : ℕ) → nat_le 1 v ≡ true → nat_le v 20 ≡ true → (1 ≤ v) × (v ≤ 20)
within v least most = (grind (arith, nat_tests), grind (arith, nat_tests))

from_to : (a x y : Bool) (v n : ℕ) → nat_le 1 v ≡ x → nat_le v 20 ≡ y → (if a && x && y then Some v else None) ≡ Some n → (1 ≤ n) × (n ≤ 20)
from_to true true true v n least most e = let same : v ≡ n = cc in rw (← same) (within v least most)
from_to false x y v n least most e = absurd (cc e)
from_to true false y v n least most e = absurd (cc e)
from_to true true false v n least most e = absurd (cc e)

size_within : (words : List (List ℕ)) (n : ℕ) → size_of words ≡ Some n → (1 ≤ n) × (n ≤ 20)
size_within [] n e = absurd (cc e)
size_within (text ∷ []) n e = from_to (is_number text) (nat_le 1 (digits_value text)) (nat_le (digits_value text) 20) (digits_value text) n refl refl e
size_within (text ∷ next ∷ words) n e = absurd (cc e)

module _ (n : ℕ) (P : Type 0) where
  by : (b1 b2 b3 b4 b5 b6 : Bool) (given : Option Given) (free : Option Bool) (size : Option ℕ) → (size ≡ Some n → P)
      → (if b1 then option_map solve given else if b2 then option_map Check free else if b3 then option_map Deck free else if b4 then option_map Make size
      else if b5 then option_map Range free else if b6 then option_map Audit free else None) ≡ Some (Make n) → P
  by true b2 b3 b4 b5 b6 None free size h e = absurd (cc e)
  by true b2 b3 b4 b5 b6 (Some g) free size h e = absurd (cc e)
  by false true b3 b4 b5 b6 given None size h e = absurd (cc e)
  by false true b3 b4 b5 b6 given (Some f) size h e = absurd (cc e)
  by false false true b4 b5 b6 given None size h e = absurd (cc e)
  by false false true b4 b5 b6 given (Some f) size h e = absurd (cc e)
  by false false false true b5 b6 given free None h e = absurd (cc e)
  by false false false true b5 b6 given free (Some m) h e = h (let same : m ≡ n = cc in ap Some same)
  by false false false false true b6 given None size h e = absurd (cc e)
  by false false false false true b6 given (Some f) size h e = absurd (cc e)
  by false false false false false true given None size h e = absurd (cc e)
  by false false false false false true given (Some f) size h e = absurd (cc e)
  by false false false false false false given free size h e = absurd (cc e)

-- the size of a deck that is asked for
pub made_within : (words : List (List ℕ)) (n : ℕ) → wish_of words ≡ Some (Make n) → (1 ≤ n) × (n ≤ 20)
made_within [] n e = absurd (cc e)
made_within (command ∷ words) n e =
    by n ((1 ≤ n) × (n ≤ 20)) (bytes_eq command (codes "solve")) (bytes_eq command (codes "check")) (bytes_eq command (codes "deck")) (bytes_eq command (codes "make"))
    (bytes_eq command (codes "range")) (bytes_eq command (codes "audit")) (given_of words) (free_of words) (size_of words) (size_within words n) e
