-- The card of a line that was laid out in fixed columns has the fields that it was laid out from.
use Rattle.std.proofs.Common.{◌≡◌, ℕ, zero, suc, ◌+◌, ◌-◌, ◌<◌, ◌≤◌, Bool, true, false, ◌&&◌, List, [], ◌∷◌, length, get_or, take, Some, None, Ok, refl, ap, ◌∙◌, arith}
use Rattle.std.specs.Prelude.{◌==◌, if◌then◌else◌}
use Rattle.std.specs.List.{list_all}
use Rattle.std.proofs.lemmas.Bool.{and_from, and_parts}
use Rattle.std.proofs.lemmas.Bool.Decides.{nat_tests}
use Rattle.std.proofs.lemmas.List.{drop_all, get_or_past, take_all}
use Rattle.deck_tools.specs.Layout.{with_field}
use Rattle.lp_text.specs.Cards.{card_in, counted, data_fields, filled_gap, is_blank, is_printable, trimmed, without_return}
use Rattle.lp_text.specs.declared.Form.TheVariants.{Fixed}
use Rattle.deck_laws.specs.Spellable.{IsFitted}
use Rattle.deck_laws.proofs.FixedFields.{all-field, byte-field, length-field, own-field, part, part-field}

-- ── a line that prints keeps its last byte ──

no_return : (line : List ℕ) → list_all is_printable line ≡ true → (i : ℕ) → (get_or line i 0 == 13) ≡ false
no_return [] h i = refl
no_return (c ∷ line) h zero = let first = (and_parts (is_printable c) (list_all is_printable line) h).0 in grind (arith, nat_tests)
no_return (c ∷ line) h (suc i) = no_return line (and_parts (is_printable c) (list_all is_printable line) h).1 i

pub no_return_dropped : (line : List ℕ) → list_all is_printable line ≡ true → without_return line ≡ line
no_return_dropped line h = ap (λ b. if b then take (length line - 1) line else line) (no_return line h (length line - 1))

-- ── a card ──

-- the fields of a card of data that has no second pair
abbrev pub six : List ℕ → List ℕ → List ℕ → List ℕ → List (List ℕ)
six kind first second number = kind ∷ first ∷ second ∷ number ∷ [] ∷ [] ∷ []

module _ (kind first second number : List ℕ) (fits_kind : IsFitted 2 kind) (fits_first : IsFitted 8 first) (fits_second : IsFitted 8 second) (fits_number : IsFitted 12 number) where
  -- the line with one field, with two, with three and with all
  abbrev one : List ℕ
  one = with_field Fixed [] 1 kind

  abbrev two : List ℕ
  two = with_field Fixed one 4 first

  abbrev three : List ℕ
  three = with_field Fixed two 14 second

  abbrev all : List ℕ
  all = with_field Fixed three 24 number

  short_one : length one ≤ 3
  short_one = omega (arith, length-field [] 1 (omega arith) kind, fits_kind.few)

  short_two : length two ≤ 12
  short_two = omega (arith, length-field one 4 (omega (arith, short_one)) first, fits_first.few)

  short_three : length three ≤ 22
  short_three = omega (arith, length-field two 14 (omega (arith, short_two)) second, fits_second.few)

  short_all : length all ≤ 36
  short_all = omega (arith, length-field three 24 (omega (arith, short_three)) number, fits_number.few)

  -- ── parts ──

  from_three : (a n : ℕ) → a + n ≤ 24 → trimmed (part all a n) ≡ trimmed (part three a n)
  from_three a n h = part-field three 24 (omega (arith, short_three)) number a n h

  from_two : (a n : ℕ) → a + n ≤ 14 → trimmed (part all a n) ≡ trimmed (part two a n)
  from_two a n h = from_three a n (omega arith) ∙ part-field two 14 (omega (arith, short_two)) second a n h

  kind_is : trimmed (part all 1 2) ≡ kind
  kind_is =
      from_two 1 2 (omega arith) ∙ part-field one 4 (omega (arith, short_one)) first 1 2 (omega arith)
      ∙ own-field [] 1 (omega arith) kind 2 fits_kind.few ∙ fits_kind.bare

  first_is : trimmed (part all 4 8) ≡ first
  first_is = from_two 4 8 (omega arith) ∙ own-field one 4 (omega (arith, short_one)) first 8 fits_first.few ∙ fits_first.bare

  second_is : trimmed (part all 14 8) ≡ second
  second_is = from_three 14 8 (omega arith) ∙ own-field two 14 (omega (arith, short_two)) second 8 fits_second.few ∙ fits_second.bare

  number_is : trimmed (part all 24 12) ≡ number
  number_is = own-field three 24 (omega (arith, short_three)) number 12 fits_number.few ∙ fits_number.bare

  no_part : (a n : ℕ) → 36 ≤ a → trimmed (part all a n) ≡ []
  no_part a n h = ap (λ t. trimmed (take n t)) (drop_all a all (omega (arith, short_all))) ∙ nothing n
    where
      nothing : (n : ℕ) → trimmed (take {A = ℕ} n []) ≡ []
      nothing zero = refl
      nothing (suc n) = refl

  -- ── bytes ──

  byte_three : (i : ℕ) → 22 ≤ i → i < 24 → get_or all i 32 ≡ 32
  byte_three i low high = byte-field three 24 (omega (arith, short_three)) number i high ∙ get_or_past three i 32 (omega (arith, short_three))

  byte_two : (i : ℕ) → 12 ≤ i → i < 14 → get_or all i 32 ≡ 32
  byte_two i low high =
      byte-field three 24 (omega (arith, short_three)) number i (omega arith) ∙ byte-field two 14 (omega (arith, short_two)) second i high
      ∙ get_or_past two i 32 (omega (arith, short_two))

  byte_one : (i : ℕ) → i < 4 → get_or all i 32 ≡ get_or one i 32
  byte_one i high =
      byte-field three 24 (omega (arith, short_three)) number i (omega arith) ∙ byte-field two 14 (omega (arith, short_two)) second i (omega arith)
      ∙ byte-field one 4 (omega (arith, short_one)) first i high

  byte_first : get_or all 0 32 ≡ 32
  byte_first = byte_one 0 (omega arith) ∙ byte-field [] 1 (omega arith) kind 0 (omega arith)

  byte_fourth : get_or all 3 32 ≡ 32
  byte_fourth = byte_one 3 (omega arith) ∙ get_or_past one 3 32 short_one

  byte_past : (i : ℕ) → 36 ≤ i → get_or all i 32 ≡ 32
  byte_past i low = get_or_past all i 32 (omega (arith, short_all))

  -- ── the card ──

  pub fixed_printable : list_all is_printable all ≡ true
  fixed_printable =
      all-field is_printable refl three 24 number
      ∙ and_from (list_all is_printable three) (list_all is_printable number)
      (all-field is_printable refl two 14 second ∙ and_from (list_all is_printable two) (list_all is_printable second)
      (all-field is_printable refl one 4 first ∙ and_from (list_all is_printable one) (list_all is_printable first)
      (all-field is_printable refl [] 1 kind ∙ fits_kind.printable) fits_first.printable) fits_second.printable) fits_number.printable

  -- whether a field has a byte that is no blank
  abbrev pub are_blank : Bool
  are_blank = list_all is_blank kind && list_all is_blank first && list_all is_blank second && list_all is_blank number

  blank_is : list_all is_blank all ≡ are_blank
  blank_is =
      all-field is_blank refl three 24 number
      ∙ ap (λ b. b && list_all is_blank number) (all-field is_blank refl two 14 second
      ∙ ap (λ b. b && list_all is_blank second) (all-field is_blank refl one 4 first ∙ ap (λ b. b && list_all is_blank first) (all-field is_blank refl [] 1 kind)))

  fields_are : data_fields all ≡ six kind first second number
  fields_are = rw (kind_is, first_is, second_is, number_is, no_part 39 8 (omega arith), no_part 49 12 (omega arith)) refl

  no_gap : filled_gap all ≡ None
  no_gap =
      rw (
        byte_fourth,
        byte_two 12 (omega arith) (omega arith),
        byte_two 13 (omega arith) (omega arith),
        byte_three 22 (omega arith) (omega arith),
        byte_three 23 (omega arith) (omega arith),
        byte_past 36 (omega arith),
        byte_past 37 (omega arith),
        byte_past 38 (omega arith),
        byte_past 47 (omega arith),
        byte_past 48 (omega arith),
      ) refl

  all_counted : counted all ≡ all
  all_counted = ap (take 61) (no_return_dropped all fixed_printable) ∙ take_all 61 all (omega (arith, short_all))

  pub fixed_card : are_blank ≡ false → card_in (counted all) ≡ Ok (Some (record { is_section = false; fields = six kind first second number }))
  fixed_card filled =
      ap card_in all_counted ∙ rw (byte_first, blank_is, filled, fixed_printable, no_gap, fields_are) refl
