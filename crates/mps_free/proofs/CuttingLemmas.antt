-- The card of a line in free form, seen in what is kept of it, and by what was found of its text.
use Rattle.std.proofs.Common.{◌≡◌, ◌≢◌, ℕ, ◌-◌, ◌<◌, ◌≤◌, Bool, true, false, List, [], ◌∷◌, length, take, slice_index, cond, not, nat_lt, ◌==◌, Some, None, Ok, Err, IsTrue, if◌then◌else◌, refl, sym, ap, ◌∙◌, arith, inl, inr}
use Rattle.std.specs.List.{list_all}
use Rattle.std.proofs.lemmas.List.{length-take-le, take_all, take-take}
use Rattle.std.proofs.lemmas.Bool.{cases_lt, eq-eqb, le-ltb, lt-ltb, ne_eqb}
use Rattle.lp_text.specs.Cards.{byte_in, is_blank, is_printable, without_return, words_of}
use Rattle.lp_text.specs.FreeCards.{free_card, free_card_in, is_too_long}
use Rattle.lp_text.specs.Lines.{Line as TextLine}
use Rattle.lp_text.specs.declared.LineFault.TheVariants.{NotAscii, Token}
use Rattle.mps_cards.specs.declared.lines.Line.{Line}
use Rattle.mps_cards.specs.NextLine.{answered}
use Rattle.mps_cards.specs.Splitting.{kept_bytes}
use Rattle.mps_cards.proofs.SplittingLemmas.{take-shorter}

-- ── what was found of a text ──

module _ (text : List ℕ) (first : ℕ) (first_is : first ≡ byte_in text 1) where
  module _ (other : first ≢ 42) where
    no_star : (byte_in text 1 == 42) ≡ false
    no_star = ne_eqb (byte_in text 1) 42 (λ e. other (first_is ∙ e))

    pub not_printable : list_all is_printable (take 255 text) ≡ false → free_card_in text ≡ Err NotAscii
    not_printable bad = rw (no_star, bad) refl

    module _ (printable : list_all is_printable (take 255 text) ≡ true) where
      pub too_long : is_too_long text ≡ true → free_card_in text ≡ Err Token
      too_long long = rw (no_star, printable, long) refl

      module _ (short : is_too_long text ≡ false) where
        pub blank : list_all is_blank text ≡ true → free_card_in text ≡ Ok None
        blank blanks = rw (no_star, printable, short, blanks) refl

        module _ (filled : list_all is_blank text ≡ false) where
          pub data_card : first ≡ 32 → free_card_in text ≡ Ok (Some (record { is_section = false; tokens = words_of text }))
          data_card space = rw (no_star, printable, short, filled, eq-eqb (byte_in text 1) 32 (sym first_is ∙ space)) refl

          pub section_card : first ≢ 32 → free_card_in text ≡ Ok (Some (record { is_section = true; tokens = words_of text }))
          section_card mark = rw (no_star, printable, short, filled, ne_eqb (byte_in text 1) 32 (λ e. mark (first_is ∙ e))) refl

-- ── what is kept of a line ──

first_byte : (text : List ℕ) → byte_in (take 255 text) 1 ≡ byte_in text 1
first_byte [] = refl
first_byte (c ∷ text) = refl

-- of a text that is too long the first 255 bytes decide
long_card : (text : List ℕ) → 255 < length text
    → free_card_in text ≡ cond (byte_in (take 255 text) 1 == 42) (Ok None) (cond (not (list_all is_printable (take 255 text))) (Err NotAscii) (Err Token))
long_card text over = rw (lt-ltb 255 (length text) over, first_byte text) refl

long_alike : (x y : List ℕ) → 255 < length x → 255 < length y → take 255 x ≡ take 255 y → free_card_in x ≡ free_card_in y
long_alike x y over_x over_y same =
    long_card x over_x
    ∙ ap (λ front. cond (byte_in front 1 == 42) (Ok None) (cond (not (list_all is_printable front)) (Err NotAscii) (Err Token))) same
    ∙ sym (long_card y over_y)

length-shorter : (drops : Bool) (line : List ℕ) → 256 < length line → 255 < length (if drops then take (length line - 1) line else line)
length-shorter true line more = omega (arith, length-take-le (length line - 1) line (omega arith))
length-shorter false line more = omega arith

pub card-answered : (line : Line) (keep : ℕ) (whole : TextLine) → line ≡ answered line.number keep whole
    → (IsTrue line.longer → 256 ≤ length line.bytes) → free_card whole.bytes ≡ free_card_in (kept_bytes line)
card-answered line keep whole same enough =
    let bytes : line.bytes ≡ take keep whole.bytes = ap (λ (l : Line). l.bytes) same in
    let longer : line.longer ≡ nat_lt keep (length whole.bytes) = ap (λ (l : Line). l.longer) same in
    let drops = slice_index whole.bytes (length whole.bytes - 1) == 13 in
    elim (cases_lt keep (length whole.bytes)) [
      | inl more ↦
          let is_longer : line.longer ≡ true = longer ∙ lt-ltb keep (length whole.bytes) more in
          let len : length line.bytes ≡ keep = ap length bytes ∙ length-take-le keep whole.bytes (omega arith) in
          let kept : 256 ≤ keep = omega (arith, len, enough is_longer) in
          let is : kept_bytes line ≡ take keep whole.bytes = ap (λ b. if b then line.bytes else without_return line.bytes) is_longer ∙ bytes in
          long_alike (without_return whole.bytes) (take keep whole.bytes) (length-shorter drops whole.bytes (omega arith)) (omega (arith, length-take-le keep whole.bytes (omega arith)))
          (take-shorter 255 drops whole.bytes (omega arith) ∙ sym (take-take 255 keep whole.bytes (omega arith)))
          ∙ ap free_card_in (sym is)
      | inr all ↦
          let not_longer : line.longer ≡ false = longer ∙ le-ltb keep (length whole.bytes) all in
          let is : kept_bytes line ≡ without_return whole.bytes =
          ap (λ b. if b then line.bytes else without_return line.bytes) not_longer ∙ ap without_return (bytes ∙ take_all keep whole.bytes all) in
          ap free_card_in (sym is)
    ]
