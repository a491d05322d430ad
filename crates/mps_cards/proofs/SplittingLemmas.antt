-- The columns of a line that count, seen in what is kept of it.
use Rattle.std.proofs.Common.{◌≡◌, ℕ, ◌-◌, ◌<◌, ◌≤◌, List, take, length, nat_lt, slice_index, if◌then◌else◌, Bool, true, false, ◌==◌, refl, sym, ap, ◌∙◌, arith, inl, inr, IsTrue}
use Rattle.std.proofs.lemmas.List.{take_all, take-take, length-take-le}
use Rattle.std.proofs.lemmas.Bool.{cases_lt, le-ltb, lt-ltb}
use Rattle.lp_text.specs.Cards.{counted}
use Rattle.lp_text.specs.Lines.{Line as TextLine}
use Rattle.mps_cards.specs.declared.lines.Line.{Line}
use Rattle.mps_cards.specs.NextLine.{answered}
use Rattle.mps_cards.specs.Splitting.{kept_bytes}

-- a byte past the columns that count may be dropped
pub take-shorter : (n : ℕ) (drops : Bool) (line : List ℕ) → n < length line → take n (if drops then take (length line - 1) line else line) ≡ take n line
take-shorter n true line more = take-take n (length line - 1) line (omega arith)
take-shorter n false line more = refl

pub counted-answered : (line : Line) (keep : ℕ) (whole : TextLine) → line ≡ answered line.number keep whole
    → (IsTrue line.longer → 61 ≤ length line.bytes) → take 61 (kept_bytes line) ≡ counted whole.bytes
counted-answered line keep whole same enough =
    let bytes : line.bytes ≡ take keep whole.bytes = ap (λ (l : Line). l.bytes) same in
    let longer : line.longer ≡ nat_lt keep (length whole.bytes) = ap (λ (l : Line). l.longer) same in
    elim (cases_lt keep (length whole.bytes)) [
      | inl more ↦
          let is_longer : line.longer ≡ true = longer ∙ lt-ltb keep (length whole.bytes) more in
          let len : length line.bytes ≡ keep = ap length bytes ∙ length-take-le keep whole.bytes (omega arith) in
          let columns : 61 ≤ keep = omega (arith, len, enough is_longer) in
          rw (is_longer, bytes)
          (take-take 61 keep whole.bytes columns ∙ sym (take-shorter 61 (slice_index whole.bytes (length whole.bytes - 1) == 13) whole.bytes (omega arith)))
      | inr all ↦ rw (longer, le-ltb keep (length whole.bytes) all, bytes, take_all keep whole.bytes all) refl
    ]
