-- How far the reading of a deck has come: the deck so far, and then the lines that are left.
use Rattle.std.specs.Prelude.{◌≡◌, ℕ, ◌+◌, ◌<◌, ◌≤◌, ◌⊎◌, List, [], ◌++◌, drop, length, Option, Some, None, IfSome, Result, Ok, Err, MatchResult}
use Rattle.std.specs.Option.{option_map}
use Rattle.lp_text.specs.Lines.{Line as TextLine, lines_of, whole_lines}
use Rattle.lp_text.specs.Limits.{byte_limit}
use Rattle.io_ends.specs.Count.{one_more}
use Rattle.mps_cards.specs.ReaderState.{ReaderState}
use Rattle.mps_cards.specs.NextLine.{FailsToRead, IsAtEnd, answered, first_size, lines_left}
use Rattle.mps_cards.specs.declared.lines.Line.{Line}
use Rattle.lp_text.specs.declared.Counted.TheVariants.{Bytes}
use Rattle.lp_text.specs.declared.Form.{Form}
use Rattle.lp_text.specs.declared.Form.TheVariants.{Fixed, Free}
use Rattle.lp_text.specs.declared.LineFault.{LineFault}
use Rattle.lp_text.specs.declared.LineFault.TheVariants.{Limit}
use Rattle.mps_model.specs.DeckSoFar.{DeckSoFar, no_cards}
use Rattle.mps_model.specs.DeckOf.{IsOpen, in_line, read_lines, reading_of}
use Rattle.mps_reader.specs.declared.draft.Draft.{Draft}
use Rattle.mps_reader.specs.declared.faults.DeckFault.{DeckFault}
use Rattle.mps_reader.specs.declared.faults.DeckFault.TheVariants as fault
use Rattle.mps_reader.specs.Faults.{text_fault}
use Rattle.mps_reader.specs.Inner.Standing.{IsDraftOf}

-- ── one line ──

-- how many bytes of a line are kept: the columns that count, or in free form one byte more than a line may have
abbrev pub kept_size : Form → ℕ
kept_size Fixed = 61
kept_size Free = 256

-- the line has the bytes that are kept of this line of a text
abbrev pub HasBytesOf : Form → Line → TextLine → Type 0
HasBytesOf form line whole = line ≡ answered line.number (kept_size form) whole

-- why there was no next line
abbrev pub IsLineCause : ReaderState → Option (List ℕ) → Option (List ℕ) → ℕ → ℕ → DeckFault → Type 0
IsLineCause before left left' faults faults' fault.Memory = Unit {0}
IsLineCause before left left' faults faults' fault.Read = FailsToRead before.kept before.since byte_limit left left' faults faults'
IsLineCause before left left' faults faults' (fault.NoEnd n) = (n ≡ before.count) × IsAtEnd before.kept left
IsLineCause before left left' faults faults' (fault.InLine n found) =
    (found ≡ Limit Bytes) × (n ≡ one_more before.count) × IfSome (lines_left before.kept left) (λ lines. byte_limit < before.since + first_size lines)
IsLineCause before left left' faults faults' other = ⊥

-- the fault is the one that the line of a number has; want of memory is none
abbrev pub IsFoundAt : ℕ → Result DeckSoFar LineFault → DeckFault → Type 0
IsFoundAt n judged fault = IfSome (text_fault fault) (λ first. (found : LineFault) × (first ≡ in_line n found) × (judged ≡ Err found))

-- the draft stands for what the line made of the deck so far
abbrev pub IsTaken : Result DeckSoFar LineFault → Draft → Type 0
IsTaken judged new = (after : DeckSoFar) × (judged ≡ Ok after) × IsDraftOf new after

-- what the line of a number makes of a draft
abbrev pub TakesLine : ℕ → Result DeckSoFar LineFault → Draft → Result (Unit {0}) DeckFault → Type 0
TakesLine n judged new result = MatchResult result (λ _. IsTaken judged new) (IsFoundAt n judged)

-- ── all lines so far ──

-- what was taken and is not kept makes the deck so far, whatever follows; or all was taken, and its last line is not ended
abbrev pub IsThrough : Form → List ℕ → List ℕ → List ℕ → ℕ → ℕ → DeckSoFar → Type 0
IsThrough form taken rest kept n used s =
    ((more : List ℕ) → read_lines form 0 0 no_cards (whole_lines (taken ++ more)) ≡ read_lines form n used s (whole_lines (kept ++ more)))
    ⊎ ((kept ≡ []) × (rest ≡ []) × IsOpen form taken)

-- the reading of a text, whose first bytes were kept from the start, has come to this, after n lines of so many bytes
pub record ReachedIn (form : Form) (first text : List ℕ) (left : Option (List ℕ)) (kept : List ℕ) (n used : ℕ) (s : DeckSoFar) : Type 0 where
  pub rest : List ℕ
  pub known : left ≡ Some rest
  pub ahead : reading_of form (first ++ text) ≡ read_lines form n used s (lines_of (kept ++ rest))
  pub taken : List ℕ
  pub split : text ≡ taken ++ rest
  pub through : IsThrough form (first ++ taken) rest kept n used s
  pub size : length (first ++ taken) ≡ used + length kept

-- a reader and a draft have come so far in an input, whose first bytes were kept from the start
pub record Reached (form : Form) (first : List ℕ) (text left : Option (List ℕ)) (reader : ReaderState) (draft : Draft) : Type 0 where
  pub so_far : DeckSoFar
  pub stands : IsDraftOf draft so_far
  pub sound : reader.fault ≡ None
  pub within : reader.since ≤ byte_limit
  pub counted : reader.count ≤ reader.since
  pub lines : lines_left reader.kept left ≡ option_map (drop reader.count) (lines_left first text)
  pub run : IfSome text (λ t. ReachedIn form first t left reader.kept reader.count reader.since so_far)
