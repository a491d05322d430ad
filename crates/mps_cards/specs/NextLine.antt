-- What a reader of lines answers, in terms of its input: the bytes that it keeps, and then those that its source has left.
use Rattle.std.specs.Prelude.{◌≡◌, ◌≢◌, ℕ, ◌+◌, ◌<◌, ◌≤◌, List, [], ◌∷◌, ◌++◌, take, length, Option, false, nat_lt, IfSome}
use Rattle.std.specs.Option.{option_map}
use Rattle.std.specs.Io.KnownBytes.{prepend_known}
use Rattle.lp_text.specs.Lines.{Line as TextLine, lines_of, size_of, whole_lines}
use Rattle.io_ends.specs.Bytes.{Gives}
use Rattle.io_ends.specs.Count.{one_more, Rose}
use Rattle.mps_cards.specs.declared.faults.ReadFault.{ReadFault}
use Rattle.mps_cards.specs.declared.faults.ReadFault.TheVariants.{Memory, Read, TooMany}
use Rattle.mps_cards.specs.declared.lines.Line.{Line}
use Rattle.mps_cards.specs.ReaderState.{ReaderState}

-- the lines of the input, where the source tells what it has left
abbrev pub lines_left : List ℕ → Option (List ℕ) → Option (List TextLine)
lines_left kept left = option_map lines_of (prepend_known kept left)

-- no byte is left, as far as the source tells
abbrev pub IsAtEnd : List ℕ → Option (List ℕ) → Type 0
IsAtEnd kept left = (kept ≡ []) × IfSome left (λ bytes. bytes ≡ [])

-- a line as it is answered: its number, its first bytes, as many as are to be kept, and whether it has more
abbrev pub answered : ℕ → ℕ → TextLine → Line
answered number keep line = record { number = number; bytes = take keep line.bytes; longer = nat_lt keep (length line.bytes) }

-- how many bytes the first line has, its line feed among them
abbrev pub first_size : List TextLine → ℕ
first_size [] = 0
first_size (line ∷ lines) = size_of line

-- a read was needed to go on after these bytes: no line stands whole in them, and they do not pass what is allowed
pub record IsNeeded (bytes : List ℕ) (since most : ℕ) : Type 0 where
  pub no_line : whole_lines bytes ≡ []
  pub within : since + length bytes ≤ most

-- the bytes taken from the source are such that a line stands first in the kept bytes and them
pub record TakesLine (kept_before kept_after : List ℕ) (left_before left_after : Option (List ℕ)) (line : TextLine) : Type 0 where
  pub taken : List ℕ
  pub given : Gives left_before left_after taken
  pub first : lines_of (kept_before ++ taken) ≡ line ∷ lines_of kept_after
  -- a line that no line feed ends is the last
  pub last : line.is_ended ≡ false → IsAtEnd kept_after left_after
  -- the lines of the input are this one, and then those of the input that is left
  pub all : lines_left kept_before left_before ≡ option_map (λ lines. line ∷ lines) (lines_left kept_after left_after)

-- a line is answered
pub record AnswersLine (before after : ReaderState) (left_before left_after : Option (List ℕ)) (keep most : ℕ) (answer : Line) : Type 0 where
  pub line : TextLine
  pub takes : TakesLine before.kept after.kept left_before left_after line
  pub answer_is : answer ≡ answered (one_more before.count) keep line
  pub fault : after.fault ≡ before.fault
  pub count : after.count ≡ one_more before.count
  pub since : after.since ≡ before.since + size_of line
  pub within : after.since ≤ most

-- the end is answered
pub record AnswersEnd (before after : ReaderState) (left_before left_after : Option (List ℕ)) (most : ℕ) : Type 0 where
  pub at_end : IsAtEnd before.kept left_before
  pub unmoved : left_after ≡ left_before
  pub same : after ≡ before
  pub within : before.since ≤ most

-- a read failed: it was needed, and the count of faults rose
pub record FailsToRead (kept : List ℕ) (since most : ℕ) (left_before left_after : Option (List ℕ)) (faults_before faults_after : ℕ) : Type 0 where
  pub taken : List ℕ
  pub given : Gives left_before left_after taken
  pub needed : IsNeeded (kept ++ taken) since most
  pub rose : Rose faults_before faults_after

-- why a reader that has given no fault yet gives one
abbrev pub IsCause : ReaderState → ℕ → Option (List ℕ) → Option (List ℕ) → ℕ → ℕ → ReadFault → Type 0
IsCause before most left_before left_after faults_before faults_after Read =
    FailsToRead before.kept before.since most left_before left_after faults_before faults_after
IsCause before most left_before left_after faults_before faults_after Memory = faults_after ≡ faults_before
IsCause before most left_before left_after faults_before faults_after (TooMany number) =
    (number ≡ one_more before.count) × (faults_after ≡ faults_before)
    × IfSome (lines_left before.kept left_before) (λ lines. most < before.since + first_size lines)

-- the bytes taken from the source are those of reads that were needed, the last of up to 4,096 bytes
pub record TakesAsNeeded (kept : List ℕ) (since most : ℕ) (left_before left_after : Option (List ℕ)) : Type 0 where
  pub earlier : List ℕ
  pub last : List ℕ
  pub given : Gives left_before left_after (earlier ++ last)
  pub few : length last ≤ 4096
  pub needed : earlier ++ last ≢ [] → IsNeeded (kept ++ earlier) since most
