-- How a line grows by the bytes that were read ahead.
use Rattle.std.specs.Prelude.{◌≡◌, ℕ, ◌+◌, ◌<◌, ◌≤◌, Bool, false, ◌||◌, List, [], ◌++◌, take, length, Option, nat_lt, IfSome}
use Rattle.lp_text.specs.Lines.{Line as TextLine, size_of}
use Rattle.lp_text.specs.Inner.LineText.{IsFreeOfFeeds, line_text}
use Rattle.mps_cards.specs.declared.faults.ReadFault.{ReadFault}
use Rattle.mps_cards.specs.declared.faults.ReadFault.TheVariants.{Memory, Read, TooMany}
use Rattle.mps_cards.specs.declared.gathering.Asked.{Asked}
use Rattle.mps_cards.specs.declared.gathering.Gathered.{Gathered}
use Rattle.mps_cards.specs.declared.gathering.Growing.{Growing}
use Rattle.mps_cards.specs.NextLine.{FailsToRead, IsAtEnd, TakesLine, answered, first_size, lines_left}

-- the bytes begin with a piece of a line, up to the line feed that ends it or else through all of them
pub record BeginsWith (bytes : List ℕ) (piece : TextLine) (rest : List ℕ) : Type 0 where
  pub text : bytes ≡ line_text piece ++ rest
  pub free : IsFreeOfFeeds piece.bytes
  pub last : piece.is_ended ≡ false → rest ≡ []

-- the line grew by a piece
pub record GrowsBy (before after : Growing) (keep most : ℕ) (piece : TextLine) : Type 0 where
  pub bytes : after.bytes.items ≡ take keep (before.bytes.items ++ piece.bytes)
  pub longer : after.longer ≡ (before.longer || nat_lt keep (length (before.bytes.items ++ piece.bytes)))
  pub through : after.through ≡ before.through + size_of piece
  pub within : after.through ≤ most

-- the line took its next piece, and whether that is its last
pub record TakesPiece (before after : Growing) (ahead_before ahead_after : List ℕ) (asked : Asked) (is_ended : Bool) : Type 0 where
  pub piece : TextLine
  pub found : BeginsWith ahead_before piece ahead_after
  pub grows : GrowsBy before after asked.keep asked.most piece
  pub ends : is_ended ≡ piece.is_ended

-- the next piece would bring more bytes than are allowed
pub record Overruns (through most : ℕ) (ahead : List ℕ) : Type 0 where
  pub piece : TextLine
  pub rest : List ℕ
  pub found : BeginsWith ahead piece rest
  pub over : most < through + size_of piece

abbrev pub IsPieceFault : Growing → List ℕ → Asked → ReadFault → Type 0
IsPieceFault before ahead asked Read = ⊥
IsPieceFault before ahead asked Memory = Unit {0}
IsPieceFault before ahead asked (TooMany number) = (number ≡ asked.number) × Overruns before.through asked.most ahead

-- a line was read to its end
pub record Gathers (kept_before kept_after : List ℕ) (left_before left_after : Option (List ℕ)) (since : ℕ) (asked : Asked) (gathered : Gathered) : Type 0 where
  pub line : TextLine
  pub takes : TakesLine kept_before kept_after left_before left_after line
  pub line_is : gathered.line ≡ answered asked.number asked.keep line
  pub through : gathered.through ≡ since + size_of line
  pub within : gathered.through ≤ asked.most

-- no line was left
pub record GathersNone (kept_before kept_after : List ℕ) (left_before left_after : Option (List ℕ)) : Type 0 where
  pub at_end : IsAtEnd kept_before left_before
  pub kept : kept_after ≡ []
  pub unmoved : left_after ≡ left_before

abbrev pub IsGatherFault : List ℕ → Option (List ℕ) → Option (List ℕ) → ℕ → ℕ → ℕ → Asked → ReadFault → Type 0
IsGatherFault kept left_before left_after faults_before faults_after since asked Read =
    FailsToRead kept since asked.most left_before left_after faults_before faults_after
IsGatherFault kept left_before left_after faults_before faults_after since asked Memory = faults_after ≡ faults_before
IsGatherFault kept left_before left_after faults_before faults_after since asked (TooMany number) =
    (number ≡ asked.number) × (faults_after ≡ faults_before)
    × IfSome (lines_left kept left_before) (λ lines. asked.most < since + first_size lines)
