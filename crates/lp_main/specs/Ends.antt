-- How a call of the program ends, and what it leaves behind.
use Rattle.std.specs.Prelude.{◌≡◌, ◌≢◌, ◌⊎◌, ℕ, List, [], Option, Some, None, IfSome, Result, Ok, Err}
use Rattle.io_ends.specs.Bytes.{Appends, AppendsPrefix}
use Rattle.io_ends.specs.Count.{Rose}
use Rattle.mps_reader.specs.Answers.{IsReadAsNeeded}
use Rattle.lp_main.specs.declared.refusal.Refusal.{Refusal}
use Rattle.lp_main.specs.declared.refusal.Refusal.TheVariants as refusal
use Rattle.lp_main.specs.declared.status.Answer.{Answer}
use Rattle.lp_main.specs.declared.status.Status.{Status}
use Rattle.lp_main.specs.declared.status.Status.TheVariants as status
use Rattle.lp_main.specs.declared.words.Task.{Task}
use Rattle.lp_main.specs.declared.words.Task.TheVariants as task
use Rattle.lp_main.specs.Audits.{Audits}
use Rattle.lp_main.specs.Checks.{Checks, IsBothCutOff}
use Rattle.lp_main.specs.Codes.{status_of_answer}
use Rattle.lp_main.specs.FirstFaults.{IsDeckCutOff}
use Rattle.lp_main.specs.Layouts.{LaysOut}
use Rattle.lp_main.specs.Refusal.{line_of, status_of_refusal}
use Rattle.lp_main.specs.Reply.{Reply, gives, refuses}
use Rattle.lp_main.specs.Ranged.{TellsHowFar}
use Rattle.lp_main.specs.Says.{Says}
use Rattle.lp_main.specs.Solves.{Solves}
use Rattle.lp_main.specs.Summaries.{SumsUp}
use Rattle.lp_main.specs.World.{Stream}

-- ── what each task may do ──

-- what may be replied to the text that the input tells, at a width of w bits, where no end fails and there is memory. Where nothing that is served is asked
-- for, that is said
abbrev pub MayReply : Option Task → ℕ → Option (List ℕ) → Reply → Type 0
MayReply None w text reply = reply ≡ refuses refusal.Usage
MayReply (Some (task.Solve asked)) w text reply = Solves asked w text reply
MayReply (Some (task.Check form)) w text reply = Checks form w text reply
MayReply (Some (task.Deck form)) w text reply = LaysOut form text reply
MayReply (Some (task.Make n)) w text reply = SumsUp n w reply
MayReply (Some (task.Range form)) w text reply = TellsHowFar form w text reply
MayReply (Some (task.Audit form)) w text reply = Audits form w text reply

-- a deck is read only as needed; a check and an audit read to the end of the input, and where a deck is made nothing is read
abbrev pub TakesAsNeeded : Option Task → Stream → Stream → Type 0
TakesAsNeeded None input input' = input' ≡ input
TakesAsNeeded (Some (task.Solve asked)) input input' = IsReadAsNeeded asked.form [] input.bytes input'.bytes
TakesAsNeeded (Some (task.Check form)) input input' = Unit {0}
TakesAsNeeded (Some (task.Deck form)) input input' = IsReadAsNeeded form [] input.bytes input'.bytes
TakesAsNeeded (Some (task.Make n)) input input' = input' ≡ input
TakesAsNeeded (Some (task.Range form)) input input' = IsReadAsNeeded form [] input.bytes input'.bytes
TakesAsNeeded (Some (task.Audit form)) input input' = Unit {0}

-- nothing is left to read
abbrev pub IsAtEnd : Option (List ℕ) → Type 0
IsAtEnd left = IfSome left (λ bytes. bytes ≡ [])

-- a check or an audit that gives its verdict has read the input to its end
abbrev pub IsReadOut : Option Task → Option (List ℕ) → Type 0
IsReadOut (Some (task.Check form)) left = IsAtEnd left
IsReadOut (Some (task.Audit form)) left = IsAtEnd left
IsReadOut other left = Unit {0}

-- a read was needed after all that was taken
abbrev pub IsCutOff : Option Task → Stream → Stream → Type 0
IsCutOff None input input' = ⊥
IsCutOff (Some (task.Solve asked)) input input' = IfSome input.bytes (IsDeckCutOff asked.form input'.bytes)
IsCutOff (Some (task.Check form)) input input' = IfSome input.bytes (IsBothCutOff form input'.bytes input.faults input'.faults)
IsCutOff (Some (task.Deck form)) input input' = IfSome input.bytes (IsDeckCutOff form input'.bytes)
IsCutOff (Some (task.Make n)) input input' = ⊥
IsCutOff (Some (task.Range form)) input input' = IfSome input.bytes (IsDeckCutOff form input'.bytes)
IsCutOff (Some (task.Audit form)) input input' = IfSome input.bytes (IsBothCutOff form input'.bytes input.faults input'.faults)

-- ── how any of them ends ──

-- an end: an answer, or a refusal
abbrev pub End : Type 0
End = Result Answer Refusal

abbrev pub status_of_end : End → Status
status_of_end (Ok a) = status_of_answer a
status_of_end (Err r) = status_of_refusal r

-- the output gained what was to be written
abbrev pub Writes : Option Task → ℕ → Option (List ℕ) → Option (List ℕ) → Option (List ℕ) → Answer → Type 0
Writes what w text old new a = (bytes : List ℕ) × MayReply what w text (gives a bytes) × Appends old new bytes

-- the output gained a beginning of what was to be written
abbrev pub Begins : Option Task → ℕ → Option (List ℕ) → Option (List ℕ) → Option (List ℕ) → Type 0
Begins what w text old new = (a : Answer) × (bytes : List ℕ) × MayReply what w text (gives a bytes) × AppendsPrefix old new bytes

-- why a call is refused, and what the output gained: nothing, where a read failed that was needed, or the refusal may be replied; a beginning of what was to
-- be written, where a write failed; and one or the other, where memory ran out
abbrev pub IsCause : Option Task → ℕ → Stream → Stream → Option (List ℕ) → Option (List ℕ) → Refusal → Type 0
IsCause what w input input' old new refusal.Read = IsCutOff what input input' × (new ≡ old)
IsCause what w input input' old new refusal.Write = Begins what w input.bytes old new
IsCause what w input input' old new refusal.Memory = (new ≡ old) ⊎ Begins what w input.bytes old new
IsCause what w input input' old new r = MayReply what w input.bytes (refuses r) × (new ≡ old)

-- what the end leaves of the input and in the output
abbrev pub LeavesBy : Option Task → ℕ → Stream → Stream → Option (List ℕ) → Option (List ℕ) → End → Type 0
LeavesBy what w input input' old new (Ok a) = Writes what w input.bytes old new a × IsReadOut what input'.bytes
LeavesBy what w input input' old new (Err r) = IsCause what w input input' old new r

-- what the end leaves on standard error: nothing, or the refusal's line, or the beginning of it where a write there failed
abbrev pub SaysBy : Stream → Stream → End → Type 0
SaysBy old new (Ok a) = new ≡ old
SaysBy old new (Err r) = Says old new (line_of r)

-- ── which end failed ──

abbrev pub IsOrMemory : Status → Status → Type 0
IsOrMemory s s' = (s ≡ s') ⊎ (s ≡ status.Memory)

-- no call of an end failed, so its count of faults stands, and the status is not that of its failure; or one failed, so the count rose, for a cause, and the status is that one or want of memory
abbrev pub FailsBy : Status → Type 0 → Stream → Stream → Status → Type 0
FailsBy failure Cause old new s = ((new.faults ≡ old.faults) × (s ≢ failure)) ⊎ (Rose old.faults new.faults × Cause × IsOrMemory s failure)

-- no read failed; or one failed that was needed
abbrev pub ReadsBy : Option Task → Stream → Stream → Status → Type 0
ReadsBy what input input' s = FailsBy status.ReadFault (IsCutOff what input input') input input' s

-- no write failed; or one failed behind a beginning of what was to be written
abbrev pub WritesBy : Option Task → ℕ → Option (List ℕ) → Stream → Stream → Status → Type 0
WritesBy what w text output output' s = FailsBy status.WriteFault (Begins what w text output.bytes output'.bytes) output output' s
