-- From what a task answers, and the line that refuses, to what a call of the program does.
use Rattle.std.proofs.Common.{◌≡◌, ◌≢◌, ℕ, ◌≤◌, ◌⊎◌, List, [], Option, Some, None, Ok, Err, refl, sym, ◌∙◌, ap, subst, inl, inr}
use Rattle.std.specs.Prelude.{IfErr, IfOk, IfSome, IsErrOf}
use Rattle.mps_reader.proofs.NeededLemmas.{unread}
use Rattle.io_ends.specs.Count.{Rose}
use Rattle.lp_main.specs.declared.refusal.Refusal.{Refusal}
use Rattle.lp_main.specs.declared.refusal.Refusal.TheVariants as refusal
use Rattle.lp_main.specs.declared.status.Answer.{Answer}
use Rattle.lp_main.specs.declared.status.Answer.TheVariants as answer
use Rattle.lp_main.specs.declared.status.Status.{Status}
use Rattle.lp_main.specs.declared.status.Status.TheVariants as status
use Rattle.lp_main.specs.declared.words.Task.{Task}
use Rattle.lp_main.specs.declared.words.Task.TheVariants as task
use Rattle.lp_main.specs.Codes.{status_of_answer}
use Rattle.lp_main.specs.Ends.{Begins, End, FailsBy, IsCause, IsCutOff, IsOrMemory, IsReadOut, LeavesBy, MayReply, ReadsBy, SaysBy, TakesAsNeeded, Writes, WritesBy, status_of_end}
use Rattle.lp_main.specs.Refusal.{line_of, status_of_refusal}
use Rattle.lp_main.specs.Reply.{refuses}
use Rattle.lp_main.specs.Runs.{MustAnswer, Runs}
use Rattle.lp_main.specs.Says.{Says}
use Rattle.lp_main.specs.Words.{IsUnserved}
use Rattle.lp_main.specs.World.{Stream, world}
use Rattle.lp_main.proofs.Musts.{must_give, must_memory, must_refuse_by}

-- what was said is the refusal, or want of memory
abbrev pub Said : Refusal → Status → Stream → Stream → Type 0
Said r result old new = (said : Refusal) × ((said ≡ r) ⊎ (said ≡ refusal.Memory)) × (result ≡ status_of_refusal said) × Says old new (line_of said)

-- what was said has the refusal's status, or that of want of memory
pub said_status : (r : Refusal) (s : Status) (old new : Stream) → Said r s old new → IsOrMemory s (status_of_refusal r)
said_status r s old new (said, inl is, status, says) = inl (status ∙ ap status_of_refusal is)
said_status r s old new (said, inr is, status, says) = inr (status ∙ ap status_of_refusal is)

-- want of memory may take the place of each refusal
memory_in_place : (what : Option Task) (w : ℕ) (input input' : Stream) (old new : Option (List ℕ)) (r : Refusal)
    → IsCause what w input input' old new r → IsCause what w input input' old new refusal.Memory
memory_in_place what w input input' old new refusal.Read cause = inl cause.1
memory_in_place what w input input' old new refusal.Write cause = inr cause
memory_in_place what w input input' old new refusal.Memory cause = cause
memory_in_place what w input input' old new r cause = inl cause.1

-- ── what is served ──

pub nothing_read : (what : Option Task) (input : Stream) → TakesAsNeeded what input input
nothing_read None input = refl
nothing_read (Some (task.Solve asked)) input = unread asked.form [] input.bytes
nothing_read (Some (task.Check form)) input = tt
nothing_read (Some (task.Deck form)) input = unread form [] input.bytes
nothing_read (Some (task.Make n)) input = refl
nothing_read (Some (task.Range form)) input = unread form [] input.bytes
nothing_read (Some (task.Audit form)) input = tt

-- why nothing was served
pub unserved_cause : (what : Option Task) (w : ℕ) (input : Stream) (old : Option (List ℕ)) (r : Refusal) → IsUnserved what r → IsCause what w input input old old r
unserved_cause what w input old refusal.Usage is = (subst (λ what. MayReply what w input.bytes (refuses refusal.Usage)) (sym is) refl, refl)
unserved_cause what w input old refusal.Memory is = inl refl
unserved_cause what w input old other is = absurd is

-- what a task answers is what it leaves
pub left_by : (what : Option Task) (t : Task) (w : ℕ) (input input' : Stream) (old new : Option (List ℕ)) (end : End) → what ≡ Some t → IsReadOut (Some t) input'.bytes
    → IfOk end (Writes (Some t) w input.bytes old new) → IfErr end (IsCause (Some t) w input input' old new) → LeavesBy what w input input' old new end
left_by what t w input input' old new (Ok a) is out gives cause = subst (λ what. LeavesBy what w input input' old new (Ok a)) (sym is) (gives, out)
left_by what t w input input' old new (Err r) is out gives cause = subst (λ what. LeavesBy what w input input' old new (Err r)) (sym is) cause

-- ── which end failed ──

-- another refusal than that of a failure leaves the count, and has another status
not_failed : (failure s s' : Status) (Cause : Type 0) (old new : Stream) → s' ≢ failure → status.Memory ≢ failure → new.faults ≡ old.faults → IsOrMemory s s' → FailsBy failure Cause old new s
not_failed failure s s' Cause old new other no_memory stays (inl is) = inl (stays, λ e. other (sym is ∙ e))
not_failed failure s s' Cause old new other no_memory stays (inr is) = inl (stays, λ e. no_memory (sym is ∙ e))

module _ (w : ℕ) (input input' output output' : Stream) (s : Status) (what : Option Task) where
  reads_by : (r : Refusal) → IsCause what w input input' output.bytes output'.bytes r
      → (IsErrOf {T = Answer} (Err r) refusal.Read → Rose input.faults input'.faults) → (¬ IsErrOf {T = Answer} (Err r) refusal.Read → input'.faults ≡ input.faults)
      → IsOrMemory s (status_of_refusal r) → ReadsBy what input input' s
  reads_by refusal.Read cause rose stays is = inr (rose refl, cause.0, is)
  reads_by r cause rose stays is = not_failed status.ReadFault s (status_of_refusal r) (IsCutOff what input input') input input' (λ e. cc) (λ e. cc) (stays (λ e. cc)) is

  writes_by : (r : Refusal) → IsCause what w input input' output.bytes output'.bytes r
      → (IsErrOf {T = Answer} (Err r) refusal.Write → Rose output.faults output'.faults) → (¬ IsErrOf {T = Answer} (Err r) refusal.Write → output'.faults ≡ output.faults)
      → IsOrMemory s (status_of_refusal r) → WritesBy what w input.bytes output output' s
  writes_by refusal.Write cause rose stays is = inr (rose refl, cause, is)
  writes_by r cause rose stays is =
      not_failed status.WriteFault s (status_of_refusal r) (Begins what w input.bytes output.bytes output'.bytes) output output' (λ e. cc) (λ e. cc) (stays (λ e. cc)) is

-- ── a call ──

module _ (w : ℕ) (input input' output output' : Stream) (in_falls : input.faults ≤ input'.faults) (out_falls : output.faults ≤ output'.faults) where
  -- an answer was given
  pub runs_done : (what : Option Task) (errors : Stream) (a : Answer) → LeavesBy what w input input' output.bytes output'.bytes (Ok a) → TakesAsNeeded what input input'
      → input'.faults ≡ input.faults → output'.faults ≡ output.faults → Runs what w (world input output errors) (world input' output' errors) (status_of_answer a)
  runs_done what errors a leaves needed reads writes = record {
    ends = (Ok a, refl, leaves, refl);
    needed = needed;
    input_never_falls = in_falls;
    output_never_falls = out_falls;
    reads = inl (reads, no_read a);
    writes = inl (writes, no_write a);
    answered = answers what leaves;
  }
    where
      no_read : (a : Answer) → status_of_answer a ≢ status.ReadFault
      no_read answer.Done e = cc
      no_read answer.Refused e = cc

      no_write : (a : Answer) → status_of_answer a ≢ status.WriteFault
      no_write answer.Done e = cc
      no_write answer.Refused e = cc

      answers : (what : Option Task) → LeavesBy what w input input' output.bytes output'.bytes (Ok a)
          → IfSome what (λ t. ¬ Rose input.faults input'.faults → ¬ Rose output.faults output'.faults → MustAnswer t w input.bytes (status_of_answer a) (Says errors errors))
      answers None leaves = tt
      answers (Some t) leaves = λ no_read no_write. must_give w (Says errors errors) t input.bytes a leaves.0.0 leaves.0.1

  module _ (r : Refusal) (rose_in : IsErrOf {T = Answer} (Err r) refusal.Read → Rose input.faults input'.faults) (stays_in : ¬ IsErrOf {T = Answer} (Err r) refusal.Read → input'.faults ≡ input.faults)
      (rose_out : IsErrOf {T = Answer} (Err r) refusal.Write → Rose output.faults output'.faults) (stays_out : ¬ IsErrOf {T = Answer} (Err r) refusal.Write → output'.faults ≡ output.faults)
      (s : Status) (errors errors' : Stream) where
    -- the end that was said
    said_end : (what : Option Task) → IsCause what w input input' output.bytes output'.bytes r → Said r s errors errors'
        → (end : End) × (s ≡ status_of_end end) × LeavesBy what w input input' output.bytes output'.bytes end × SaysBy errors errors' end
    said_end what cause (said, inl is, status, says) = (Err r, status ∙ ap status_of_refusal is, cause, subst (λ r. Says errors errors' (line_of r)) is says)
    said_end what cause (said, inr is, status, says) = (
      Err refusal.Memory,
      status ∙ ap status_of_refusal is,
      memory_in_place what w input input' output.bytes output'.bytes r cause,
      subst (λ r. Says errors errors' (line_of r)) is says,
    )

    answered_refused : (t : Task) → IsCause (Some t) w input input' output.bytes output'.bytes r → Said r s errors errors'
        → (¬ Rose input.faults input'.faults) → (¬ Rose output.faults output'.faults) → MustAnswer t w input.bytes s (Says errors errors')
    answered_refused t cause (said, inl is, status, says) no_read no_write =
        subst (λ s. MustAnswer t w input.bytes s (Says errors errors')) (sym (status ∙ ap status_of_refusal is))
        (must_refuse_by w (Says errors errors') t input input' output.bytes output'.bytes r (Rose input.faults input'.faults) (Rose output.faults output'.faults) cause
        (subst (λ r. Says errors errors' (line_of r)) is says) (λ same. rose_in (ap Err same)) (λ same. rose_out (ap Err same)) no_read no_write)
    answered_refused t cause (said, inr is, status, says) no_read no_write =
        subst (λ s. MustAnswer t w input.bytes s (Says errors errors')) (sym (status ∙ ap status_of_refusal is)) (must_memory w (Says errors errors') t input.bytes)

    -- a refusal was said
    pub runs_refused : (what : Option Task) → LeavesBy what w input input' output.bytes output'.bytes (Err r) → TakesAsNeeded what input input' → Said r s errors errors'
        → Runs what w (world input output errors) (world input' output' errors') s
    runs_refused what cause needed said = record {
      ends = said_end what cause said;
      needed = needed;
      input_never_falls = in_falls;
      output_never_falls = out_falls;
      reads = reads_by w input input' output output' s what r cause rose_in stays_in (said_status r s errors errors' said);
      writes = writes_by w input input' output output' s what r cause rose_out stays_out (said_status r s errors errors' said);
      answered = answers what cause;
    }
      where
        answers : (what : Option Task) → IsCause what w input input' output.bytes output'.bytes r
            → IfSome what (λ t. ¬ Rose input.faults input'.faults → ¬ Rose output.faults output'.faults → MustAnswer t w input.bytes s (Says errors errors'))
        answers None cause = tt
        answers (Some t) cause = answered_refused t cause said
