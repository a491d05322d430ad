-- From what the writer of decks answers to what it leaves to write the deck of a text.
use Rattle.std.proofs.Common.{◌≡◌, ℕ, List, Option, Some, None, Result, Ok, Err, sym, subst, inl}
use Rattle.std.specs.Prelude.{IfErr, IfSome, IsErrAnd}
use Rattle.lp_text.specs.declared.Form.{Form}
use Rattle.deck_tools.specs.Layout.{deck_text}
use Rattle.deck_tools.specs.Writes.{IsWritten}
use Rattle.lp_model.specs.Deck.{Deck}
use Rattle.lp_main.specs.declared.refusal.Refusal.{Refusal}
use Rattle.lp_main.specs.declared.refusal.Refusal.TheVariants as refusal
use Rattle.lp_main.specs.declared.status.Answer.{Answer}
use Rattle.lp_main.specs.Inner.Laying.{IsUnwritten}
use Rattle.lp_main.specs.declared.status.Answer.TheVariants.{Done}
use Rattle.lp_main.specs.declared.words.Task.TheVariants as task
use Rattle.lp_main.specs.Ends.{Writes, IsCause}
use Rattle.lp_main.specs.Inner.Solving.{IsRead}
use Rattle.lp_main.specs.Layouts.{IsLayout}
use Rattle.lp_main.specs.World.{Stream}

module _ (form : Form) (old new : Option (List ℕ)) (d : Deck) where
  layout_is : (layout : Result (List ℕ) (List ℕ)) → deck_text form d ≡ layout → (text : Option (List ℕ)) → IfSome text (λ t. IsRead form t d) → IfSome text (IsLayout form layout)
  layout_is layout is None read = tt
  layout_is layout is (Some t) read = (d, read.0, read.1, is)

  -- the deck was written
  pub lays_out : (w : ℕ) (text : Option (List ℕ)) → IfSome text (λ t. IsRead form t d) → IsWritten (deck_text form d) old new → Writes (Some (task.Deck form)) w text old new Done
  lays_out w text read (bytes, spelled, appended) = (bytes, layout_is (Ok bytes) spelled text read, appended)

  unwritten : (w : ℕ) (input input' : Stream) (e : Refusal) → IfSome input.bytes (λ t. IsRead form t d) → IsUnwritten (deck_text form d) old new e
      → IsCause (Some (task.Deck form)) w input input' old new e
  unwritten w input input' (refusal.Wide name) read cause = (layout_is (Err name) cause.0 input.bytes read, cause.1)
  unwritten w input input' refusal.Write read (bytes, spelled, begun) = (Done, bytes, layout_is (Ok bytes) spelled input.bytes read, begun)
  unwritten w input input' refusal.Memory read cause = inl cause
  unwritten w input input' other read cause = absurd cause

  -- the deck was not written to its end
  pub not_written : (w : ℕ) (result : Result Answer Refusal) (input input' : Stream) (e : Refusal) → IfSome input.bytes (λ t. IsRead form t d) → IsUnwritten (deck_text form d) old new e
      → IsErrAnd result (λ r. r ≡ e) → IfErr result (IsCause (Some (task.Deck form)) w input input' old new)
  not_written w (Ok a) input input' e read cause is = tt
  not_written w (Err r) input input' e read cause is = subst (IsCause (Some (task.Deck form)) w input input' old new) (sym is) (unwritten w input input' e read cause)
