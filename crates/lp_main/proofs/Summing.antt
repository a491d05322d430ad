-- From what a solve of a transport deck answers to its summary.
use Rattle.std.proofs.Common.{◌≡◌, ℕ, List, Option, Some, true, Result, Ok, Err, refl, sym, subst, ap, inl, arith}
use Rattle.std.proofs.lemmas.Int.{ints}
use Rattle.rational.specs.Rational.{ℚ, zero_ℚ, ◌≤ℚ◌, ◌<ℚ◌}
use Rattle.rational.proofs.Linear.{linear, ◌≼◌, ◌≺◌, ◌⟹◌, never}
use Rattle.rational.proofs.Ring.{𝟘}
use Rattle.lp_model.specs.declared.Entry.{Entry}
use Rattle.lp_model.specs.Deck.{IsFeasible, in_sense, objective}
use Rattle.lp_model.specs.Outcome.{Outcome, infeasible, optimal, unbounded}
use Rattle.lp_text.specs.Report.{Report}
use Rattle.lp_main.specs.Truths.{Means}
use Rattle.std.specs.Prelude.{IfErr, IsErrAnd}
use Rattle.deck_tools.specs.Transport.{transport}
use Rattle.lp_model.specs.Deck.{Deck}
use Rattle.lp_run.specs.Instance.{instance_of}
use Rattle.lp_run.specs.Listing.{Overflows}
use Rattle.lp_text.specs.declared.Form.TheVariants.{Fixed}
use Rattle.lp_main.specs.declared.refusal.Refusal.{Refusal}
use Rattle.lp_main.specs.declared.refusal.Refusal.TheVariants as refusal
use Rattle.lp_main.specs.declared.status.Answer.{Answer}
use Rattle.lp_main.specs.declared.words.Asked.{Asked}
use Rattle.lp_main.specs.declared.words.Task.TheVariants.{Make}
use Rattle.lp_main.specs.Ends.{IsCause}
use Rattle.lp_main.specs.Inner.Solving.{IsReportCause, IsReportOf}
use Rattle.lp_main.specs.Solves.{IsShort, IsSolved}
use Rattle.lp_main.specs.Summaries.{IsSummary, summary, summary_budget}
use Rattle.lp_main.specs.World.{Stream}

-- what is asked of the run of a made deck
abbrev pub all_moves : Asked
all_moves = record { form = Fixed; workers = 0; budget = summary_budget; log = true; version = 1 }

-- a deck that has a feasible point, and none with an objective below 0, has come to an optimum
pub has_optimum : (n : ℕ) (d : Deck) → d ≡ transport n → (x : List ℚ) × IsFeasible d x → ((x : List ℚ) → IsFeasible d x → zero_ℚ ≤ℚ objective d x)
    → (r : Report) → IsReportOf all_moves d r → (x y : List ℚ) × (v : ℚ) × (r.outcome ≡ optimal x y v)
has_optimum n d made has bounded r is = by_outcome r.outcome is.solved.truth.means refl
  where
    by_outcome : (o : Outcome) → Means d o → r.outcome ≡ o → (x y : List ℚ) × (v : ℚ) × (r.outcome ≡ optimal x y v)
    by_outcome (optimal x y v) means e = (x, y, v, e)
    by_outcome (infeasible y) means e = absurd (means has.0 has.1)
    by_outcome (unbounded x ray) means e =
        let below = means zero_ℚ in
        let counted : in_sense d.sense (objective d below.0) ≡ objective d below.0 = ap (λ d'. in_sense d'.sense (objective d below.0)) made in
        absurd (linear 1 (λ o. 𝟘 ≼ o ⟹ o ≺ 𝟘 ⟹ never) (omega (arith, ints)) (objective d below.0) (bounded below.0 below.1) (subst (λ o. o <ℚ zero_ℚ) counted below.2))

-- the text of a summary is the summary of the deck's run
pub summed_up : (n : ℕ) (d : Deck) → d ≡ transport n → (r : Report) → IsReportOf all_moves d r → (text : List ℕ)
    → ((log : List Entry) (x y : List ℚ) (v : ℚ) → r.log ≡ Some log → r.outcome ≡ optimal x y v → text ≡ summary n log v)
    → (x y : List ℚ) × (v : ℚ) × (r.outcome ≡ optimal x y v) → IsSummary n text
summed_up n d made r is text reads (x, y, v, e) =
    let solved = subst (λ d. IsSolved summary_budget d is.log r.outcome) made is.solved in
    (is.log, x, y, v, subst (IsSolved summary_budget (transport n) is.log) e solved, reads is.log x y v (ap (λ (t : Report). t.log) is.is) e)

module _ (n : ℕ) (d : Deck) (made : d ≡ transport n) (w : ℕ) (input : Stream) (old : Option (List ℕ)) where
  unsolved : (e : Refusal) → IsReportCause all_moves w d e → IsCause (Some (Make n)) w input input old old e
  unsolved (refusal.Overflow here) cause = (subst (λ d. Overflows w summary_budget (instance_of d) here) made cause.0, refl)
  unsolved (refusal.Budget moves) cause = (subst (IsShort summary_budget moves) made cause, refl)
  unsolved refusal.Memory cause = inl refl
  unsolved other cause = absurd cause

  -- the deck was not solved
  pub not_solved : (result : Result Answer Refusal) (e : Refusal) → IsReportCause all_moves w d e → IsErrAnd result (λ r. r ≡ e)
      → IfErr result (IsCause (Some (Make n)) w input input old old)
  not_solved (Ok a) e cause is = tt
  not_solved (Err r) e cause is = subst (IsCause (Some (Make n)) w input input old old) (sym is) (unsolved e cause)
