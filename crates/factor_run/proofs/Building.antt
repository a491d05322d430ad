-- The factors that are built along a log, with one entry more.
use Rattle.std.proofs.Common.{◌≡◌, ℕ, ◌+◌, List, [], ◌∷◌, ◌++◌, length, Option, Some, None, refl, sym, ◌∙◌, ap, arith}
use Rattle.lp_model.specs.declared.Entry.{Entry}
use Rattle.rational.specs.Worked.{Worked, bind, done, settle}
use Rattle.rational.proofs.Settling.{settle-bind, settle-bind_none, settle-done}
use Rattle.lp_run.specs.Instance.{Instance}
use Rattle.lp_run.specs.Run.{IsRun, Leads}
use Rattle.lp_run.specs.State.{State, after, start_of}
use Rattle.factor_model.specs.Factors.{Factors}
use Rattle.factor_run.specs.Built.{built, built_from, followed, followed_if, made_anew}

module _ (w : ℕ) where
  -- the first part of what settles settles
  unbound : {A B : Type 0} (c : Worked A) (f : A → Worked B) (b : B) → settle w (bind c f) ≡ Some b → (a : A) × (settle w c ≡ Some a) × (settle w (f a) ≡ Some b)
  unbound {A} {B} c f b settled = by_answer (settle w c) refl
    where
      by_answer : (o : Option A) → settle w c ≡ o → (a : A) × (settle w c ≡ Some a) × (settle w (f a) ≡ Some b)
      by_answer None e = let none : settle w (bind c f) ≡ None = settle-bind_none w c f e in absurd cc
      by_answer (Some a) e = (a, e, sym (settle-bind w c f a e) ∙ settled)

  -- nothing is worked after the answer
  ends_there : {A : Type 0} (c : Worked A) → settle w (bind c (λ a. done a)) ≡ settle w c
  ends_there {A} c = by_answer (settle w c) refl
    where
      by_answer : (o : Option A) → settle w c ≡ o → settle w (bind c (λ a. done a)) ≡ settle w c
      by_answer None e = settle-bind_none w c (λ a. done a) e ∙ sym e
      by_answer (Some a) e = settle-bind w c (λ a. done a) a e ∙ settle-done w a ∙ sym e

  some : {A : Type 0} (a b : A) → Some a ≡ Some b → a ≡ b
  some a b e = cc

  built_from-more : (inst : Instance) (s t : State) (k : ℕ) (log : List Entry) (e : Entry) (f g : Option Factors) → Leads inst s log t → settle w (built_from inst s k log f) ≡ Some g
      → settle w (built_from inst s k (log ++ e ∷ []) f) ≡ settle w (followed_if inst (after t e) (k + length log + 1) e g)
  built_from-more inst s t k [] e f g leads settled =
      ends_there (followed_if inst (after s e) (k + 1) e f)
      ∙ ap (λ f. settle w (followed_if inst (after s e) (k + 1) e f)) (some f g (sym (settle-done w f) ∙ settled))
      ∙ ap (λ s. settle w (followed_if inst (after s e) (k + 1) e g)) leads
      ∙ ap (λ n. settle w (followed_if inst (after t e) n e g)) (omega arith)
  built_from-more inst s t k (a ∷ log) e f g leads settled =
      let there = unbound (followed_if inst (after s a) (k + 1) a f) (λ h. built_from inst (after s a) (k + 1) log h) g settled in
      settle-bind w (followed_if inst (after s a) (k + 1) a f) (λ h. built_from inst (after s a) (k + 1) (log ++ e ∷ []) h) there.0 there.1
      ∙ built_from-more inst (after s a) t (k + 1) log e there.0 g leads.1 there.2
      ∙ ap (λ n. settle w (followed_if inst (after t e) n e g)) (omega arith)

  -- the factors that stand before an entry are followed by it
  pub built-more : (inst : Instance) (log : List Entry) (s : State) (e : Entry) (f : Factors) → IsRun inst log s → settle w (built inst log) ≡ Some (Some f)
      → settle w (built inst (log ++ e ∷ [])) ≡ settle w (followed inst (after s e) (length log + 1) f e)
  built-more inst log s e f run settled =
      let there = unbound (made_anew inst (start_of inst) 0) (λ f. built_from inst (start_of inst) 0 log f) (Some f) settled in
      settle-bind w (made_anew inst (start_of inst) 0) (λ f. built_from inst (start_of inst) 0 (log ++ e ∷ []) f) there.0 there.1
      ∙ built_from-more inst (start_of inst) s 0 log e there.0 (Some f) run there.2
      ∙ ap (λ n. settle w (followed inst (after s e) n f e)) (omega arith)

  -- at the start they are those that are made
  pub built-start : (inst : Instance) (f : Factors) → settle w (made_anew inst (start_of inst) 0) ≡ Some (Some f) → settle w (built inst []) ≡ Some (Some f)
  built-start inst f settled = ends_there (made_anew inst (start_of inst) 0) ∙ settled
