-- How many updates factors have had, and the number at which they were made, after an entry.
use Rattle.std.proofs.Common.{◌≡◌, ℕ, ◌+◌, ◌≤◌, eqb, cond, List, Some, refl, sym, ◌∙◌, ap, subst, arith, Bool, true, false}
use Rattle.lp_model.specs.declared.Entry.{Entry}
use Rattle.lp_model.specs.declared.Entry.TheVariants.{Flip, Swap, Turn}
use Rattle.rational.specs.Rational.{ℚ}
use Rattle.rational.specs.Worked.{bind, done, settle}
use Rattle.rational.proofs.AnswerLaws.{answer-bind, answer-done}
use Rattle.rational.proofs.Settling.{settle-answer}
use Rattle.lp_run.specs.Instance.{Instance, row_count}
use Rattle.lp_run.specs.Solution.{basis_entry}
use Rattle.lp_run.specs.State.{State}
use Rattle.factor_model.specs.Eta.{apply}
use Rattle.factor_model.specs.Factoring.{Factored, factored, fresh, singular, whole}
use Rattle.factor_model.specs.Factors.{Factors, most_updates, updated, with_update}
use Rattle.factor_model.specs.Update.{update}
use Rattle.factor_run.specs.Built.{entering_column, followed, made_anew}

-- factors that are made anew at a number
fresh_counts : (base : ℕ) (made : Factored) (f : Factors) → fresh base made ≡ Some f → (f.base ≡ base) × (f.updates ≡ 0)
fresh_counts base (whole ops u) f e =
    let is : record { etas = ops; upper = u; updates = 0; base = base } ≡ f = cc in
    (ap (λ (f : Factors). f.base) (sym is), ap (λ (f : Factors). f.updates) (sym is))
fresh_counts base (singular y) f e = absurd cc

pub made_counts : (w : ℕ) (inst : Instance) (s : State) (base : ℕ) (f : Factors) → settle w (made_anew inst s base) ≡ Some (Some f) → (f.base ≡ base) × (f.updates ≡ 0)
made_counts w inst s base f e =
    fresh_counts base (factored (row_count inst) (basis_entry inst s)).answer f
    (sym (answer-bind (factored (row_count inst) (basis_entry inst s)) (λ made. done (fresh base made)) ∙ answer-done (fresh base (factored (row_count inst) (basis_entry inst s)).answer))
    ∙ settle-answer w (made_anew inst s base) (Some f) e)

updated_counts : (w : ℕ) (f g : Factors) (p : ℕ) (spike : List ℚ) → settle w (bind (updated f p spike) (λ g. done (Some g))) ≡ Some (Some g) → (g.base ≡ f.base) × (g.updates ≡ f.updates + 1)
updated_counts w f g p spike e =
    let last : (updated f p spike).answer ≡ with_update f p spike (update f.upper p spike).answer =
    answer-bind (update f.upper p spike) (λ e. done (with_update f p spike e)) ∙ answer-done (with_update f p spike (update f.upper p spike).answer) in
    let some : Some (updated f p spike).answer ≡ Some g =
    sym (answer-bind (updated f p spike) (λ g. done (Some g)) ∙ answer-done (Some (updated f p spike).answer)) ∙ settle-answer w (bind (updated f p spike) (λ g. done (Some g))) (Some g) e in
    let is : (updated f p spike).answer ≡ g = cc in
    (ap (λ (f : Factors). f.base) (sym is ∙ last), ap (λ (f : Factors). f.updates) (sym is ∙ last))

-- what an entry makes of the two counts
abbrev pub CountsFollow : Entry → ℕ → Factors → Factors → Type 0
CountsFollow (Flip q) k f g = (g.base ≡ f.base) × (g.updates ≡ f.updates)
CountsFollow (Swap q p end) k f g = (g.base ≡ cond (eqb f.updates most_updates) k f.base) × (g.updates ≡ cond (eqb f.updates most_updates) 0 (f.updates + 1))
CountsFollow Turn k f g = (g.base ≡ f.base) × (g.updates ≡ f.updates)

same_counts : (w : ℕ) (f g : Factors) → settle w (done (Some f)) ≡ Some (Some g) → (g.base ≡ f.base) × (g.updates ≡ f.updates)
same_counts w f g e =
    let some : Some f ≡ Some g = sym (answer-done (Some f)) ∙ settle-answer w (done (Some f)) (Some g) e in
    let is : f ≡ g = cc in
    (ap (λ (f : Factors). f.base) (sym is), ap (λ (f : Factors). f.updates) (sym is))

pub followed_counts : (w : ℕ) (inst : Instance) (t : State) (k : ℕ) (f g : Factors) (e : Entry) → settle w (followed inst t k f e) ≡ Some (Some g) → CountsFollow e k f g
followed_counts w inst t k f g (Flip q) settled = same_counts w f g settled
followed_counts w inst t k f g Turn settled = same_counts w f g settled
followed_counts w inst t k f g (Swap q p end) settled = by (eqb f.updates most_updates) refl
  where
    spike : List ℚ
    spike = (apply (entering_column inst q) f.etas).answer

    by : (b : Bool) → eqb f.updates most_updates ≡ b → CountsFollow (Swap q p end) k f g
    by true e =
        let made = made_counts w inst t k g (sym (ap (λ b. settle w (cond b (made_anew inst t k) (bind (updated f p spike) (λ g. done (Some g))))) e) ∙ settled) in
        (made.0 ∙ sym (ap (λ b. cond b k f.base) e), made.1 ∙ sym (ap (λ b. cond b 0 (f.updates + 1)) e))
    by false e =
        let made = updated_counts w f g p spike (sym (ap (λ b. settle w (cond b (made_anew inst t k) (bind (updated f p spike) (λ g. done (Some g))))) e) ∙ settled) in
        (made.0 ∙ sym (ap (λ b. cond b k f.base) e), made.1 ∙ sym (ap (λ b. cond b 0 (f.updates + 1)) e))

-- the number at which they were made is not above the log's
pub counts_early : (e : Entry) (k : ℕ) (f g : Factors) → CountsFollow e k f g → f.base ≤ k → g.base ≤ k
counts_early (Flip q) k f g h early = subst (λ n. n ≤ k) (sym h.0) early
counts_early Turn k f g h early = subst (λ n. n ≤ k) (sym h.0) early
counts_early (Swap q p end) k f g h early = subst (λ n. n ≤ k) (sym h.0) (by (eqb f.updates most_updates))
  where
    by : (b : Bool) → cond b k f.base ≤ k
    by true = omega arith
    by false = early
