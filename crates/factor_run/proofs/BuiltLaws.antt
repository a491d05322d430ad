-- Along a run the built factors are those of the state's basis, and each entry leads from those before it to those after it.
use Rattle.std.proofs.Common.{◌≡◌, ◌≢◌, ℕ, ◌+◌, ◌<◌, ◌≤◌, eqb, List, [], ◌∷◌, ◌++◌, length, Option, Some, None, IsSome, ⊎_elim, refl, sym, ◌∙◌, ap, subst, arith, append_assoc, append-nil}
use Rattle.std.proofs.lemmas.List.{get_or-set_same, get_or-set_other}
use Rattle.std.proofs.lemmas.Bool.{cases_eq, eq-eqb, ne_eqb, cond-true, cond-false}
use Rattle.lp_model.specs.declared.Entry.{Entry}
use Rattle.lp_model.specs.declared.Entry.TheVariants.{Flip, Swap, Turn}
use Rattle.lp_model.specs.declared.Side.{Side}
use Rattle.rational.specs.Sum.{at}
use Rattle.rational.specs.Worked.{Worked, done, bind, settle}
use Rattle.rational.proofs.AnswerLaws.{answer-bind, answer-done}
use Rattle.rational.proofs.Settling.{settle-answer}
use Rattle.rational.proofs.MatrixLaws.{same_columns}
use Rattle.lp_run.specs.Instance.{Instance, coefficient, row_count}
use Rattle.lp_run.specs.Solution.{Regular, basis_entry}
use Rattle.lp_run.specs.Run.{IsRun, Leads}
use Rattle.lp_run.specs.State.{State, after, start_of}
use Rattle.lp_run.specs.Step.{IsNext}
use Rattle.lp_run.specs.Tableau.{HasTable}
use Rattle.lp_run.proofs.Kept.{after_has_table, regular_from_table, swap_element}
use Rattle.lp_run.proofs.Regularity.{table_solves}
use Rattle.lp_run.proofs.Start.{start_has_table}
use Rattle.factor_model.specs.Eta.{apply}
use Rattle.factor_model.specs.Upper.{solve}
use Rattle.factor_model.specs.Update.{HasPivot, with_column}
use Rattle.factor_model.specs.Factoring.{factored, fresh}
use Rattle.factor_model.specs.Factors.{Factors, AreFactors, most_updates, updated}
use Rattle.factor_model.proofs.FactoredLaws.{factored-regular, factored-represents}
use Rattle.factor_model.proofs.FactoredSame.{represents-same}
use Rattle.factor_model.proofs.UpdatedLaws.{updated-count, updated-represents, spike-solves, pivot-of}
use Rattle.factor_run.specs.Built.{built, built_from, entering_column, followed, followed_if, made_anew, StandFor}

-- ---- one calculation after another

module _ {A B : Type 0} where
  bind-bind : {C : Type 0} (c : Worked A) (f : A → Worked B) (g : B → Worked C) → bind (bind c f) g ≡ bind c (λ a. bind (f a) g)
  unfolding bind
  bind-bind c f g = ap (λ v. record { values = v; answer = (g (f c.answer).answer).answer }) (append_assoc c.values (f c.answer).values (g (f c.answer).answer).values)

  bind-same : (c : Worked A) (f g : A → Worked B) → f c.answer ≡ g c.answer → bind c f ≡ bind c g
  unfolding bind
  bind-same c f g e = ap (λ (w : Worked B). record { values = c.values ++ w.values; answer = w.answer }) e

  bind-first : (a : A) (f : A → Worked B) → bind (done a) f ≡ f a
  unfolding bind done
  bind-first a f = refl

bind-last : {A : Type 0} (c : Worked A) → bind c done ≡ c
unfolding bind done
bind-last c = ap (λ v. record { values = v; answer = c.answer }) (append-nil c.values)

-- ---- one entry more

module _ (inst : Instance) where
  from-more : (log : List Entry) (s t : State) (k : ℕ) (f : Option Factors) (e : Entry) → Leads inst s log t
      → built_from inst s k (log ++ e ∷ []) f ≡ bind (built_from inst s k log f) (λ g. followed_if inst (after t e) (k + length log + 1) e g)
  from-more [] s t k f e leads =
      let same : k + 1 ≡ k + 0 + 1 = omega arith in
      bind-last (followed_if inst (after s e) (k + 1) e f)
      ∙ ap (λ n. followed_if inst (after s e) n e f) same ∙ ap (λ x. followed_if inst (after x e) (k + 0 + 1) e f) leads
      ∙ sym (bind-first f (λ g. followed_if inst (after t e) (k + 0 + 1) e g))
  from-more (x ∷ log) s t k f e leads =
      let first = followed_if inst (after s x) (k + 1) x f in
      let count : k + 1 + length log + 1 ≡ k + length (x ∷ log) + 1 = omega arith in
      bind-same first (λ g. built_from inst (after s x) (k + 1) (log ++ e ∷ []) g)
      (λ g. bind (built_from inst (after s x) (k + 1) log g) (λ h. followed_if inst (after t e) (k + length (x ∷ log) + 1) e h))
      (from-more log (after s x) t (k + 1) first.answer e leads.1
      ∙ ap (λ n. bind (built_from inst (after s x) (k + 1) log first.answer) (λ h. followed_if inst (after t e) n e h)) count)
      ∙ sym (bind-bind first (λ g. built_from inst (after s x) (k + 1) log g) (λ h. followed_if inst (after t e) (k + length (x ∷ log) + 1) e h))

  -- the factors after one entry more follow those before it
  pub built-more : (log : List Entry) (s : State) (e : Entry) → IsRun inst log s
      → built inst (log ++ e ∷ []) ≡ bind (built inst log) (λ f. followed_if inst (after s e) (length log + 1) e f)
  built-more log s e run =
      let first = made_anew inst (start_of inst) 0 in
      let count : 0 + length log + 1 ≡ length log + 1 = omega arith in
      bind-same first (λ f. built_from inst (start_of inst) 0 (log ++ e ∷ []) f)
      (λ f. bind (built_from inst (start_of inst) 0 log f) (λ h. followed_if inst (after s e) (length log + 1) e h))
      (from-more log (start_of inst) s 0 first.answer e run
      ∙ ap (λ n. bind (built_from inst (start_of inst) 0 log first.answer) (λ h. followed_if inst (after s e) n e h)) count)
      ∙ sym (bind-bind first (λ f. built_from inst (start_of inst) 0 log f) (λ h. followed_if inst (after s e) (length log + 1) e h))

  -- ---- what the factors stand for

  fresh-stands : (s : State) (base : ℕ) → Regular inst s → StandFor inst s (made_anew inst s base).answer
  fresh-stands s base regular =
      let n = row_count inst in
      let b = basis_entry inst s in
      let there = factored-regular n b regular in
      subst (StandFor inst s)
      (sym (answer-bind (factored n b) (λ made. done (fresh base made)) ∙ answer-done (fresh base (factored n b).answer) ∙ ap (fresh base) there.2))
      (factored-represents n b there.0 there.1 there.2, omega arith)

  module _ (s : State) (h : HasTable inst s) (f : Factors) (factors : AreFactors (row_count inst) f (basis_entry inst s)) (q p : ℕ) (end : Side) (next : IsNext inst s (Swap q p end)) where
    -- the form's solution for the spike of the entering column has an item in the position that is not 0
    pub swap-pivot : HasPivot f.upper p (apply (entering_column inst q) f.etas).answer
    swap-pivot =
        let n = row_count inst in
        let b = basis_entry inst s in
        let at_p = swap_element inst s h q p end next in
        let x = (solve f.upper (apply (entering_column inst q) f.etas).answer).answer in
        let same : at x p ≡ h.table p q =
        same_columns n b (regular_from_table inst s h) (at x) (λ k. h.table k q)
        (λ i below. spike-solves f b (λ k. coefficient inst k q) p n factors i below ∙ sym (table_solves inst s h.table h.inverse h.entries i q below at_p.1)) p at_p.0 in
        pivot-of f b (λ k. coefficient inst k q) p n factors (λ none. at_p.2 (sym same ∙ none))

    -- so the updated factors are those of the next basis
    pub swap-represents : AreFactors (row_count inst) (updated f p (apply (entering_column inst q) f.etas).answer).answer (basis_entry inst (after s (Swap q p end)))
    swap-represents =
        let n = row_count inst in
        let b = basis_entry inst s in
        let a = λ (i : ℕ). coefficient inst i q in
        let at_p = swap_element inst s h q p end next in
        let there : p < length s.basis = subst (λ m. p < m) (sym h.positions) at_p.0 in
        let g = (updated f p (apply (entering_column inst q) f.etas).answer).answer in
        represents-same n (with_column b p a) (basis_entry inst (after s (Swap q p end)))
        (λ i k lt below.
        ⊎_elim
        (λ (same : k ≡ p).
        cond-true (eqb k p) (a i) (b i k) (eq-eqb k p same) ∙ ap (coefficient inst i) (sym (get_or-set_same s.basis p q 0 there)) ∙ ap (λ r. basis_entry inst (after s (Swap q p end)) i r) (sym same))
        (λ (ne : k ≢ p). cond-false (eqb k p) (a i) (b i k) (ne_eqb k p ne) ∙ ap (coefficient inst i) (sym (get_or-set_other s.basis p k q 0 ne)))
        (cases_eq k p))
        g.etas g.upper (updated-represents f b a p n factors at_p.0 swap-pivot)

  followed-stands : (s : State) → HasTable inst s → (e : Entry) → IsNext inst s e → (k : ℕ) (f : Factors) → StandFor inst s (Some f) → StandFor inst (after s e) (followed inst (after s e) k f e).answer
  followed-stands s h (Flip q) next k f stands = subst (StandFor inst (after s (Flip q))) (sym (answer-done (Some f))) stands
  followed-stands s h Turn next k f stands = subst (StandFor inst (after s Turn)) (sym (answer-done (Some f))) stands
  followed-stands s h (Swap q p end) next k f stands =
      let s' = after s (Swap q p end) in
      let spike = (apply (entering_column inst q) f.etas).answer in
      ⊎_elim
      (λ (most : f.updates ≡ most_updates).
      subst (λ (w : Worked (Option Factors)). StandFor inst s' w.answer) (sym (cond-true (eqb f.updates most_updates) _ _ (eq-eqb f.updates most_updates most)))
      (fresh-stands s' k (regular_from_table inst s' (after_has_table inst s h (Swap q p end) next))))
      (λ (fewer : f.updates ≢ most_updates).
      subst (λ (w : Worked (Option Factors)). StandFor inst s' w.answer) (sym (cond-false (eqb f.updates most_updates) _ _ (ne_eqb f.updates most_updates fewer)))
      (subst (StandFor inst s') (sym (answer-bind (updated f p spike) (λ g. done (Some g)) ∙ answer-done (Some (updated f p spike).answer)))
      (swap-represents s h f stands.0 q p end next, omega (arith, updated-count f (basis_entry inst s) (λ i. coefficient inst i q) p spike, stands.1, fewer))))
      (cases_eq f.updates most_updates)

  -- one entry more keeps it
  pub followed_if-stands : (s : State) → HasTable inst s → (e : Entry) → IsNext inst s e → (k : ℕ) (f : Option Factors) → StandFor inst s f
      → StandFor inst (after s e) (followed_if inst (after s e) k e f).answer
  followed_if-stands s h e next k None stands = absurd stands
  followed_if-stands s h e next k (Some f) stands = followed-stands s h e next k f stands

  from-stands : (log : List Entry) (s t : State) → HasTable inst s → (k : ℕ) (f : Option Factors) → StandFor inst s f → Leads inst s log t → StandFor inst t (built_from inst s k log f).answer
  from-stands [] s t h k f stands leads = subst (λ x. StandFor inst x (built_from inst s k [] f).answer) leads (subst (StandFor inst s) (sym (answer-done f)) stands)
  from-stands (e ∷ log) s t h k f stands leads =
      let first = followed_if inst (after s e) (k + 1) e f in
      subst (StandFor inst t) (sym (answer-bind first (λ g. built_from inst (after s e) (k + 1) log g)))
      (from-stands log (after s e) t (after_has_table inst s h e leads.0) (k + 1) first.answer (followed_if-stands s h e leads.0 (k + 1) f stands) leads.1)

  -- along a run there are factors of the state's basis
  pub built-stands : (log : List Entry) (s : State) → IsRun inst log s → StandFor inst s (built inst log).answer
  built-stands log s run =
      let first = made_anew inst (start_of inst) 0 in
      subst (StandFor inst s) (sym (answer-bind first (λ f. built_from inst (start_of inst) 0 log f)))
      (from-stands log (start_of inst) s (start_has_table inst) 0 first.answer (fresh-stands (start_of inst) 0 (regular_from_table inst (start_of inst) (start_has_table inst))) run)

  -- so what they settle to at a width
  pub settled-stands : (w : ℕ) (log : List Entry) (s : State) → IsRun inst log s → (f : Option Factors) → settle w (built inst log) ≡ Some f → StandFor inst s f
  settled-stands w log s run f settled = subst (StandFor inst s) (settle-answer w (built inst log) f settled) (built-stands log s run)

  -- where they settle at a width, there are factors of the state's basis
  pub settled-factors : (w : ℕ) (log : List Entry) (s : State) → IsRun inst log s → IsSome (settle w (built inst log))
      → (f : Factors) × (settle w (built inst log) ≡ Some (Some f)) × AreFactors (row_count inst) f (basis_entry inst s) × (f.updates ≤ most_updates)
  settled-factors w log s run some = by_answer (settle w (built inst log)) refl some
    where
      by_answer : (o : Option (Option Factors)) → settle w (built inst log) ≡ o → IsSome o
          → (f : Factors) × (settle w (built inst log) ≡ Some (Some f)) × AreFactors (row_count inst) f (basis_entry inst s) × (f.updates ≤ most_updates)
      by_answer None e held = absurd cc
      by_answer (Some None) e held = absurd (settled-stands w log s run None e)
      by_answer (Some (Some f)) e held = let stands = settled-stands w log s run (Some f) e in (f, e, stands.0, stands.1)
