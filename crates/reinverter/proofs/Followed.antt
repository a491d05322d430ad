-- What a draft stands on after an entry of the run.
use Rattle.std.proofs.Common.{◌≡◌, ℕ, ◌+◌, ◌<◌, ◌≤◌, [], ◌∷◌, ◌++◌, length, length-append, take, List, Some, None, Result, Ok, Err, OnOk, refl, sym, ◌∙◌, ap, subst, arith}
use Rattle.std.proofs.Math.Seq.{take-append_seam}
use Rattle.lp_model.specs.declared.Entry.{Entry}
use Rattle.lp_model.specs.declared.Entry.TheVariants.{Flip, Swap, Turn}
use Rattle.lp_model.specs.declared.Side.{Side}
use Rattle.rational.specs.Rational.{ℚ}
use Rattle.rational.specs.Worked.{bind, done, settle}
use Rattle.rational.proofs.AnswerLaws.{answer-bind, answer-done}
use Rattle.rational.proofs.Settling.{settle-answer, settle-bind, settle-bind_none}
use Rattle.lp_run.specs.Instance.{Instance, IsWellFormed, row_count}
use Rattle.lp_run.specs.Run.{IsAt}
use Rattle.lp_run.specs.Solution.{basis_entry}
use Rattle.lp_run.specs.State.{State, after, start_of}
use Rattle.lp_run.specs.Step.{IsNext}
use Rattle.lp_run.specs.Tableau.{HasTable}
use Rattle.lp_run.proofs.Runs.{leads_on, reached_has_table}
use Rattle.bland_laws.proofs.Always.{instance_holds}
use Rattle.instance_model.specs.Entries.{CanTake}
use Rattle.factor_model.specs.Eta.{apply}
use Rattle.factor_model.specs.Factors.{AreFactors, Factors, ftran, most_updates, updated, with_update}
use Rattle.factor_model.specs.Update.{HasPivot, update}
use Rattle.factor_model.specs.Upper.{solve}
use Rattle.factor_run.specs.Built.{entering_column}
use Rattle.factor_run.proofs.BuiltLaws.{swap-pivot, swap-represents}
use Rattle.two_phase.specs.Drafts.{DraftStands, IsOfRun}
use Rattle.two_phase.specs.declared.draft.Draft.{Draft}
use Rattle.two_phase.specs.declared.draft.DraftParts.{DraftParts}
use Rattle.two_phase.proofs.Takings.{can_take}
use Rattle.reinverter.specs.Replays.{IsReplayed, exchanged_once, replayed}
use Rattle.std.specs.Arc.{arc_value}

-- the run's state after the next entry
pub next_at : (inst : Instance) (k : ℕ) (s : State) (e : Entry) → IsAt inst k s → IsNext inst s e → IsAt inst (k + 1) (after s e)
next_at inst k s e (log, run, number) next =
    (log ++ e ∷ [], leads_on inst (start_of inst) s log e run next, length-append log (e ∷ []) ∙ ap (λ n. n + 1) number)

-- ── an exchange, in its two parts ──

module _ (w : ℕ) (inst : Instance) (f : Factors) (q p : ℕ) (spike x : List ℚ) where
  pub both_settle : (g : Factors) → settle w (ftran f (entering_column inst q)) ≡ Some (spike, x) → settle w (updated f p spike) ≡ Some g → settle w (exchanged_once inst f q p) ≡ Some g
  both_settle g solved followed = settle-bind w (ftran f (entering_column inst q)) (λ solved. updated f p solved.0) (spike, x) solved ∙ followed

  pub second_unfit : settle w (ftran f (entering_column inst q)) ≡ Some (spike, x) → settle w (updated f p spike) ≡ None → settle w (exchanged_once inst f q p) ≡ None
  second_unfit solved none = settle-bind w (ftran f (entering_column inst q)) (λ solved. updated f p solved.0) (spike, x) solved ∙ none

pub first_unfit : (w : ℕ) (inst : Instance) (f : Factors) (q p : ℕ) → settle w (ftran f (entering_column inst q)) ≡ None → settle w (exchanged_once inst f q p) ≡ None
first_unfit w inst f q p none = settle-bind_none w (ftran f (entering_column inst q)) (λ solved. updated f p solved.0) none

-- what stands in the position has a pivot
pub run_pivot : (inst : Instance) (k : ℕ) (s : State) → IsAt inst k s → (f : Factors) → AreFactors (row_count inst) f (basis_entry inst s) → (e : Entry) → IsNext inst s e
    → (q p : ℕ) (end : Side) → e ≡ Swap q p end → HasPivot f.upper p (apply (entering_column inst q) f.etas).answer
run_pivot inst k s (log, run, number) f factors e next q p end is = swap-pivot inst s (reached_has_table inst log s run) f factors q p end (subst (IsNext inst s) is next)

-- ── what the factors are then ──

module _ (inst : Instance) (f : Factors) (q p : ℕ) where
  abbrev pub spike : List ℚ
  spike = (apply (entering_column inst q) f.etas).answer

  ftran_spike : (ftran f (entering_column inst q)).answer.0 ≡ spike
  ftran_spike =
      ap (λ (r : List ℚ × List ℚ). r.0)
      (answer-bind (apply (entering_column inst q) f.etas) (λ v. bind (solve f.upper v) (λ x. done (v, x)))
      ∙ answer-bind (solve f.upper spike) (λ x. done (spike, x)) ∙ answer-done (spike, (solve f.upper spike).answer))

  exchanged_is : (exchanged_once inst f q p).answer ≡ (updated f p spike).answer
  exchanged_is = answer-bind (ftran f (entering_column inst q)) (λ solved. updated f p solved.0) ∙ ap (λ v. (updated f p v).answer) ftran_spike

  updated_is : (updated f p spike).answer ≡ with_update f p spike (update f.upper p spike).answer
  updated_is = answer-bind (update f.upper p spike) (λ e. done (with_update f p spike e)) ∙ answer-done (with_update f p spike (update f.upper p spike).answer)

module _ (w : ℕ) (inst : Instance) (s : State) (table : HasTable inst s) (f : Factors) (factors : AreFactors (row_count inst) f (basis_entry inst s)) (few : f.updates < most_updates) where
  abbrev pub Follows : Entry → Factors → Type 0
  Follows e g = AreFactors (row_count inst) g (basis_entry inst (after s e)) × (g.updates ≤ most_updates) × (g.base ≡ f.base)

  same_follow : (e : Entry) → AreFactors (row_count inst) f (basis_entry inst (after s e)) → (g : Factors) → settle w (done f) ≡ Some g → Follows e g
  same_follow e there g settled = subst (Follows e) (sym (answer-done f) ∙ settle-answer w (done f) g settled) (there, omega (arith, few), refl)

  pub replayed_follows : (e : Entry) → IsNext inst s e → (g : Factors) → settle w (replayed inst f e) ≡ Some g → Follows e g
  replayed_follows (Flip q) next g settled = same_follow (Flip q) factors g settled
  replayed_follows Turn next g settled = same_follow Turn factors g settled
  replayed_follows (Swap q p end) next g settled =
      let is : (updated f p (spike inst f q p)).answer ≡ g = sym (exchanged_is inst f q p) ∙ settle-answer w (exchanged_once inst f q p) g settled in
      let whole : g ≡ with_update f p (spike inst f q p) (update f.upper p (spike inst f q p)).answer = sym is ∙ updated_is inst f q p in (
        subst (λ g. AreFactors (row_count inst) g (basis_entry inst (after s (Swap q p end)))) is (swap-represents inst s table f factors q p end next),
        omega (arith, few, ap (λ (g : Factors). g.updates) whole),
        ap (λ (g : Factors). g.base) whole,
      )

-- the draft after an entry
pub replayed_stands : (w : ℕ) (d new : Draft) → DraftStands d → IsOfRun d → d.factors.updates < most_updates → (e : Entry) → IsNext d.inst.value d.state e
    → settle w (replayed d.inst.value d.factors e) ≡ Some new.factors → IsReplayed e d new → DraftStands new × IsOfRun new
replayed_stands w d new h (log, run, number) few e next settled is =
    let follows = replayed_follows w d.inst.value d.state (reached_has_table d.inst.value log d.state run) d.factors h.factors few e next new.factors settled in
    let inst : new.inst.value ≡ d.inst.value = ap arc_value is.instance in (
      record {
        factors = subst (λ i. AreFactors (row_count i) new.factors (basis_entry i new.state)) (sym inst)
            (subst (λ t. AreFactors (row_count d.inst.value) new.factors (basis_entry d.inst.value t)) (sym is.state) follows.0);
        few = follows.1;
        base = follows.2 ∙ h.base ∙ sym is.base;
        early = omega (arith, h.early, is.number, is.base);
      },
      subst (λ i. IsAt i new.number new.state) (sym inst)
          (subst (λ k. IsAt d.inst.value k new.state) (sym is.number)
          (subst (λ t. IsAt d.inst.value (d.number + 1) t) (sym is.state) (next_at d.inst.value d.number d.state e (log, run, number) next))),
    )

-- the same of its parts
module _ (d : Draft) (h : DraftStands d × IsOfRun d) (parts : DraftParts) (is : parts ≡ record { inst = d.inst; base = d.base; number = d.number; state = d.state; factors = d.factors })
    (i : Instance) (there : i ≡ parts.inst.value) (e : Entry) (next : IsNext d.inst.value d.state e) where
  same : i ≡ d.inst.value
  same = there ∙ ap (λ (p : DraftParts). arc_value p.inst) is

  pub parts_at : IsAt i d.number parts.state
  parts_at = subst (λ i. IsAt i d.number parts.state) (sym same) (subst (λ s. IsAt d.inst.value d.number s) (sym (ap (λ (p : DraftParts). p.state) is)) h.1)

  pub parts_take : IsWellFormed i → CanTake parts.state e
  parts_take formed = by h.1
    where
      by : IsAt d.inst.value d.number d.state → CanTake parts.state e
      by (log, run, number) =
          subst (λ s. CanTake s e) (sym (ap (λ (p : DraftParts). p.state) is))
          (can_take d.inst.value d.state (instance_holds d.inst.value (subst IsWellFormed same formed) log d.state run) e next)

  abbrev pub gone_on : State → Factors → Draft
  gone_on t g = record { inst = parts.inst; base = parts.base; number = parts.number + 1; state = t; factors = g }

  pub parts_stand : (w : ℕ) → d.factors.updates < most_updates → (t : State) → t ≡ after parts.state e → (g : Factors) → settle w (replayed i parts.factors e) ≡ Some g
      → DraftStands (gone_on t g) × IsOfRun (gone_on t g)
  parts_stand w few t after_it g settled =
      replayed_stands w d (gone_on t g) h.0 h.1 few e next
      (subst (λ f. settle w (replayed d.inst.value f e) ≡ Some g) (ap (λ (p : DraftParts). p.factors) is) (subst (λ i. settle w (replayed i parts.factors e) ≡ Some g) same settled))
      (record {
        instance = ap (λ (p : DraftParts). p.inst) is;
        base = ap (λ (p : DraftParts). p.base) is;
        number = ap (λ (p : DraftParts). p.number + 1) is;
        state = after_it ∙ ap (λ (p : DraftParts). after p.state e) is;
      })

pub on_ok : {A E P Q : Type 0} (r : Result A E) → (P → Q) → OnOk r P → OnOk r Q
on_ok (Ok a) f h = f h
on_ok (Err e) f h = h

-- a list that is written back to its room
pub seam_back : (v spike rest : List ℚ) (n : ℕ) → v ≡ take n (spike ++ rest) → n ≡ length spike → v ≡ spike
seam_back v spike rest n is same = is ∙ ap (λ n. take n (spike ++ rest)) same ∙ take-append_seam spike rest
