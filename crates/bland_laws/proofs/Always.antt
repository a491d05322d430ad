-- At every state of a run the basis is regular, the state valid, the values within the bounds of the phase, and phase one never free.
use Rattle.std.proofs.Common.{◌≡◌, ℕ, ◌<◌, List, sym, ◌∙◌, subst}
use Rattle.std.proofs.lemmas.List.Elements.{Contains-get_or}
use Rattle.std.proofs.lemmas.Grind.{get_or_default_zero}
use Rattle.std.specs.Prelude.{Contains}
use Rattle.lp_model.specs.declared.Entry.{Entry}
use Rattle.lp_model.specs.declared.Status.TheVariants as status
use Rattle.lp_model.specs.Deck.{Deck, IsDeck}
use Rattle.lp_run.specs.Instance.{Instance, IsWellFormed, column_count, instance_of}
use Rattle.lp_run.specs.Run.{IsRun}
use Rattle.lp_run.specs.State.{IsState, State, start_of, status_of}
use Rattle.bland_laws.specs.Kept.{Kept}
use Rattle.bland_laws.proofs.Holding.{Holds, once, regular, values_within}
use Rattle.bland_laws.proofs.Bounded.{is_bounded}
use Rattle.bland_laws.proofs.OfDeck.{well_formed}
use Rattle.bland_laws.proofs.Starting.{start_holds}
use Rattle.bland_laws.proofs.Phases.{leads_holds, never_free}

module _ (inst : Instance) (s : State) (h : Holds inst s) where
  is_valid : IsState inst s
  is_valid = record {
    positions = h.table.positions;
    columns = h.each;
    in_range = h.table.within;
    once = λ p k b c same. once inst s h p k b c same;
    basic_just_there = λ j b. (there j b, back j);
    ends = h.stands;
  }
    where
      there : (j : ℕ) → j < column_count inst → status_of s j ≡ status.Basic → Contains s.basis j
      there j b now =
          let (p, c, same) = h.found j b now in
          subst (Contains s.basis) same (Contains-get_or s.basis p 0 (subst (λ n. p < n) (sym h.table.positions) c))

      back : (j : ℕ) → Contains s.basis j → status_of s j ≡ status.Basic
      back j (p, c, same) =
          subst (λ k. status_of s k ≡ status.Basic) (sym (get_or_default_zero s.basis p j c) ∙ same) (h.marked p (subst (λ n. p < n) h.table.positions c))

  pub kept_from_holds : Kept inst s
  kept_from_holds = record {
    regular = regular inst s h;
    valid = is_valid;
    within = values_within inst s h;
    has_values = (h.β, h.values);
    never_free = λ one y β α q prices eligible column free. never_free inst s h one y β α q prices eligible column free;
  }

-- the states of a run hold
pub instance_holds : (inst : Instance) → IsWellFormed inst → (log : List Entry) (s : State) → IsRun inst log s → Holds inst s
instance_holds inst h log s run = leads_holds inst (is_bounded inst h) (start_of inst) (start_holds inst h) log s run

pub run_holds : (d : Deck) → IsDeck d → (log : List Entry) (s : State) → IsRun (instance_of d) log s → Holds (instance_of d) s
run_holds d deck log s run = instance_holds (instance_of d) (well_formed d deck) log s run

pub kept : (inst : Instance) → IsWellFormed inst → (log : List Entry) (s : State) → IsRun inst log s → Kept inst s
kept inst h log s run = kept_from_holds inst s (instance_holds inst h log s run)
