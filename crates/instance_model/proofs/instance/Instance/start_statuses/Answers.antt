-- The statuses of the structurals, of the logicals and of the artificials, one after the other.
use Rattle.std.proofs.Common.{◌≡◌, ◌^◌, ◌≤◌, ◌++◌, length, map, sym, ◌∙◌, ap, ap₂, subst}
use Rattle.instance_model.specs.declared.instance.Structural.{Structural as Part}
use Rattle.lp_run.specs.State.{artificial_start, logical_start, start_of, structural_start}
use Rattle.instance_model.proofs.Starts.{statuses_are, statuses_few}
use Rattle.instance_model.proofs.instance.Instance.start_statuses.Goals as goal

module _ (c : goal.After-drop-logicals-2) where
  all_statuses : c.extend_from_slice-2.new.self.items ≡ (start_of c.args.self.now).statuses
  all_statuses =
      let structurals = c.in_ok-statuses.ensures ∙ ap (map (λ (s : Part). structural_start s.bounds)) c.deref.ensures.value in
      let logicals = c.deref-4.ensures.value ∙ c.in_ok-logicals.ensures ∙ ap (map logical_start) c.deref-2.ensures.value in
      let artificials = c.deref-5.ensures.value ∙ c.in_ok-artificials.ensures ∙ ap (map artificial_start) c.deref-3.ensures.value in
      c.in_ok-extend_from_slice-2.ensures.items ∙ ap₂ ◌++◌ (c.in_ok-extend_from_slice.ensures.items ∙ ap₂ ◌++◌ structurals logicals) artificials
      ∙ statuses_are c.self.inside c.args.self.now c.self.view_is

pub returns-clause-statuses : goal.returns-clause-statuses
returns-clause-statuses c = all_statuses c

pub returns-clause-few : goal.returns-clause-few
returns-clause-few c =
    subst (λ xs. length xs ≤ 2 ^ 32) (ap (λ i. (start_of i).statuses) c.self.view_is ∙ sym (all_statuses c)) (statuses_few c.self.inside c.self.invariant)
