use Rattle.std.proofs.Common.{◌≡◌, [], ◌∷◌, ◌++◌, refl, ap, ◌∙◌, nat_eq, if◌then◌else◌}
use Rattle.std.specs.Cmp.Lexicographic.{pointwise}
use Rattle.std.specs.List.{list_any}
use Rattle.mps_model.specs.RowCards.{with_free_row}
use Rattle.mps_reader.proofs.RowsAdded.{first_named, free_row_added, inserted, later_named, objective_after}
use Rattle.mps_reader.proofs.RowNames.{unplaced}
use Rattle.mps_reader.proofs.draft.Draft.add_free_row.Goals as goal
use Rattle.mps_reader.proofs.draft.Draft.add_free_row.Goals.{then-is_empty+in_ok-of, else-is_empty}

pub returns : goal.returns
returns c = λ s h none.
    let draft = c.args.self.now in
    let keys = draft.free_rows.keys in
    let named : c.if-is_empty.self ≡ record draft { deck = objective_after keys draft.deck c.args.name } =
    elim c.if-is_empty.branch [
      | then-is_empty+in_ok-of w ↦
          w.self-is
          ∙ ap (λ d. record draft { deck = d })
          (w.set_objective.ensures ∙ ap (λ n. record draft.deck { objective = n }) (w.in_ok-of.ensures ∙ w.bytes.ensures)
          ∙ first_named keys draft.deck c.args.name (c.is_empty.ensures.0 w.if-is_empty.true))
      | else-is_empty w ↦
          w.self-is
          ∙ ap (λ d. record draft { deck = d })
          (later_named keys draft.deck c.args.name (λ e. let there = c.is_empty.ensures.1 e in absurd (cc (there, w.if-is_empty.false))))
    ] in (
      with_free_row s c.args.name,
      refl,
      free_row_added draft s h c.requires.rows c.args.name (record c.if-is_empty.self { free_rows = c.insert.new.self })
          (ap (λ m. m.begun) named) (ap (λ m. m.awaits_sense) named) (ap (λ m. m.set) named) (ap (λ m. m.named) named) (ap (λ m. m.bounds) named) (ap (λ m. m.deck) named)
          (inserted keys c.insert.new.self.keys c.args.name
          (c.in_ok-insert.ensures.keys
          ∙ ap (λ m. if list_any (pointwise nat_eq c.args.name) m.free_rows.keys then m.free_rows.keys else m.free_rows.keys ++ c.args.name ∷ []) named)
          (unplaced draft s h c.args.name none).1),
    )
