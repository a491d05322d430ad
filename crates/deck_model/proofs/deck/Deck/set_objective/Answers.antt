use Rattle.std.proofs.Common.{sym, ◌∙◌}
use Rattle.std.specs.Map.{keys_of}
use Rattle.deck_model.proofs.Lookups.{unfound}
use Rattle.deck_model.proofs.Seen.{find_row-shown}
use Rattle.deck_model.proofs.deck.Deck.set_objective.Goals as goal

pub invariant_of-self : goal.invariant_of-self
invariant_of-self c =
    let a = c.self.inside in
    record {
      columns = c.self.invariant.columns;
      unnamed = unfound c.args.name (keys_of a.rows.entries) (sym (find_row-shown a c.args.self.now c.self.view_is c.args.name) ∙ c.requires);
      few_rows = c.self.invariant.few_rows;
      few_columns = c.self.invariant.few_columns;
      counted = c.self.invariant.counted;
    }
