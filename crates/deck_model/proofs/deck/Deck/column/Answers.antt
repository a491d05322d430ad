use Rattle.std.proofs.Common.{ap, ap₂, sym, length, ◌∙◌}
use Rattle.std.proofs.lemmas.List.{length-map}
use Rattle.lp_model.specs.Deck.{Column, Deck}
use Rattle.deck_model.specs.Parts.{row_of}
use Rattle.deck_model.proofs.Seen.{column-shown}
use Rattle.deck_model.proofs.Sound.{column_at}
use Rattle.deck_model.proofs.deck.Deck.column.Goals as goal

pub returns : goal.returns
returns c =
    ap₂ (λ m ps. record { length = m; pairs = ps })
    ((column_at c.self.inside c.self.invariant c.args.column c.index.result.now c.index.ensures).long
    ∙ sym (length-map c.self.inside.rows.entries row_of) ∙ ap (λ (d : Deck). length d.rows) c.self.view_is)
    (sym (ap (λ (k : Column). k.entries) (column-shown c.self.inside c.args.self.now c.self.view_is c.args.column c.index.result.now c.index.ensures)))
