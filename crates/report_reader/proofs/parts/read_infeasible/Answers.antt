use Rattle.std.proofs.Common.{◌≡◌, ◌++◌, ℕ, List, [], ◌∷◌, refl, sym, ◌∙◌, ap, ap₂, append-nil}
use Rattle.std.specs.Prelude.{codes}
use Rattle.lp_text.specs.Report.{row_names}
use Rattle.deck_model.specs.declared.outcome.Outcome.TheVariants.{Infeasible}
use Rattle.report_lines.specs.FirstFlaw.{values}
use Rattle.report_reader.proofs.PartLines.{IsOutcome, row_names_length}
use Rattle.report_reader.proofs.Taking.{finished, none_yet, stopped, taken}
use Rattle.report_reader.proofs.parts.read_infeasible.Goals as goal

pub returns-in_err-y : goal.returns-in_err-y
returns-in_err-y g c =
    stopped [] (sym (append-nil (values (codes "FARKAS") (row_names c.args.deck.now))))
    (none_yet c.args.deck.now g.S.Source.remaining g.S.Source.fault_count c.args.lines.now c.args.source.now
    (values (codes "FARKAS") (row_names c.args.deck.now)) (λ ls. ls ≡ []) c.requires refl)
    (c.in_err-y.ensures c.args.deck.now) c.from_residual.ensures.1

pub returns : goal.returns
returns g c =
    let start = none_yet c.args.deck.now g.S.Source.remaining g.S.Source.fault_count c.args.lines.now c.args.source.now
    (values (codes "FARKAS") (row_names c.args.deck.now)) (λ ls. ls ≡ []) c.requires refl in
    finished
    (taken [] (IsOutcome c.args.deck.now (codes "INFEASIBLE") (Infeasible c.in_ok-y.y)) (sym (append-nil (values (codes "FARKAS") (row_names c.args.deck.now))))
    (λ ls ms a b. ((b.0.0 ∙ row_names_length c.args.deck.now, b.0.1), ap (λ t. codes "INFEASIBLE" ∷ t) (ap₂ (λ (p q : List (List ℕ)). p ++ q) a b.1))) start
    (c.in_ok-y.ensures c.args.deck.now))
    refl (λ ls h. h)
