use Rattle.std.proofs.Common.{◌≡◌, ◌++◌, ℕ, List, [], ◌∷◌, refl, sym, ◌∙◌, ap, ap₂, append-nil}
use Rattle.std.specs.Prelude.{codes}
use Rattle.lp_text.specs.Report.{column_names, row_names}
use Rattle.deck_model.specs.declared.outcome.Outcome.TheVariants.{Optimal}
use Rattle.report_lines.specs.FirstFlaw as expected
use Rattle.report_lines.specs.FirstFlaw.{values}
use Rattle.report_reader.proofs.PartLines.{IsObjective, IsObjectiveAnd, IsOutcome, names_length, row_names_length}
use Rattle.report_reader.proofs.Taking.{finished, none_yet, stopped, taken}
use Rattle.report_reader.proofs.parts.read_optimal.Goals as goal

pub returns-in_err-objective : goal.returns-in_err-objective
returns-in_err-objective g c =
    let start = none_yet c.args.deck.now g.S.Source.remaining g.S.Source.fault_count c.args.lines.now c.args.source.now
    (expected.objective ∷ values (codes "VALUE") (column_names c.args.deck.now) ++ values (codes "PRICE") (row_names c.args.deck.now))
    (λ ls. ls ≡ []) c.requires refl in
    stopped (values (codes "VALUE") (column_names c.args.deck.now) ++ values (codes "PRICE") (row_names c.args.deck.now)) refl start
    (c.in_err-objective.ensures c.args.deck.now) c.from_residual.ensures.1

pub read_values-requires : goal.read_values-requires
read_values-requires g c = (c.in_ok-objective.ensures c.args.deck.now).found.moves.ready

pub returns-in_err-x : goal.returns-in_err-x
returns-in_err-x g c =
    let start = none_yet c.args.deck.now g.S.Source.remaining g.S.Source.fault_count c.args.lines.now c.args.source.now
    (expected.objective ∷ values (codes "VALUE") (column_names c.args.deck.now) ++ values (codes "PRICE") (row_names c.args.deck.now))
    (λ ls. ls ≡ []) c.requires refl in
    let with_objective = taken (values (codes "VALUE") (column_names c.args.deck.now) ++ values (codes "PRICE") (row_names c.args.deck.now))
    (IsObjective c.in_ok-objective.objective) refl (λ ls ms a b. (ap₂ (λ (p q : List (List ℕ)). p ++ q) a b.0, b.1)) start
    (c.in_ok-objective.ensures c.args.deck.now) in
    stopped (values (codes "PRICE") (row_names c.args.deck.now)) refl with_objective (c.in_err-x.ensures c.args.deck.now) c.from_residual-in_err-x.ensures.1

pub read_values-requires-2 : goal.read_values-requires-2
read_values-requires-2 g c = (c.in_ok-x.ensures c.args.deck.now).found.moves.ready

pub returns-in_err-y : goal.returns-in_err-y
returns-in_err-y g c =
    let start = none_yet c.args.deck.now g.S.Source.remaining g.S.Source.fault_count c.args.lines.now c.args.source.now
    (expected.objective ∷ values (codes "VALUE") (column_names c.args.deck.now) ++ values (codes "PRICE") (row_names c.args.deck.now))
    (λ ls. ls ≡ []) c.requires refl in
    let with_objective = taken (values (codes "VALUE") (column_names c.args.deck.now) ++ values (codes "PRICE") (row_names c.args.deck.now))
    (IsObjective c.in_ok-objective.objective) refl (λ ls ms a b. (ap₂ (λ (p q : List (List ℕ)). p ++ q) a b.0, b.1)) start
    (c.in_ok-objective.ensures c.args.deck.now) in
    let with_x = taken (values (codes "PRICE") (row_names c.args.deck.now)) (IsObjectiveAnd c.args.deck.now c.in_ok-objective.objective c.in_ok-x.x) refl
    (λ ls ms a b. ((b.0.0, b.0.1, a.1), ap₂ (λ (p q : List (List ℕ)). p ++ q) a.0 b.1)) with_objective (c.in_ok-x.ensures c.args.deck.now) in
    stopped [] (sym (append-nil (values (codes "PRICE") (row_names c.args.deck.now)))) with_x (c.in_err-y.ensures c.args.deck.now) c.from_residual-in_err-y.ensures.1

pub returns : goal.returns
returns g c =
    let start = none_yet c.args.deck.now g.S.Source.remaining g.S.Source.fault_count c.args.lines.now c.args.source.now
    (expected.objective ∷ values (codes "VALUE") (column_names c.args.deck.now) ++ values (codes "PRICE") (row_names c.args.deck.now))
    (λ ls. ls ≡ []) c.requires refl in
    let with_objective = taken (values (codes "VALUE") (column_names c.args.deck.now) ++ values (codes "PRICE") (row_names c.args.deck.now))
    (IsObjective c.in_ok-objective.objective) refl (λ ls ms a b. (ap₂ (λ (p q : List (List ℕ)). p ++ q) a b.0, b.1)) start
    (c.in_ok-objective.ensures c.args.deck.now) in
    let with_x = taken (values (codes "PRICE") (row_names c.args.deck.now)) (IsObjectiveAnd c.args.deck.now c.in_ok-objective.objective c.in_ok-x.x) refl
    (λ ls ms a b. ((b.0.0, b.0.1, a.1), ap₂ (λ (p q : List (List ℕ)). p ++ q) a.0 b.1)) with_objective (c.in_ok-x.ensures c.args.deck.now) in
    finished
    (taken [] (IsOutcome c.args.deck.now (codes "OPTIMAL") (Optimal c.in_ok-x.x c.in_ok-y.y c.in_ok-objective.objective))
    (sym (append-nil (values (codes "PRICE") (row_names c.args.deck.now))))
    (λ ls ms a b. (
      ((a.0.0 ∙ names_length c.args.deck.now, b.0.0 ∙ row_names_length c.args.deck.now), (a.0.1, b.0.1, a.0.2)),
      ap (λ t. codes "OPTIMAL" ∷ t)
          (ap₂ (λ (p q : List (List ℕ)). p ++ q) a.1 b.1),
    ))
    with_x (c.in_ok-y.ensures c.args.deck.now))
    refl (λ ls h. h)
