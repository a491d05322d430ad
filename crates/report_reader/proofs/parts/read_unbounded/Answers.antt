use Rattle.std.proofs.Common.{◌≡◌, ◌++◌, ℕ, List, [], ◌∷◌, refl, sym, ◌∙◌, ap, ap₂, append-nil}
use Rattle.std.specs.Prelude.{codes}
use Rattle.lp_text.specs.Report.{column_names}
use Rattle.deck_model.specs.declared.outcome.Outcome.TheVariants.{Unbounded}
use Rattle.report_lines.specs.FirstFlaw.{values}
use Rattle.report_reader.proofs.PartLines.{IsOutcome, IsValues, names_length}
use Rattle.report_reader.proofs.Taking.{finished, none_yet, stopped, taken}
use Rattle.report_reader.proofs.parts.read_unbounded.Goals as goal

pub returns-in_err-x : goal.returns-in_err-x
returns-in_err-x g c =
    stopped (values (codes "RAY") (column_names c.args.deck.now)) refl
    (none_yet c.args.deck.now g.S.Source.remaining g.S.Source.fault_count c.args.lines.now c.args.source.now
    (values (codes "VALUE") (column_names c.args.deck.now) ++ values (codes "RAY") (column_names c.args.deck.now)) (λ ls. ls ≡ []) c.requires
    refl) (c.in_err-x.ensures c.args.deck.now) c.from_residual.ensures.1

pub read_values-requires-2 : goal.read_values-requires-2
read_values-requires-2 g c = (c.in_ok-x.ensures c.args.deck.now).found.moves.ready

pub returns-in_err-ray : goal.returns-in_err-ray
returns-in_err-ray g c =
    let start = none_yet c.args.deck.now g.S.Source.remaining g.S.Source.fault_count c.args.lines.now c.args.source.now
    (values (codes "VALUE") (column_names c.args.deck.now) ++ values (codes "RAY") (column_names c.args.deck.now)) (λ ls. ls ≡ []) c.requires refl in
    let with_x = taken (values (codes "RAY") (column_names c.args.deck.now)) ((IsValues (codes "VALUE") (column_names c.args.deck.now)) c.in_ok-x.x)
    refl (λ ls ms a b. (b.0, ap₂ (λ (p q : List (List ℕ)). p ++ q) a b.1)) start (c.in_ok-x.ensures c.args.deck.now) in
    stopped [] (sym (append-nil (values (codes "RAY") (column_names c.args.deck.now)))) with_x (c.in_err-ray.ensures c.args.deck.now) c.from_residual-in_err-ray.ensures.1

pub returns : goal.returns
returns g c =
    let start = none_yet c.args.deck.now g.S.Source.remaining g.S.Source.fault_count c.args.lines.now c.args.source.now
    (values (codes "VALUE") (column_names c.args.deck.now) ++ values (codes "RAY") (column_names c.args.deck.now)) (λ ls. ls ≡ []) c.requires refl in
    let with_x = taken (values (codes "RAY") (column_names c.args.deck.now)) ((IsValues (codes "VALUE") (column_names c.args.deck.now)) c.in_ok-x.x)
    refl (λ ls ms a b. (b.0, ap₂ (λ (p q : List (List ℕ)). p ++ q) a b.1)) start (c.in_ok-x.ensures c.args.deck.now) in
    finished
    (taken [] (IsOutcome c.args.deck.now (codes "UNBOUNDED") (Unbounded c.in_ok-x.x c.in_ok-ray.ray))
    (sym (append-nil (values (codes "RAY") (column_names c.args.deck.now))))
    (λ ls ms a b. (
      ((a.0.0 ∙ names_length c.args.deck.now, b.0.0 ∙ names_length c.args.deck.now), (a.0.1, b.0.1)),
      ap (λ t. codes "UNBOUNDED" ∷ t)
          (ap₂ (λ (p q : List (List ℕ)). p ++ q) a.1 b.1),
    ))
    with_x (c.in_ok-ray.ensures c.args.deck.now))
    refl (λ ls h. h)
