use Rattle.std.proofs.Common.{◌≡◌, ◌++◌, ℕ, List, [], ◌∷◌, Ok, ◌∙◌, ap, subst}
use Rattle.report_lines.specs.FirstFlaw as expected
use Rattle.report_lines.specs.FirstFlaw.{repeated}
use Rattle.report_reader.specs.Inner.Lines.{after_kind, kind_line}
use Rattle.report_reader.specs.Inner.Reads.{Reads}
use Rattle.report_reader.proofs.Taking.{alone, ended, refused_alone}
use Rattle.report_reader.proofs.parts.read_outcome.Goals as goal

pub returns-in_err-read_kind : goal.returns-in_err-read_kind
returns-in_err-read_kind g c = refused_alone (c.in_err-read_kind.ensures c.args.deck.now) c.from_residual.ensures.1

pub read_optimal-requires : goal.read_optimal-requires
read_optimal-requires g c = (c.in_ok-read_kind.ensures c.args.deck.now).found.moves.ready

pub read_infeasible-requires : goal.read_infeasible-requires
read_infeasible-requires g c = (c.in_ok-read_kind.ensures c.args.deck.now).found.moves.ready

pub read_unbounded-requires : goal.read_unbounded-requires
read_unbounded-requires g c = (c.in_ok-read_kind.ensures c.args.deck.now).found.moves.ready

pub returns-in-Optimal : goal.returns-in-Optimal
returns-in-Optimal g c =
    let first = subst (λ k. Reads c.args.deck.now g.S.Source.remaining g.S.Source.fault_count c.args.lines.now c.read_kind.new.lines c.args.source.now
    c.read_kind.new.source
    (expected.kind ∷ []) (after_kind c.args.deck.now) (λ k ls. ls ≡ kind_line k ∷ []) (Ok k)) c.in-Optimal.is (c.in_ok-read_kind.ensures c.args.deck.now) in
    ended {r = c.read_optimal.result} (alone first) (λ o ls ms a b. (b.0, ap (λ (t : List (List ℕ)). t ++ ms) a ∙ b.1)) c.read_optimal.ensures

pub returns-in-Infeasible : goal.returns-in-Infeasible
returns-in-Infeasible g c =
    let first = subst (λ k. Reads c.args.deck.now g.S.Source.remaining g.S.Source.fault_count c.args.lines.now c.read_kind.new.lines c.args.source.now
    c.read_kind.new.source
    (expected.kind ∷ []) (after_kind c.args.deck.now) (λ k ls. ls ≡ kind_line k ∷ []) (Ok k)) c.in-Infeasible.is (c.in_ok-read_kind.ensures c.args.deck.now) in
    ended {r = c.read_infeasible.result} (alone first) (λ o ls ms a b. (b.0, ap (λ (t : List (List ℕ)). t ++ ms) a ∙ b.1)) c.read_infeasible.ensures

pub returns-in-Unbounded : goal.returns-in-Unbounded
returns-in-Unbounded g c =
    let first = subst (λ k. Reads c.args.deck.now g.S.Source.remaining g.S.Source.fault_count c.args.lines.now c.read_kind.new.lines c.args.source.now
    c.read_kind.new.source
    (expected.kind ∷ []) (after_kind c.args.deck.now) (λ k ls. ls ≡ kind_line k ∷ []) (Ok k)) c.in-Unbounded.is (c.in_ok-read_kind.ensures c.args.deck.now) in
    ended {r = c.read_unbounded.result} (alone first) (λ o ls ms a b. (b.0, ap (λ (t : List (List ℕ)). t ++ ms) a ∙ b.1)) c.read_unbounded.ensures
