use Rattle.std.proofs.Common.{◌++◌, ℕ, List, [], ◌∷◌, Some, Ok, refl, ◌∙◌, ap, ap₂, subst}
use Rattle.report_lines.specs.FirstFlaw as expected
use Rattle.report_lines.specs.FirstFlaw.{repeated}
use Rattle.report_reader.specs.Inner.Lines.{after_count}
use Rattle.report_reader.specs.Inner.Reads.{Reads}
use Rattle.report_reader.proofs.PartLines.{IsCounted, IsFinished, logged}
use Rattle.report_reader.proofs.Taking.{alone, finished, refused_alone, stopped, taken}
use Rattle.report_reader.proofs.parts.read_log.Goals as goal

pub returns-in_err-count : goal.returns-in_err-count
returns-in_err-count g c = refused_alone (c.in_err-count.ensures c.args.deck.now) c.from_residual.ensures.1

pub returns-in_default : goal.returns-in_default
returns-in_default g c =
    let first = subst (λ o. Reads c.args.deck.now g.S.Source.remaining g.S.Source.fault_count c.args.lines.now c.read_log_count.new.lines c.args.source.now
    c.read_log_count.new.source (expected.log_or_end ∷ []) after_count IsCounted (Ok o)) c.in_default.is (c.in_ok-count.ensures c.args.deck.now) in
    finished (alone first) refl (λ ls h. (tt, h.1 ∙ ap (λ l. l ∷ []) h.2))

pub read_entries-requires : goal.read_entries-requires
read_entries-requires g c = (c.in_ok-count.ensures c.args.deck.now).found.moves.ready

pub returns-in_err-log : goal.returns-in_err-log
returns-in_err-log g c =
    let first = subst (λ o. Reads c.args.deck.now g.S.Source.remaining g.S.Source.fault_count c.args.lines.now c.read_log_count.new.lines c.args.source.now
    c.read_log_count.new.source (expected.log_or_end ∷ []) after_count IsCounted (Ok o)) c.in-Some.is (c.in_ok-count.ensures c.args.deck.now) in
    stopped (expected.end ∷ []) refl (alone first) c.in_err-log.ensures c.from_residual-in_err-log.ensures.1

pub read_end-requires : goal.read_end-requires
read_end-requires g c = c.in_ok-log.ensures.found.moves.ready

pub returns-in_err-read_end : goal.returns-in_err-read_end
returns-in_err-read_end g c =
    let first = subst (λ o. Reads c.args.deck.now g.S.Source.remaining g.S.Source.fault_count c.args.lines.now c.read_log_count.new.lines c.args.source.now
    c.read_log_count.new.source (expected.log_or_end ∷ []) after_count IsCounted (Ok o)) c.in-Some.is (c.in_ok-count.ensures c.args.deck.now) in
    let with_log = logged c.args.deck.now g.S.Source.remaining g.S.Source.fault_count c.args.lines.now c.args.source.now _ _ _ _ c.in-Some.count
    c.in_ok-log.log (alone first) c.in_ok-log.ensures in
    stopped [] refl with_log (c.in_err-read_end.ensures c.args.deck.now) c.from_residual-in_err-read_end.ensures.1

pub returns : goal.returns
returns g c =
    let first = subst (λ o. Reads c.args.deck.now g.S.Source.remaining g.S.Source.fault_count c.args.lines.now c.read_log_count.new.lines c.args.source.now
    c.read_log_count.new.source (expected.log_or_end ∷ []) after_count IsCounted (Ok o)) c.in-Some.is (c.in_ok-count.ensures c.args.deck.now) in
    let with_log = logged c.args.deck.now g.S.Source.remaining g.S.Source.fault_count c.args.lines.now c.args.source.now _ _ _ _ c.in-Some.count
    c.in_ok-log.log (alone first) c.in_ok-log.ensures in
    finished
    (taken [] (IsFinished c.args.deck.now (Some c.in_ok-log.log)) refl (λ ls ms a b. (a.0, ap₂ (λ (p q : List (List ℕ)). p ++ q) a.1 b)) with_log
    (c.in_ok-read_end.ensures c.args.deck.now))
    refl (λ ls h. h)
