use Rattle.std.proofs.Common.{◌∙◌, refl, subst}
use Rattle.mps_reader.proofs.HandedOn.{err_handed_on, if_handed_on, is_handed_on}
use Rattle.mps_reader.specs.Inner.Reached.{IsLineCause}
use Rattle.mps_reader.proofs.NeededLemmas.{needed_next, unread}
use Rattle.mps_reader.proofs.ReachedLemmas.{deck_read, end_refused, err_is, has_bytes, lines_first, lines_next, lines_unmoved, next_stands, not_taken, reached_next, reached_start, read_failed, refused_line, rises, stands_at_end, stands_behind, still_sound}
use Rattle.mps_reader.proofs.reading.read_deck.Goals as goal

pub lines-init : goal.lines-init
lines-init g c = record {
  reached = reached_start c.args.form (g.S.Source.remaining c.args.source.now) c.args.lines.now c.in-Ok.draft c.requires c.in-Ok.ensures;
  needed = unread c.args.form c.args.lines.now.kept (g.S.Source.remaining c.args.source.now);
  stays = refl;
}

pub returns-in_default-clause-rest : goal.returns-in_default-clause-rest
returns-in_default-clause-rest g c = λ sound. lines_first (g.S.Source.remaining c.args.source.now) c.args.lines.now c.requires

pub returns-in_default-clause-needed : goal.returns-in_default-clause-needed
returns-in_default-clause-needed g c = unread c.args.form c.args.lines.now.kept (g.S.Source.remaining c.args.source.now)

pub returns-in_err-line-clause-rest : goal.returns-in_err-line-clause-rest
returns-in_err-line-clause-rest g c = λ sound. lines_unmoved _ _ _ _ c.lines.lines c.lines.draft c.lines.invariant.reached c.next_line.new.lines _ (c.in_err-line.ensures.unmoved sound)

pub returns-in_err-line-clause-fault : goal.returns-in_err-line-clause-fault
returns-in_err-line-clause-fault g c =
    if_handed_on _ _ _ (refused_line _ _ _ _ c.lines.lines c.lines.draft c.lines.invariant.reached _ _ _ c.in_err-line.field-0.0 c.in_err-line.ensures.fault) c.from_residual.ensures.1

pub returns-in_err-line-clause-needed : goal.returns-in_err-line-clause-needed
returns-in_err-line-clause-needed g c = needed_next _ _ _ _ _ c.lines.lines c.lines.draft c.lines.invariant.reached c.in_err-line.ensures.needed c.lines.invariant.needed

pub returns-in_err-line-clause-read : goal.returns-in_err-line-clause-read
returns-in_err-line-clause-read g c = λ is.
    let f = err_is _ _ _ (is_handed_on _ _ _ c.from_residual.ensures.1 is) in
    read_failed _ _ _ _ c.lines.lines c.lines.draft c.lines.invariant.reached _ _ _
    (subst (IsLineCause c.lines.lines (g.S.Source.remaining c.lines.source) (g.S.Source.remaining c.next_line.new.source)
    (g.S.Source.fault_count c.lines.source) (g.S.Source.fault_count c.next_line.new.source)) f c.in_err-line.ensures.fault)

pub returns-in_err-line-clause-stays : goal.returns-in_err-line-clause-stays
returns-in_err-line-clause-stays g c = λ other.
    c.in_err-line.ensures.stays (λ is. other (err_handed_on _ _ _ c.from_residual.ensures.1 (err_is _ _ _ is))) ∙ c.lines.invariant.stays

pub take_line-requires-clause-bytes : goal.take_line-requires-clause-bytes
take_line-requires-clause-bytes g c = has_bytes c.args.form c.lines.lines c.next_line.new.lines _ _ c.in_ok-line.line c.in_ok-line.ensures.line

pub returns-in_err-take_line-clause-rest : goal.returns-in_err-take_line-clause-rest
returns-in_err-take_line-clause-rest g c = λ sound. lines_next _ _ _ _ c.lines.lines c.lines.draft c.lines.invariant.reached c.next_line.new.lines _
    c.take_line.new.draft _ c.in_ok-line.ensures.line

pub returns-in_err-take_line-clause-after : goal.returns-in_err-take_line-clause-after
returns-in_err-take_line-clause-after g c =
    if_handed_on _ _ _ (stands_behind _ _ _ _ c.lines.lines c.lines.draft c.lines.invariant.reached c.next_line.new.lines _
    c.take_line.new.draft _ c.in_ok-line.ensures.line _ c.in_err-take_line.field-0.0 c.in_err-take_line.ensures.taken c.in_err-take_line.ensures.no_read)
    c.from_residual-in_err-take_line.ensures.1

pub returns-in_err-take_line-clause-fault : goal.returns-in_err-take_line-clause-fault
returns-in_err-take_line-clause-fault g c =
    if_handed_on _ _ _ (not_taken _ _ _ _ c.lines.lines c.lines.draft c.lines.invariant.reached c.next_line.new.lines _ c.take_line.new.draft
    _ c.in_ok-line.ensures.line c.in_err-take_line.field-0.0 c.in_err-take_line.ensures.taken)
    c.from_residual-in_err-take_line.ensures.1

pub returns-in_err-take_line-clause-needed : goal.returns-in_err-take_line-clause-needed
returns-in_err-take_line-clause-needed g c = needed_next _ _ _ _ _ c.lines.lines c.lines.draft c.lines.invariant.reached c.in_ok-line.ensures.needed c.lines.invariant.needed

pub into_deck-requires : goal.into_deck-requires
into_deck-requires g c = next_stands _ _ _ _ c.lines.lines c.lines.draft c.lines.invariant.reached c.next_line.new.lines _ c.take_line.new.draft _
    c.in_ok-line.ensures.line c.in_ok-take_line.ensures.taken

pub returns-then-has_finished-clause-deck : goal.returns-then-has_finished-clause-deck
returns-then-has_finished-clause-deck g c = deck_read _ _ _ _ c.lines.lines c.lines.draft c.lines.invariant.reached c.next_line.new.lines _ c.take_line.new.draft
    _ c.in_ok-line.ensures.line c.in_ok-take_line.ensures.taken c.has_finished.result c.has_finished.ensures c.if-has_finished.true c.into_deck.result
    c.into_deck.ensures.end

pub returns-then-has_finished-clause-rest : goal.returns-then-has_finished-clause-rest
returns-then-has_finished-clause-rest g c = λ sound. lines_next _ _ _ _ c.lines.lines c.lines.draft c.lines.invariant.reached c.next_line.new.lines _
    c.take_line.new.draft _ c.in_ok-line.ensures.line

pub returns-then-has_finished-clause-after : goal.returns-then-has_finished-clause-after
returns-then-has_finished-clause-after g c = stands_at_end _ _ _ _ c.lines.lines c.lines.draft c.lines.invariant.reached c.next_line.new.lines _
    c.take_line.new.draft _ c.in_ok-line.ensures.line c.in_ok-take_line.ensures.taken c.into_deck.result c.into_deck.ensures.end
    c.into_deck.ensures.no_read

pub returns-then-has_finished-clause-sound : goal.returns-then-has_finished-clause-sound
returns-then-has_finished-clause-sound g c = still_sound _ _ _ _ c.lines.lines c.lines.draft c.lines.invariant.reached c.next_line.new.lines _
    c.take_line.new.draft _ c.in_ok-line.ensures.line c.into_deck.result

pub returns-then-has_finished-clause-fault : goal.returns-then-has_finished-clause-fault
returns-then-has_finished-clause-fault g c = end_refused _ _ _ _ c.lines.lines c.lines.draft c.lines.invariant.reached c.next_line.new.lines _
    c.take_line.new.draft _ c.in_ok-line.ensures.line c.in_ok-take_line.ensures.taken c.has_finished.result c.has_finished.ensures
    c.if-has_finished.true c.into_deck.result c.into_deck.ensures.end

pub returns-then-has_finished-clause-needed : goal.returns-then-has_finished-clause-needed
returns-then-has_finished-clause-needed g c = needed_next _ _ _ _ _ c.lines.lines c.lines.draft c.lines.invariant.reached c.in_ok-line.ensures.needed c.lines.invariant.needed

pub lines-smaller : goal.lines-smaller
lines-smaller g c = rises _ _ _ _ c.lines.lines c.lines.draft c.lines.invariant.reached c.next_line.new.lines _ c.take_line.new.draft _ c.in_ok-line.ensures.line

pub lines-preserved : goal.lines-preserved
lines-preserved g c = record {
  reached = reached_next _ _ _ _ c.lines.lines c.lines.draft c.lines.invariant.reached c.next_line.new.lines _ c.take_line.new.draft _
      c.in_ok-line.ensures.line c.in_ok-take_line.ensures.taken c.has_finished.result c.has_finished.ensures c.if-has_finished.false;
  needed = needed_next _ _ _ _ _ c.lines.lines c.lines.draft c.lines.invariant.reached c.in_ok-line.ensures.needed c.lines.invariant.needed;
  stays = c.in_ok-line.ensures.stays (λ is. cc) ∙ c.lines.invariant.stays;
}
