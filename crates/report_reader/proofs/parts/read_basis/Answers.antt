use Rattle.std.proofs.Common.{◌≡◌, [], None, Some, Ok, refl, sym, subst}
use Rattle.report_reader.specs.Inner.Lines.{of_basis}
use Rattle.report_reader.specs.Inner.Reads.{Reads}
use Rattle.report_reader.proofs.PartLines.{IsBasis}
use Rattle.report_reader.proofs.Taking.{alone, finished, none_yet, refused_alone}
use Rattle.report_reader.proofs.parts.read_basis.Goals as goal

pub returns-in_err-read_told_basis : goal.returns-in_err-read_told_basis
returns-in_err-read_told_basis g c =
    subst (λ t. Reads c.args.deck.now g.S.Source.remaining g.S.Source.fault_count c.args.lines.now c.read_told_basis.new.lines c.args.source.now
    c.read_told_basis.new.source
    (of_basis t) (λ _. []) (IsBasis c.args.deck.now t) c.from_residual.result)
    (sym c.if-tells.true) (refused_alone c.in_err-read_told_basis.ensures c.from_residual.ensures.1)

pub returns-in_ok-read_told_basis : goal.returns-in_ok-read_told_basis
returns-in_ok-read_told_basis g c =
    subst (λ t. Reads c.args.deck.now g.S.Source.remaining g.S.Source.fault_count c.args.lines.now c.read_told_basis.new.lines c.args.source.now
    c.read_told_basis.new.source
    (of_basis t) (λ _. []) (IsBasis c.args.deck.now t) (Ok (Some c.in_ok-read_told_basis.field-0)))
    (sym c.if-tells.true) (finished (alone c.in_ok-read_told_basis.ensures) refl (λ ls h. (refl, h.0, h.1)))

pub returns-else-tells : goal.returns-else-tells
returns-else-tells g c =
    subst (λ t. Reads c.args.deck.now g.S.Source.remaining g.S.Source.fault_count c.args.lines.now c.args.lines.now c.args.source.now
    c.args.source.now (of_basis t) (λ _. []) (IsBasis c.args.deck.now t) (Ok None))
    (sym c.if-tells.false) (finished
    (none_yet c.args.deck.now g.S.Source.remaining g.S.Source.fault_count c.args.lines.now c.args.source.now [] (λ ls. ls ≡ []) c.requires refl)
    refl (λ ls h. (refl, tt, h)))
