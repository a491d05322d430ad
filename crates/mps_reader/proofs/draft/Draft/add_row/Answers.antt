use Rattle.std.proofs.Common.{◌≡◌, ◌≢◌, Result, Ok, Err, refl, sym, ap, subst, arith}
use Rattle.std.specs.Result.{IsErr, IsErrAnd}
use Rattle.deck_model.specs.declared.fault.EditFault.{EditFault}
use Rattle.deck_model.specs.declared.fault.EditFault.TheVariants as edit
use Rattle.lp_text.specs.declared.LineFault.{LineFault}
use Rattle.mps_model.specs.DeckSoFar.{DeckSoFar}
use Rattle.mps_reader.specs.declared.draft.Draft.{Draft}
use Rattle.mps_reader.specs.declared.refusal.Refusal.{Refusal}
use Rattle.mps_reader.specs.Inner.Refusals.{edit_refusal, line_fault}
use Rattle.mps_reader.specs.Inner.Standing.{IsFound, Judged}
use Rattle.lp_model.specs.Edit.{with_row}
use Rattle.mps_reader.proofs.RowsAdded.{fresh, no_column, room, row_added}
use Rattle.mps_reader.proofs.draft.Draft.add_row.Goals as goal

-- a refusal that is no repeated name is want of memory
only_memory : (judged : Result DeckSoFar LineFault) (new : Draft) (fault : EditFault) (result : Result (Unit {0}) Refusal) → fault ≢ edit.Repeated
    → IsErr result × IsErrAnd result (λ refusal. refusal ≡ edit_refusal fault) → Judged judged new result
only_memory judged new fault (Ok u) other refused = absurd (cc refused.0)
only_memory judged new edit.Memory (Err refusal) other refused = subst (λ r. IsFound judged (line_fault r)) (sym refused.1) tt
only_memory judged new edit.Repeated (Err refusal) other refused = absurd (other refl)

pub add_row-requires-clause-no_column : goal.add_row-requires-clause-no_column
add_row-requires-clause-no_column c = no_column c.args.self.now c.requires.stands.0 c.requires.stands.1 c.requires.rows

pub returns : goal.returns
returns c = λ s h none.
    let draft = c.args.self.now in
    let kept = row_added draft s h c.requires.rows c.args.name c.args.kind (record draft { deck = c.add_row.new.self }) refl refl refl refl refl (c.in_ok-add_row.ensures.ok) refl in
    (record s { deck = with_row s.deck c.args.name c.args.kind }, room draft s h c.requires.rows c.args.name c.args.kind (omega arith), kept)

pub returns-in_err-add_row : goal.returns-in_err-add_row
returns-in_err-add_row c = λ s h none.
    let apart = fresh c.args.self.now s h c.requires.rows c.args.name c.requires.spelled none in
    only_memory _ _ c.in_err-add_row.field-0.0 c.from_residual.result (λ e. let there = c.in_err-add_row.ensures.repeated.0 (ap Err e) in cc (there, apart)) c.from_residual.ensures
