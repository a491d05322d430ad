use Rattle.std.proofs.Common.{◌≡◌, Some, None, sym, ap, ◌∙◌}
use Rattle.lp_text.specs.Cards.{field_of}
use Rattle.mps_model.specs.DeckSoFar.{place_of}
use Rattle.mps_model.specs.declared.RowType.TheVariants.{Free, Kept}
use Rattle.mps_model.specs.RowCards.{row_type_of, with_row_of}
use Rattle.mps_reader.proofs.DataCards.{judged_as}
use Rattle.mps_reader.proofs.RowsAdded.{judged_named, no_place}
use Rattle.mps_reader.proofs.draft.Draft.take_row.Goals as goal

pub add_free_row-requires-clause-stands : goal.add_free_row-requires-clause-stands
add_free_row-requires-clause-stands c =
    let s = c.requires.stands.0 in
    (s, c.requires.stands.1, no_place c.place.result (place_of s c.in_ok-name.name) (c.place.ensures.place s c.requires.stands.1) (sym c.is_some.ensures ∙ c.if-is_some.false))

pub add_row-requires-clause-stands : goal.add_row-requires-clause-stands
add_row-requires-clause-stands c =
    let s = c.requires.stands.0 in
    (s, c.requires.stands.1, no_place c.place.result (place_of s c.in_ok-name.name) (c.place.ensures.place s c.requires.stands.1) (sym c.is_some.ensures ∙ c.if-is_some.false))

pub returns-in-Free : goal.returns-in-Free
returns-in-Free c = λ s h.
    let fields = c.args.fields.now in
    let name = c.in_ok-name.name in
    let is : name ≡ field_of fields 2 = c.in_ok-name.ensures ∙ c.get-2.ensures in
    let none : place_of s name ≡ None = no_place c.place.result (place_of s name) (c.place.ensures.place s h) (sym c.is_some.ensures ∙ c.if-is_some.false) in
    let typed : row_type_of (field_of fields 1) ≡ Some Free =
    sym (ap row_type_of c.get.ensures) ∙ sym c.row_type_of.ensures ∙ c.in-Some.is ∙ ap Some c.in-Free.is in
    judged_as _ (with_row_of s name Free) c.add_free_row.new.self c.add_free_row.result (judged_named s fields Free name typed is none) (c.add_free_row.ensures s h none)

pub returns-in-Kept : goal.returns-in-Kept
returns-in-Kept c = λ s h.
    let fields = c.args.fields.now in
    let name = c.in_ok-name.name in
    let is : name ≡ field_of fields 2 = c.in_ok-name.ensures ∙ c.get-2.ensures in
    let none : place_of s name ≡ None = no_place c.place.result (place_of s name) (c.place.ensures.place s h) (sym c.is_some.ensures ∙ c.if-is_some.false) in
    let typed : row_type_of (field_of fields 1) ≡ Some (Kept c.in-Kept.kind) =
    sym (ap row_type_of c.get.ensures) ∙ sym c.row_type_of.ensures ∙ c.in-Some.is ∙ ap Some c.in-Kept.is in
    judged_as _ (with_row_of s name (Kept c.in-Kept.kind)) c.add_row.new.self c.add_row.result (judged_named s fields (Kept c.in-Kept.kind) name typed is none) (c.add_row.ensures s h none)
