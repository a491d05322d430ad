use Rattle.std.proofs.Common.{◌≡◌, ◌≢◌, length, position, nat_eq, Some, None, arith}
use Rattle.std.specs.Cmp.Lexicographic.{pointwise}
use Rattle.std.proofs.lemmas.Grind.{common_steps}
use Rattle.lp_model.specs.Edit.{find_row}
use Rattle.mps_reader.proofs.RowNames.{dropped_at, nowhere, objective_at, slot-free, slot-none}
use Rattle.mps_reader.proofs.draft.Draft.place.Goals as goal

pub returns-in-Some-eq0-clause-place : goal.returns-in-Some-eq0-clause-place
returns-in-Some-eq0-clause-place c = λ s h.
    let none : find_row c.args.self.now.deck c.args.name.now ≡ None = grind (arith, common_steps) in
    let found : position (pointwise nat_eq c.args.name.now) c.args.self.now.free_rows.keys ≡ Some 0 = cc in
    objective_at c.args.self.now s h c.args.name.now none found

pub returns-in-Some-eq0-clause-slot : goal.returns-in-Some-eq0-clause-slot
returns-in-Some-eq0-clause-slot c =
    let none : find_row c.args.self.now.deck c.args.name.now ≡ None = grind (arith, common_steps) in
    let found : position (pointwise nat_eq c.args.name.now) c.args.self.now.free_rows.keys ≡ Some 0 = cc in
    slot-free c.args.self.now.deck c.args.self.now.free_rows.keys c.args.name.now 0 (length c.args.self.now.deck.rows) none found (omega arith)

pub returns-in-Some-get_index_of-clause-place : goal.returns-in-Some-get_index_of-clause-place
returns-in-Some-get_index_of-clause-place c = λ s h.
    let none : find_row c.args.self.now.deck c.args.name.now ≡ None = grind (arith, common_steps) in
    let found : position (pointwise nat_eq c.args.name.now) c.args.self.now.free_rows.keys ≡ Some c.in-Some-get_index_of.k = cc in
    let later : c.in-Some-get_index_of.k ≢ 0 = grind (arith, common_steps) in
    dropped_at c.args.self.now s h c.args.name.now c.in-Some-get_index_of.k none found later

pub returns-in-Some-get_index_of-clause-slot : goal.returns-in-Some-get_index_of-clause-slot
returns-in-Some-get_index_of-clause-slot c =
    let none : find_row c.args.self.now.deck c.args.name.now ≡ None = grind (arith, common_steps) in
    let found : position (pointwise nat_eq c.args.name.now) c.args.self.now.free_rows.keys ≡ Some c.in-Some-get_index_of.k = cc in
    slot-free c.args.self.now.deck c.args.self.now.free_rows.keys c.args.name.now c.in-Some-get_index_of.k _ none found (omega arith)

pub returns-in-None-clause-place : goal.returns-in-None-clause-place
returns-in-None-clause-place c = λ s h.
    let none : find_row c.args.self.now.deck c.args.name.now ≡ None = grind (arith, common_steps) in
    let found : position (pointwise nat_eq c.args.name.now) c.args.self.now.free_rows.keys ≡ None = cc in
    nowhere c.args.self.now s h c.args.name.now none found

pub returns-in-None-clause-slot : goal.returns-in-None-clause-slot
returns-in-None-clause-slot c =
    let none : find_row c.args.self.now.deck c.args.name.now ≡ None = grind (arith, common_steps) in
    let found : position (pointwise nat_eq c.args.name.now) c.args.self.now.free_rows.keys ≡ None = cc in
    slot-none c.args.self.now.deck c.args.self.now.free_rows.keys c.args.name.now none found
