-- Each step empties the last row of the list.
use Rattle.std.proofs.Common.{ℕ, ◌<◌, Some, None, length, replicate, sym, ap, ◌∙◌, subst, vec_capacity, arith}
use Rattle.std.specs.List.{All}
use Rattle.std.proofs.lemmas.List.{length-set, nil_from_length}
use Rattle.std.proofs.lemmas.List.Elements.{All-pop}
use Rattle.sparse_cols.proofs.Rows.{emptied, all_empty, IsFilledAt-none}
use Rattle.sparse_cols.proofs.work.Work.clear.Goals as goal

pub loop-i-preserved : goal.loop-i-preserved
loop-i-preserved g c =
    let row = c.loop-i.self-inside.values.items in
    let filled = c.loop-i.self-inside.filled.items in
    let rest = c.pop.new.self.items in
    let i = c.in-Some.i in
    let inv = c.loop-i.invariant in
    let shown = length-set row i None in
    let popped = All-pop (λ k. k < length row) filled rest (Some i) c.in-Some.ensures.items inv.in_range in
    record {
      same_length = shown ∙ inv.same_length;
      in_range = subst (λ (n : ℕ). All (λ k. k < n) rest) (sym shown) popped.0;
      empty_elsewhere = emptied row filled rest i c.in-Some.ensures.items popped.1 inv.empty_elsewhere;
      has_room = omega (arith, shown, c.pop.ensures.capacity, inv.has_room);
    }

pub invariant_of-self : goal.invariant_of-self
invariant_of-self g c =
    let row = c.loop-i.self-inside.values.items in
    let filled = c.loop-i.self-inside.filled in
    let rest = c.pop.new.self in
    let inv = c.loop-i.invariant in
    let before = nil_from_length filled.items (omega (arith, filled.ok.0, c.in_default.ensures.cases.0)) in
    let after = nil_from_length rest.items (omega (arith, rest.ok.0, c.in_default.ensures.cases.1)) in
    IsFilledAt-none row filled.items rest.items (vec_capacity rest) before after inv.empty_elsewhere (omega (arith, c.pop.ensures.capacity, inv.has_room))

pub returns : goal.returns
returns g c =
    let row = c.loop-i.self-inside.values.items in
    let filled = c.loop-i.self-inside.filled in
    let inv = c.loop-i.invariant in
    let before = nil_from_length filled.items (omega (arith, filled.ok.0, c.in_default.ensures.cases.0)) in
    all_empty row filled.items before inv.empty_elsewhere ∙ ap (λ (n : ℕ). replicate n None) inv.same_length
