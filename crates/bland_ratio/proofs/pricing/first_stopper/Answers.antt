-- The columns are looked at in order, up to the first stopper.
use Rattle.std.proofs.Common.{◌≡◌, ◌+◌, ◌-◌, ◌≤◌, ◌∙◌, arith}
use Rattle.bland_ratio.specs.Entries.{column_entries, entries_from}
use Rattle.bland_ratio.proofs.Counting.{entries-next, entries-within}
use Rattle.bland_ratio.proofs.Stopping.{first_found, none_more}
use Rattle.bland_ratio.proofs.pricing.first_stopper.Goals as goal

pub returns-in-Some-clause-first : goal.returns-in-Some-clause-first
returns-in-Some-clause-first g c =
    let a = c.args in
    first_found (g.A.Arith.width a.arith.now) (g.A.Arith.width c.loop-j.arith) a.inst.now a.ticket.now a.from a.to c.loop-j.j c.number_of.result c.in-Some.unfit
    c.loop-j.invariant.width c.number_of.ensures (omega arith) (omega arith) c.in-Some.ensures.stops c.loop-j.invariant.none

-- the columns before the stopper and the stopper itself
pub returns-in-Some-clause-work : goal.returns-in-Some-clause-work
returns-in-Some-clause-work g c =
    let a = c.args in
    let j = c.loop-j.j in
    let more : entries_from a.inst.now a.from (j + 1 - a.from) ≡ entries_from a.inst.now a.from (j - a.from) + column_entries a.inst.now j =
    entries-next a.inst.now a.from j (omega arith) in
    let within : entries_from a.inst.now a.from (j + 1 - a.from) ≤ entries_from a.inst.now a.from (a.to - a.from) =
    entries-within a.inst.now a.from (j + 1 - a.from) (a.to - a.from) (omega arith) in
    omega (arith, more, within, c.loop-j.invariant.work, c.in-Some.ensures.work)

pub loop-j-preserved : goal.loop-j-preserved
loop-j-preserved g c =
    let a = c.args in
    let more : entries_from a.inst.now a.from (c.loop-j.j + 1 - a.from) ≡ entries_from a.inst.now a.from (c.loop-j.j - a.from) + column_entries a.inst.now c.loop-j.j =
    entries-next a.inst.now a.from c.loop-j.j (omega arith) in
    record {
      width = c.stop.ensures.width ∙ c.loop-j.invariant.width;
      unfit = c.in_default.ensures.unfit ∙ c.loop-j.invariant.unfit;
      work = omega (arith, more, c.loop-j.invariant.work, c.in_default.ensures.work);
      none = none_more (g.A.Arith.width a.arith.now) (g.A.Arith.width c.loop-j.arith) a.inst.now a.ticket.now a.from c.loop-j.j c.loop-j.invariant.width
          c.loop-j.invariant.none c.in_default.ensures.stops;
    }
