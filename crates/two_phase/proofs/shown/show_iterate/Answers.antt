use Rattle.std.proofs.Common.{refl}
use Rattle.two_phase.proofs.Showing.{one_position_each, one_status_each, stops_there}
use Rattle.two_phase.proofs.shown.show_iterate.Goals as goal

pub outcome-requires-clause-ends : goal.outcome-requires-clause-ends
outcome-requires-clause-ends g c = λ κs within.
    let inst = c.args.inst.now in
    let it = c.args.iterate.now in
    let stands = c.requires.stands in
    record {
      positions = one_position_each inst stands.1 it.state stands.2.reached;
      statuses = one_status_each inst c.requires.well_formed stands.1 it.state stands.2.reached;
      stops = stops_there inst it.state it.state it.prices.items _ it.values.items _ it.alpha.items _ c.args.stop refl c.deref.ensures.value c.deref-2.ensures.value c.deref-3.ensures.value c.requires.stops.1;
    }
