use Rattle.std.proofs.Common.{◌≡◌, ◌<◌, length, ◌∙◌, ap, subst}
use Rattle.lp_run.specs.Instance.{column_count}
use Rattle.lp_run.specs.State.{State}
use Rattle.plain_table.specs.Next.{column}
use Rattle.two_phase.proofs.Showing.{one_position_each, one_status_each, table_stops_there}
use Rattle.two_phase.proofs.shown.show_table.Goals as goal

pub outcome-requires-clause-ends : goal.outcome-requires-clause-ends
outcome-requires-clause-ends g c = λ κs within.
    let inst = c.args.inst.now in
    let t = c.args.table.now in
    let stands = c.requires.stands in
    let run = stands.2.stands.table.reached in
    let alpha = c.deref-2.result.now in
    record {
      positions = ap (λ (s : State). length s.basis) c.state.ensures ∙ one_position_each inst stands.1 t.state run;
      statuses = ap (λ (s : State). length s.statuses) c.state.ensures ∙ one_status_each inst c.requires.well_formed stands.1 t.state run;
      stops = table_stops_there inst t c.state.result.now c.deref.result.now c.values.result.now alpha c.args.stop c.state.ensures (c.deref.ensures.value ∙ c.in_ok-prices.ensures) c.values.ensures
          (subst (λ q. q < column_count inst → alpha ≡ column inst t q) c.free_column.ensures (λ below. c.deref-2.ensures.value ∙ c.in_ok-alpha.ensures below)) c.requires.stops;
    }
