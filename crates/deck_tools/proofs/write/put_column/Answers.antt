use Rattle.deck_tools.proofs.Pages.{Makes-then}
use Rattle.deck_tools.proofs.write.put_column.Goals as goal

pub returns : goal.returns
returns c = Makes-then {r = c.put_entries.result} c.in_ok-put_cost.ensures c.put_entries.ensures
