use Rattle.std.proofs.Common.{◌++◌}
use Rattle.std.specs.List.{flat_map}
use Rattle.std.specs.Prelude.{codes}
use Rattle.deck_tools.specs.Layout.{constant_lines, right_lines}
use Rattle.deck_tools.proofs.Pages.{Makes-also, Makes-section}
use Rattle.deck_tools.proofs.write.put_rights.Goals as goal

pub returns : goal.returns
returns c =
    let d = c.args.deck.now in
    let both = Makes-also c.in_ok-put_constant.ensures c.in_ok-put_each_right.ensures in
    Makes-section (codes "RHS") (constant_lines d ++ flat_map right_lines d.rows) (rw c.new-lines.ensures at both) c.in_ok-put_section.ensures
