-- A card of data is judged by the section that has begun last.
use Rattle.std.proofs.Common.{Some, None}
use Rattle.mps_model.specs.declared.Section.TheVariants.{Bounds, Columns, Ranges, RightSides, Rows}
use Rattle.mps_model.specs.PairCards.{judge_column, judge_in_set}
use Rattle.mps_model.specs.RowCards.{judge_row}
use Rattle.mps_reader.specs.declared.pairs.Use.TheVariants.{AsRight, AsRange}
use Rattle.mps_reader.specs.Inner.Standing.{set_judge}
use Rattle.mps_reader.proofs.DataCards.{judged_as, judged_in}
use Rattle.mps_reader.proofs.draft.Draft.take_data.Goals as goal

pub returns-in-Rows : goal.returns-in-Rows
returns-in-Rows c = λ s h.
    judged_as _ (judge_row s c.args.fields.now) c.take_row.new.self c.take_row.result
    (judged_in c.args.self.now s c.args.section Rows h c.requires.last c.in-Rows.is c.args.fields.now)
    (c.take_row.ensures s h)

pub returns-in-Columns : goal.returns-in-Columns
returns-in-Columns c = λ s h.
    judged_as _ (judge_column s c.args.fields.now) c.take_column.new.self c.take_column.result
    (judged_in c.args.self.now s c.args.section Columns h c.requires.last c.in-Columns.is c.args.fields.now)
    (c.take_column.ensures s h)

pub returns-in-RightSides : goal.returns-in-RightSides
returns-in-RightSides c = λ s h.
    judged_as _ (judge_in_set (set_judge (Some AsRight)) s c.args.fields.now) c.take_in_set.new.self c.take_in_set.result
    (judged_in c.args.self.now s c.args.section RightSides h c.requires.last c.in-RightSides.is c.args.fields.now)
    (c.take_in_set.ensures s h)

pub returns-in-Ranges : goal.returns-in-Ranges
returns-in-Ranges c = λ s h.
    judged_as _ (judge_in_set (set_judge (Some AsRange)) s c.args.fields.now) c.take_in_set-in-Ranges.new.self c.take_in_set-in-Ranges.result
    (judged_in c.args.self.now s c.args.section Ranges h c.requires.last c.in-Ranges.is c.args.fields.now)
    (c.take_in_set-in-Ranges.ensures s h)

pub returns-in-Bounds : goal.returns-in-Bounds
returns-in-Bounds c = λ s h.
    judged_as _ (judge_in_set (set_judge None) s c.args.fields.now) c.take_in_set-in-Bounds.new.self c.take_in_set-in-Bounds.result
    (judged_in c.args.self.now s c.args.section Bounds h c.requires.last c.in-Bounds.is c.args.fields.now)
    (c.take_in_set-in-Bounds.ensures s h)
