-- How a board stands: from how far its run has come, and from what a step comes to.
use Rattle.std.specs.Prelude.{Option, Some, None}
use Rattle.plain_table.specs.declared.faults.TableFault.{TableFault}
use Rattle.plain_table.specs.declared.faults.TableFault.TheVariants as table
use Rattle.run_outcome.specs.declared.fault.OutcomeFault.{OutcomeFault}
use Rattle.run_outcome.specs.declared.fault.OutcomeFault.TheVariants as closing
use Rattle.run_outcome.specs.declared.stop.Stop.{Stop}
use Rattle.run_outcome.specs.declared.stop.Stop.TheVariants as stop
use Rattle.two_phase.specs.declared.reached.Reached.{Reached}
use Rattle.two_phase.specs.declared.reached.Reached.TheVariants as reached
use Rattle.two_phase.specs.declared.standing.BoardFault.{BoardFault}
use Rattle.two_phase.specs.declared.standing.BoardFault.TheVariants as fault
use Rattle.two_phase.specs.declared.standing.Course.{Course}
use Rattle.two_phase.specs.declared.standing.Course.TheVariants as course
use Rattle.two_phase.specs.declared.standing.Recorded.{Recorded}
use Rattle.two_phase.specs.declared.standing.Recorded.TheVariants as recorded
use Rattle.two_phase.specs.declared.standing.Standing.{Standing}
use Rattle.two_phase.specs.declared.standing.Standing.TheVariants as standing

abbrev pub standing_at : Stop → Standing
standing_at stop.Optimal = standing.Optimal
standing_at stop.Infeasible = standing.Infeasible
standing_at (stop.Free q down) = standing.Unbounded

abbrev pub standing_of : Course → Standing
standing_of course.Running = standing.Running
standing_of (course.Ended end) = standing_at end
standing_of course.Spent = standing.Spent

abbrev pub course_after : Reached → Course
course_after (reached.Entry e) = course.Running
course_after (reached.End end) = course.Ended end
course_after reached.Spent = course.Spent

abbrev pub answer_of : Option Reached → Recorded
answer_of None = recorded.Rescued
answer_of (Some (reached.Entry e)) = recorded.Entry e
answer_of (Some (reached.End end)) = recorded.Ended (standing_at end)
answer_of (Some reached.Spent) = recorded.Ended standing.Spent

abbrev pub board_fault : TableFault → BoardFault
board_fault table.Memory = fault.Memory
board_fault (table.Overflow here) = fault.Overflow here

abbrev pub closing_fault : OutcomeFault → BoardFault
closing_fault closing.Memory = fault.Memory
closing_fault (closing.Overflow here) = fault.Overflow here
