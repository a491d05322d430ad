-- The exit statuses.
use Rattle.std.specs.Prelude.{ℕ}
use Rattle.lp_main.specs.declared.status.Answer.{Answer}
use Rattle.lp_main.specs.declared.status.Answer.TheVariants as answer
use Rattle.lp_main.specs.declared.status.Status.{Status}
use Rattle.lp_main.specs.declared.status.Status.TheVariants.{Done, Refused, Usage, BadInput, ReadFault, WriteFault, Overflow, Budget, Memory}

abbrev pub code_of : Status → ℕ
code_of Done = 0
code_of Refused = 1
code_of Usage = 2
code_of BadInput = 3
code_of ReadFault = 4
code_of WriteFault = 5
code_of Overflow = 6
code_of Budget = 7
code_of Memory = 8

abbrev pub status_of_answer : Answer → Status
status_of_answer answer.Done = Done
status_of_answer answer.Refused = Refused
