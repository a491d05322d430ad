-- What a reader answers to a text is the answer to it.
use Rattle.std.proofs.Common.{ℕ, List, ◌++◌, Option, Some, Result, Ok, Err}
use Rattle.lp_model.specs.Deck.{Deck}
use Rattle.lp_text.specs.Report.{Report}
use Rattle.mps_cards.specs.ReaderState.{ReaderState}
use Rattle.report_lines.specs.declared.flaw.Flaw.{Flaw}
use Rattle.report_reader.specs.declared.fault.ReportFault.{ReportFault}
use Rattle.report_reader.specs.declared.fault.ReportFault.TheVariants.{At, Memory, Read}
use Rattle.report_laws.specs.Told.{Agrees, IsAnswer, IsReading, IsTellable}
use Rattle.report_laws.proofs.Telling.{one_answer}

pub answer_read : (d : Deck) (before : ReaderState) (bytes : List ℕ) (left' : Option (List ℕ)) (faults faults' : ℕ) (result : Result Report ReportFault)
    (answer : Result Report (ℕ × Flaw)) → IsTellable d → IsReading d before (Some bytes) left' faults faults' result
    → IsAnswer d (before.kept ++ bytes) answer → Agrees before answer result
answer_read d before bytes left' faults faults' (Ok report) answer tellable reading is =
    one_answer d (before.kept ++ bytes) answer (Ok report) tellable is (record { is_of = reading.report; is_text = reading.text })
answer_read d before bytes left' faults faults' (Err (At number found)) answer tellable reading is =
    (reading.cause.0, reading.cause.1, one_answer d (before.kept ++ bytes) answer (Err (reading.cause.0, found)) tellable is reading.cause.2)
answer_read d before bytes left' faults faults' (Err Read) answer tellable reading is = tt
answer_read d before bytes left' faults faults' (Err Memory) answer tellable reading is = tt
