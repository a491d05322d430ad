-- What a call leaves that hands lines to a sink.
use Rattle.std.specs.Prelude.{◌≡◌, ◌≤◌, ℕ, List, Option, Result, OnOk, IsErrOf}
use Rattle.io_ends.specs.Bytes.{Appends, AppendsPrefix}
use Rattle.io_ends.specs.Count.{Rose}
use Rattle.lp_text.specs.Lines.{text_of}
use Rattle.cert_text.specs.declared.fault.ReportWriteFault.{ReportWriteFault}
use Rattle.cert_text.specs.declared.fault.ReportWriteFault.TheVariants.{Write}

-- the sink gained the lines, or a beginning of them where the call was refused; its count of faults, which never falls, rose just where it failed
pub record Writes {S : Type 0} (contents : S → Option (List ℕ)) (fault_count : S → ℕ) (old new : S) (lines : List (List ℕ)) (result : Result (Unit {0}) ReportWriteFault) : Type 0 where
  pub whole : OnOk result (Appends (contents old) (contents new) (text_of lines))
  pub begun : AppendsPrefix (contents old) (contents new) (text_of lines)
  pub rose : IsErrOf result Write → Rose (fault_count old) (fault_count new)
  pub stays : ¬ IsErrOf result Write → fault_count new ≡ fault_count old
  pub never_falls : fault_count old ≤ fault_count new
