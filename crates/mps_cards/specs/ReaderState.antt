-- A reader of lines, as its callers see it.
use Rattle.std.specs.Prelude.{ℕ, List, Option}
use Rattle.mps_cards.specs.declared.faults.ReadFault.{ReadFault}

-- the bytes that were read and not yet handed out, how many lines were answered, how many bytes stand from the mark
-- through the last of them, and the fault that each later call answers, if there is one
pub record ReaderState : Type 0 where
  pub kept : List ℕ
  pub count : ℕ
  pub since : ℕ
  pub fault : Option ReadFault
