-- What is replied to a text.
use Rattle.std.specs.Prelude.{ℕ, List}
use Rattle.lp_main.specs.declared.refusal.Refusal.{Refusal}
use Rattle.lp_main.specs.declared.status.Answer.{Answer}

-- what is asked for, with its answer; or a refusal, of which standard error gets the line
pub data Reply : Type 0 where
  gives : Answer → List ℕ → Reply
  refuses : Refusal → Reply
