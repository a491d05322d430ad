use Rattle.std.proofs.Common.{Some, sym, ap, ◌∙◌}
use Rattle.lp_text.specs.Senses.{sense_of}
use Rattle.mps_model.specs.Judgement.{with_sense_given}
use Rattle.mps_reader.proofs.CardsTaken.{sense_taken}
use Rattle.mps_reader.proofs.draft.Draft.take_sense.Goals as goal

pub returns : goal.returns
returns c = λ s h. (
  with_sense_given s (Some c.in-Some.sense),
  sense_taken s c.args.card c.in-Data.tokens c.in-Some.sense c.in-Data.is (ap sense_of (sym c.token.ensures) ∙ sym c.sense_of.ensures ∙ c.in-Some.is),
  c.give_sense.ensures s h,
)
