use Rattle.std.proofs.Common.{◌-◌, ap, arith, ◌∙◌, sym}
use Rattle.lp_text.specs.Cards.{field_of}
use Rattle.mps_reader.specs.Inner.Laid.{laid_out}
use Rattle.mps_reader.proofs.CardsTaken.{behind_set}
use Rattle.mps_reader.proofs.fields.field_in.Goals as goal

pub returns-in-KindWithoutSet-3 : goal.returns-in-KindWithoutSet-3
returns-in-KindWithoutSet-3 c =
    c.field_behind-in-KindWithoutSet-3.ensures ∙ behind_set c.args.tokens.now (c.args.field - 1) (omega arith)
    ∙ ap (λ layout. field_of (laid_out layout c.args.tokens.now) c.args.field) (sym c.in-KindWithoutSet-3.is)
