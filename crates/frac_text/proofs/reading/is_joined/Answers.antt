use Rattle.frac_text.proofs.Joined.{joined, not_joined}
use Rattle.frac_text.proofs.reading.is_joined.Goals as goal

pub returns-in-None : goal.returns-in-None
returns-in-None c = not_joined c.args.before.now c.args.after.now c.args.text.now c.in-None.ensures.cases

pub returns-in-Some : goal.returns-in-Some
returns-in-Some c =
    joined c.args.before.now c.args.after.now c.args.text.now c.in-Some.rest.now c.is_after_stroke.result c.in-Some.ensures.cases.0 c.in-Some.ensures.cases.1 c.is_after_stroke.ensures
