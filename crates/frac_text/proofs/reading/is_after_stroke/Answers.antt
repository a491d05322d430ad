use Rattle.frac_text.proofs.Joined.{after_stroke}
use Rattle.frac_text.proofs.reading.is_after_stroke.Goals as goal

pub returns-in-len1-up : goal.returns-in-len1-up
returns-in-len1-up c = after_stroke c.args.after.now c.args.text.now c.eq.result c.in-len1-up.len_at_least c.if-first-eq47.true c.eq.ensures
