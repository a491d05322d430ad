use Rattle.mps_reader.proofs.Sets.{set_compared, set_taken}
use Rattle.mps_reader.proofs.draft.Draft.is_of_set.Goals as goal

pub returns-in-Some-clause-used : goal.returns-in-Some-clause-used
returns-in-Some-clause-used c = λ s h. set_compared c.args.self.now s h c.args.name.now c.bytes.result.now c.eq.result (cc) (cc)

pub returns-in_ok-of-in-None-clause-used : goal.returns-in_ok-of-in-None-clause-used
returns-in_ok-of-in-None-clause-used c = λ s h. set_taken c.args.self.now s h c.args.name.now c.in_ok-of-in-None.field-0 (cc) c.in_ok-of-in-None.ensures
