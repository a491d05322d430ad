use Rattle.sparse_steps.proofs.Steps.{item_read, refused}
use Rattle.row_eta.proofs.Steps.{row_settles, row_stops}
use Rattle.row_eta.proofs.row.Goals as goal

pub returns-clause-settled : goal.returns-clause-settled
returns-clause-settled g c =
    row_settles _ c.args.p c.args.v.now c.index-v-p.result c.args.k.now.pairs (item_read c.args.v.now c.args.p c.index-v-p.result c.requires.row c.index-v-p.is)
    c.in_ok-rest.rest c.in_ok-rest.ensures.settled

pub returns-in_err-rest-clause-settled : goal.returns-in_err-rest-clause-settled
returns-in_err-rest-clause-settled g c =
    refused _ _ _ (λ _. _) (row_stops _ c.args.p c.args.v.now c.index-v-p.result c.args.k.now.pairs (item_read c.args.v.now c.args.p c.index-v-p.result c.requires.row c.index-v-p.is)
    c.in_err-rest.ensures.settled) c.from_residual.ensures.1
