use Rattle.basis_solves.proofs.factoring.update.Goals as goal

pub returns-in-Ok-clause-represents : goal.returns-in-Ok-clause-represents
returns-in-Ok-clause-represents g c = c.in-Ok.ensures.represents
