use Rattle.rh_shared.proofs.mutator.Mutator.call.Goals as goal

pub returns-clause-share : goal.returns-clause-share
returns-clause-share g c = c.add.ensures
