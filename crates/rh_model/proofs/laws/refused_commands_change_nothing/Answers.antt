use Rattle.rh_model.specs.Plain.{graph_of}
use Rattle.rh_model.specs.lemmas.Step.{step-Ok, step-Err}
use Rattle.rh_model.proofs.RefusalOrder.{refusal_least, refusal_none}
use Rattle.rh_model.proofs.laws.refused_commands_change_nothing.Goals as goal

pub returns-clause-unchanged : goal.returns-clause-unchanged
returns-clause-unchanged c = λ p q owner command refusal e.
    let refused = step-Err p q owner command refusal e in
    (refused.1, (refusal_least (graph_of p) owner command refusal refused.0).0)

pub returns-clause-accepted : goal.returns-clause-accepted
returns-clause-accepted c = λ p q owner command reply e. refusal_none (graph_of p) owner command (step-Ok p q owner command reply e).0
