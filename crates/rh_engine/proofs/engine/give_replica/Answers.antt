use Rattle.std.proofs.Common.{◌∙◌, ap}
use Rattle.rh_engine.specs.Engine.{given_or_refused}
use Rattle.rh_engine.proofs.EngineLemmas.{give_step-tray}
use Rattle.rh_engine.proofs.engine.give_replica.Goals as goal

pub returns-in-Ok-clause-state : goal.returns-in-Ok-clause-state
returns-in-Ok-clause-state g c =
    c.in-Ok.ensures.state ∙ ap (λ s. s.0) (give_step-tray c.args.heap.now c.args.replica.now)

pub returns-in-Ok-clause-answer : goal.returns-in-Ok-clause-answer
returns-in-Ok-clause-answer g c =
    ap given_or_refused (c.in-Ok.ensures.answer ∙ ap (λ s. s.1) (give_step-tray c.args.heap.now c.args.replica.now))

pub returns-in-Err-clause-state : goal.returns-in-Err-clause-state
returns-in-Err-clause-state g c =
    c.in-Err.ensures.state ∙ ap (λ s. s.0) (give_step-tray c.args.heap.now c.args.replica.now)

pub returns-in-Err-clause-answer : goal.returns-in-Err-clause-answer
returns-in-Err-clause-answer g c =
    ap given_or_refused (c.in-Err.ensures.answer ∙ ap (λ s. s.1) (give_step-tray c.args.heap.now c.args.replica.now))
