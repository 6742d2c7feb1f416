use Rattle.std.proofs.Common.{◌≡◌, ◌↔◌, Ok, Option, None, Some, refl}
use Rattle.rh_cli.specs.Lisp.{IsLispStatus}
use Rattle.rh_lisp.specs.declared.outcome.Outcome.{Outcome}
use Rattle.rh_lisp.specs.declared.outcome.Outcome.TheVariants.{Finished, Stopped}
use Rattle.rh_cli.proofs.lisp.tell_end.Goals as goal

-- the status of a program by whether it stopped
finished : (outcome : Outcome) → outcome ≡ Finished → IsLispStatus (Ok outcome) 0
finished Finished is = refl
finished (Stopped problem source position) is = absurd cc

stopped : (outcome : Outcome) → (outcome ≡ Finished → ⊥) → IsLispStatus (Ok outcome) 1
stopped Finished not = absurd (not refl)
stopped (Stopped problem source position) not = refl

pub returns-in-None-clause-status : goal.returns-in-None-clause-status
returns-in-None-clause-status g c = finished c.args.ended.now.outcome (c.of_outcome.ensures.finished.0 c.in-None.is)

pub returns-in-Some-clause-status : goal.returns-in-Some-clause-status
returns-in-Some-clause-status g c = stopped c.args.ended.now.outcome (λ is. absurd (let none = c.of_outcome.ensures.finished.1 is in cc))
