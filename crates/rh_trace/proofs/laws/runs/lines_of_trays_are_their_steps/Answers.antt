use Rattle.std.proofs.Common.{refl}
use Rattle.rh_trace.proofs.laws.runs.lines_of_trays_are_their_steps.Goals as goal

pub returns-clause-dealt : goal.returns-clause-dealt
returns-clause-dealt c = λ e kind most tray. refl

pub returns-clause-given : goal.returns-clause-given
returns-clause-given c = λ e tray. refl

pub returns-clause-joined : goal.returns-clause-joined
returns-clause-joined c = λ e into other. refl
