use Rattle.rh_replay.proofs.Replays.{legal-empty, legal-with_call, legal-before, replay-with_call}
use Rattle.rh_replay.proofs.laws.a_legal_history_grows_by_the_steps_answer.Goals as goal

pub returns-clause-empty : goal.returns-clause-empty
returns-clause-empty c = legal-empty

pub returns-clause-grown : goal.returns-clause-grown
returns-clause-grown c = λ h call. (legal-before h call, λ both. legal-with_call h call both.0 both.1)

pub returns-clause-replayed : goal.returns-clause-replayed
returns-clause-replayed c = replay-with_call
