use Rattle.rh_replay.proofs.Replays.{one_verdict}
use Rattle.rh_replay.proofs.laws.a_history_has_one_verdict.Goals as goal

pub returns : goal.returns
returns c = one_verdict
